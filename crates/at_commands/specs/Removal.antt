-- The steps of a removal, and why it may stop (own).
use Rattle.std.specs.Prelude.{◌≡◌, ℕ, List}
use Rattle.listing_text.specs.declared.cause.Cause.{Cause}
use Rattle.listing_text.specs.declared.cause.Cause.TheVariants.{FileFault, Memory}
use Rattle.spool_model.specs.declared.step.Step.{Step}
use Rattle.spool_model.specs.JobTable.{JobTable}
use Rattle.tool_output.specs.declared.command_error.CommandError.{CommandError}
use Rattle.command_rules.specs.Requested.{removal_steps}

-- the steps are those of a removal of these numbers
abbrev pub AreRemoval : List ℕ → JobTable → List Step → Type 0
AreRemoval numbers table steps = steps ≡ removal_steps table numbers

-- a fault of a file, or an out-of-memory error
abbrev pub IsRemovalCause : Cause → Type 0
IsRemovalCause FileFault = Unit {0}
IsRemovalCause Memory = Unit {0}
IsRemovalCause _ = ⊥

-- the command was stopped by one of these
abbrev pub ComesOfRemoving : CommandError → Type 0
ComesOfRemoving stopped = IsRemovalCause stopped.cause
