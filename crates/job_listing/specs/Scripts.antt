-- What is put of scripts (own).
use Rattle.std.specs.Prelude.{◌≡◌, ◌≤◌, ℕ, Bool, true, List, Result, Ok, Err, IfErr, IsErrOf}
use Rattle.host_calls.specs.Causes.{Rose}
use Rattle.host_calls.specs.World.{World}
use Rattle.step_runs.specs.Current.{IsCurrent, Kept}
use Rattle.listing_text.specs.declared.cause.Cause.{Cause}
use Rattle.listing_text.specs.declared.cause.Cause.TheVariants.{FileFault, OutputFault, Memory}
use Rattle.spool_model.specs.JobTable.{JobTable}
use Rattle.tool_output.specs.declared.command_error.CommandError.{CommandError}
use Rattle.tool_output.specs.Causes.{error_of}
use Rattle.command_rules.specs.Requested.{scripts_of}
use Rattle.tool_output.specs.Sinks.{IsPut, IsPutInPart, SinkAt}

-- a script could not be read or put, or there was no memory
abbrev pub IsOfShowing : Cause → Type 0
IsOfShowing FileFault = Unit {0}
IsOfShowing OutputFault = Unit {0}
IsOfShowing Memory = Unit {0}
IsOfShowing _ = ⊥

-- the call was stopped by one of these
abbrev pub ComesOfShowing : CommandError → Type 0
ComesOfShowing stopped = IsOfShowing stopped.cause

-- the text was put, whole where the call succeeded, else a prefix of it
abbrev pub PutsScriptsBy : List ℕ → SinkAt → SinkAt → Result (Unit {0}) CommandError → Type 0
PutsScriptsBy text old new (Ok done) = IsPut text old new
PutsScriptsBy text old new (Err stopped) = IsPutInPart text old new

-- The scripts of the live jobs of these numbers were put, one after another, or a prefix of them; the spool is left alone.
pub record PutsScripts (files output : Bool) (kept : Kept) (numbers : List ℕ) (old new : World) (was is : SinkAt)
    (result : Result (Unit {0}) CommandError) : Type 0 where
  pub looks : files ≡ true → new ≡ old
  pub comes : IfErr result ComesOfShowing
  pub failed : IsErrOf result (error_of OutputFault) → Rose was.faults is.faults
  pub later : was.faults ≤ is.faults
  pub puts : files ≡ true → output ≡ true → (table : JobTable) → IsCurrent kept old.now.directory table →
      PutsScriptsBy (scripts_of table numbers) was is result
