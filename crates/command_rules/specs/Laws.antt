-- What follows from how a command ends, whatever is said to its caller.
use Rattle.std.specs.Prelude.{◌≡◌, ◌≢◌, ◌⊎◌, [], ℕ, List, Some, None, Ok, true}
use Rattle.host_calls.specs.World.{reading}
use Rattle.step_runs.specs.Attempts.{Attempts, IsBegun, IsUnbegun}
use Rattle.step_runs.specs.Current.{EachShows}
use Rattle.listing_text.specs.declared.cause.Cause.{Cause}
use Rattle.listing_text.specs.declared.cause.Cause.TheVariants.{Busy, Done, FileFault, InputFault, Memory, OutputFault, Refused}
use Rattle.listing_text.specs.declared.refusal.Refusal.{Refusal}
use Rattle.spool_model.specs.declared.step.Step.{Step}
use Rattle.spool_model.specs.JobTable.{JobTable}
use Rattle.spool_model.specs.Steps.{after_steps}
use Rattle.spool_shows.specs.Shown.{shown_by}
use Rattle.tool_output.specs.declared.caller.Caller.{Caller}
use Rattle.command_rules.specs.Ends.{CommandEnds}
use Rattle.tool_output.specs.Outside.{Holding, Telling}
use Rattle.command_rules.specs.Found.{Asked}
use Rattle.command_rules.specs.Requested.{AreAskedSteps, OrNone}
use Rattle.tool_output.specs.Sinks.{SinkAt}
use Rattle.command_rules.specs.Verdict.{verdict_of}

-- the command ended so, on a host that exposes its files and is alone
pub record EndsExposed (Notes : Cause → (List ℕ → Type 0) → SinkAt → SinkAt → Type 0) (asked : Asked)
    (caller : Caller) (tells : Telling)
    (before after : Holding) (cause : Cause) : Type 0 where
  pub ends : CommandEnds Notes asked caller tells before after cause
  pub files : tells.files ≡ true
  pub alone : tells.alone ≡ true

module _ (Notes : Cause → (List ℕ → Type 0) → SinkAt → SinkAt → Type 0) where
  -- What is not refused on a directory that shows a table, and meets no fault of the outside, is done or runs out of
  -- memory.
  abbrev pub WhatIsAllowedIsDone : Type 0
  WhatIsAllowedIsDone = (asked : Asked) (caller : Caller) (tells : Telling) (before after : Holding) (cause : Cause) →
      (known : EndsExposed Notes asked caller tells before after cause) → (table : JobTable) →
      shown_by (reading before.spool) ≡ Ok table →
      verdict_of asked caller known.ends.found (Ok table) ≡ None → cause ≢ FileFault → cause ≢ InputFault → cause ≢ OutputFault →
      cause ≢ Busy → (cause ≡ Done) ⊎ (cause ≡ Memory)

  -- After a refusal the directory shows what it showed.
  abbrev pub RefusalsChangeNothing : Type 0
  RefusalsChangeNothing = (asked : Asked) (caller : Caller) (tells : Telling) (before after : Holding) (refusal : Refusal) →
      EndsExposed Notes asked caller tells before after (Refused refusal) →
      shown_by (reading after.spool) ≡ shown_by (reading before.spool)

  -- What the verdict refuses has no step, whatever is answered.
  abbrev pub WhatIsRefusedHasNoStep : Type 0
  WhatIsRefusedHasNoStep = (asked : Asked) (caller : Caller) (tells : Telling) (before after : Holding) (cause : Cause)
      (refusal : Refusal) → (known : EndsExposed Notes asked caller tells before after cause) →
      verdict_of asked caller known.ends.found (shown_by (reading before.spool)) ≡ Some refusal →
      IsUnbegun before.spool after.spool ⊎ ((table : JobTable) × IsBegun table [] before.spool after.spool)

  -- However a command ends, a crash at any moment of it leaves what was shown before it, or the table after a prefix of
  -- its steps.
  abbrev pub CrashesLeavePrefixes : Type 0
  CrashesLeavePrefixes = (asked : Asked) (caller : Caller) (tells : Telling) (before after : Holding) (cause : Cause) →
      (known : EndsExposed Notes asked caller tells before after cause) →
      Attempts (OrNone (AreAskedSteps asked caller known.ends.found)) before.spool after.spool

  -- What is done is durable: each image shows the table after all steps of the command.
  abbrev pub FinishedWorkIsKept : Type 0
  FinishedWorkIsKept = (asked : Asked) (caller : Caller) (tells : Telling) (before after : Holding) →
      (known : EndsExposed Notes asked caller tells before after Done) →
      (table : JobTable) × (steps : List Step) × (shown_by (reading before.spool) ≡ Ok table)
      × AreAskedSteps asked caller known.ends.found table steps × EachShows after.spool.now.directory (after_steps table steps)
