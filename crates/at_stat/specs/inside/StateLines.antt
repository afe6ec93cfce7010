-- The lines, put after the sessions (own).
use Rattle.std.specs.Prelude.{◌≡◌, ℕ, Bool, true, false, List, Option, Some, None}
use Rattle.tool_output.specs.Sinks.{IsCut, IsPut, IsSilent, SinkAt}
use Rattle.civil_minute.specs.declared.zone.Zone.{Zone}
use Rattle.listing_text.specs.declared.cause.Cause.{Cause}
use Rattle.listing_text.specs.declared.cause.Cause.TheVariants.{Memory, OutputFault, StillRunning}
use Rattle.at_stat.specs.Checks.{done_code}
use Rattle.at_stat.specs.declared.request.StatRequest.{StatRequest}
use Rattle.at_stat.specs.declared.status.StatExit.{StatExit}
use Rattle.at_stat.specs.declared.session_loop.StatResult.{StatResult}
use Rattle.at_stat.specs.StatOutcome.{IsText, stopped_status}

-- the status of what a last session saw
abbrev pub sight_status : StatRequest → StatResult → Bool → StatExit
sight_status request sight true = record { code = done_code request.wait request.which sight.store.table; cause = None }
sight_status request sight false = stopped_status StillRunning

-- what was put of the text, by the status
abbrev pub PutsStatesBy : StatRequest → StatResult → List ℕ → Bool → SinkAt → SinkAt → ℕ → Option Cause → Type 0
PutsStatesBy request sight text tells old new code None =
    (sight.finished ≡ true) × (code ≡ done_code request.wait request.which sight.store.table) ×
    (tells ≡ true → IsPut text old new)
PutsStatesBy request sight text tells old new code (Some StillRunning) = (sight.finished ≡ false) ×
    (tells ≡ true → IsPut text old new)
PutsStatesBy request sight text tells old new code (Some OutputFault) = tells ≡ true → IsCut text old new
PutsStatesBy request sight text tells old new code (Some Memory) = tells ≡ true → IsSilent old new
PutsStatesBy request sight text tells old new code (Some _) = ⊥

-- a text of the jobs was put so, or memory ran out for one
abbrev pub PutsStateLines : StatRequest → List ℕ → Zone → StatResult → Bool → SinkAt → SinkAt → StatExit → Type 0
PutsStateLines request user zone sight tells old new status =
    (text : List ℕ) × (IsText request user zone sight.store.table text)
    × PutsStatesBy request sight text tells old new status.code status.cause

-- or memory ran out for a text
pub record IsWithoutText (tells : Bool) (old new : SinkAt) (status : StatExit) : Type 0 where
  pub status_is : status ≡ stopped_status Memory
  pub unchecked : tells ≡ true → IsSilent old new
