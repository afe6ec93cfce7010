-- A session of a command, from entering to leaving, after the checks before it (own).
use Rattle.std.specs.Prelude.{◌≡◌, ℕ, Bool, true, false, List, Option, None, Result, Ok}
use Rattle.at_words.specs.declared.tool_request.ToolRequest.{ToolRequest}
use Rattle.host_calls.specs.declared.damage.Damage.{Damage}
use Rattle.host_calls.specs.World.{World, reading}
use Rattle.listing_text.specs.declared.cause.Cause.{Cause}
use Rattle.spool_model.specs.declared.step.Step.{Step}
use Rattle.spool_model.specs.JobTable.{JobTable}
use Rattle.tool_output.specs.declared.caller.Caller.{Caller}
use Rattle.command_rules.specs.Checks.{Check, ComesUpTo, is_earlier_check, of_lock, of_spool}
use Rattle.command_rules.specs.Ends.{KeepsOrder, Reaches}
use Rattle.command_rules.specs.Found.{AreInDirectory, Found}
use Rattle.command_rules.specs.Requested.{RequestPrints, RequestSays, next_number, steps_of_request}
use Rattle.command_rules.specs.Spool.{SpoolEnds}
use Rattle.command_rules.specs.Verdict.{spool_verdict, table_verdict}

-- what is found with the texts of at.allow and at.deny
abbrev pub Finding : Type 0
Finding = Option (List ℕ) → Option (List ℕ) → Found

-- the steps of a request that the table does not refuse
pub record AreWorkSteps (asked : ToolRequest) (caller : Caller) (found : Found) (table : JobTable)
    (steps : List Step) : Type 0 where
  pub none : table_verdict asked caller (Ok table) ≡ None
  pub steps_are : steps ≡ steps_of_request asked caller found table

-- the steps of a request that the session does not refuse
pub record AreUnrefusedSteps (asked : ToolRequest) (caller : Caller) (found : Found) (table : JobTable)
    (steps : List Step) : Type 0 where
  pub none : spool_verdict asked caller found (Ok table) ≡ None
  pub steps_are : steps ≡ steps_of_request asked caller found table

-- the text that is printed, of a request that the session does not refuse
abbrev pub IsSessionText : ToolRequest → Caller → Found → Result JobTable Damage → List ℕ → Type 0
IsSessionText asked caller found shown text =
    (table : JobTable) × (shown ≡ Ok table) × (spool_verdict asked caller found shown ≡ None) ×
    RequestPrints asked caller table text

-- the line that is said, of such a request
abbrev pub IsSessionLine : ToolRequest → Caller → Found → Result JobTable Damage → List ℕ → Type 0
IsSessionLine asked caller found shown line =
    (spool_verdict asked caller found shown ≡ None) × RequestSays asked caller.zone found (next_number shown) line

-- After the checks before it, a session was entered for the request and left, or could not be entered.
pub record Carries (tells alone : Bool) (asked : ToolRequest) (caller : Caller) (finding : Finding) (old new : World)
    (cause : Cause) : Type 0 where
  pub allow : Option (List ℕ)
  pub deny : Option (List ℕ)
  pub shown : Result JobTable Damage
  pub reached : Check
  pub entered : is_earlier_check reached of_lock ≡ false
  pub reach : Reaches cause reached
  pub order : KeepsOrder (spool_verdict asked caller (finding allow deny) shown) cause
  pub up_to : ComesUpTo (spool_verdict asked caller (finding allow deny) shown) reached
  pub directory : tells ≡ true → alone ≡ true → AreInDirectory (reading old) (finding allow deny) shown
  pub apart : tells ≡ true → alone ≡ true → is_earlier_check reached of_spool ≡ true → new ≡ old
  pub spool : tells ≡ true → alone ≡ true → SpoolEnds (AreUnrefusedSteps asked caller (finding allow deny)) old new cause
