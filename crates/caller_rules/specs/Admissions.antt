-- Whether a tool runs on its spool (own).
use Rattle.std.specs.Prelude.{◌≡◌, ℕ, Bool, true, false, List, Option}
use Rattle.caller_environment.specs.declared.tool_name.ToolName.{ToolName}
use Rattle.system_calls.specs.SystemCall.{SystemCall}
use Rattle.caller_rules.specs.DaemonRequests.{IsDaemonRequested}
use Rattle.caller_rules.specs.DaemonStarts.{IsToolBegun}
use Rattle.caller_rules.specs.MachineLists.{IsPermitted}
use Rattle.caller_rules.specs.SpoolUses.{IsUseFound}
use Rattle.caller_rules.specs.declared.admission.Admission.{Admission}
use Rattle.caller_rules.specs.declared.admission.Admission.TheVariants.{Refused, KeptOut, Busy, Admitted}
use Rattle.caller_rules.specs.declared.spool_paths.SpoolPaths.{SpoolPaths}
use Rattle.caller_rules.specs.declared.spool_use.SpoolUse.TheVariants as use_of
use Rattle.caller_rules.specs.declared.tool_spool.ToolSpool.{ToolSpool}
use Rattle.caller_rules.specs.declared.user.CallingUser.{CallingUser}

-- a daemon was requested where the words submit jobs
abbrev pub IsDaemonRequestedWhere : Bool → ToolName → CallingUser → ToolSpool → List SystemCall → List SystemCall → Type 0
IsDaemonRequestedWhere true tool user spool old new = IsDaemonRequested tool user spool old new
IsDaemonRequestedWhere false tool user spool old new = new ≡ old

-- the locks were taken, and then a daemon was requested where the words submit jobs
pub record IsRequestedAlone (tool : ToolName) (words : List (List ℕ)) (submits : Bool) (user : CallingUser) (spool : ToolSpool)
    (paths : Option SpoolPaths) (old new : List SystemCall) : Type 0 where
  pub begun : List SystemCall
  pub alone : IsToolBegun tool words paths old begun true
  pub requested : IsDaemonRequestedWhere submits tool user spool begun new

-- of a tool that may use its spool: it runs, or another daemon has the spool
abbrev pub IsToolStarted : ToolName → List (List ℕ) → Bool → CallingUser → ToolSpool → Option SpoolPaths →
    List SystemCall → List SystemCall → Admission → Type 0
IsToolStarted tool words submits user spool paths old new Refused = ⊥
IsToolStarted tool words submits user spool paths old new KeptOut = ⊥
IsToolStarted tool words submits user spool paths old new Busy = IsToolBegun tool words paths old new false
IsToolStarted tool words submits user spool paths old new (Admitted found) =
    (found ≡ paths) × IsRequestedAlone tool words submits user spool paths old new

-- the lists of the machine let the user call the tool, and then the spool was judged so
pub record IsKeptOut (tool : ToolName) (words : List (List ℕ)) (user : CallingUser) (spool : ToolSpool)
    (old new : List SystemCall) : Type 0 where
  pub listed : List SystemCall
  pub permitted : IsPermitted tool user old listed true
  pub judged : IsUseFound tool words user spool listed new use_of.KeptOut

-- the lists of the machine let the user call the tool, the spool may be used, and then the tool was started so
pub record IsAdmitted (tool : ToolName) (words : List (List ℕ)) (submits : Bool) (user : CallingUser) (spool : ToolSpool)
    (old new : List SystemCall) (admission : Admission) : Type 0 where
  pub listed : List SystemCall
  pub usable : List SystemCall
  pub paths : Option SpoolPaths
  pub permitted : IsPermitted tool user old listed true
  pub judged : IsUseFound tool words user spool listed usable (use_of.Usable paths)
  pub started : IsToolStarted tool words submits user spool paths usable new admission

-- Whether the tool runs: first the lists of the machine are asked, then whose the spool is, then whether another daemon works on
-- it, and last a daemon is requested. What refuses ends it: nothing is asked after it.
abbrev pub IsAdmission : ToolName → List (List ℕ) → Bool → CallingUser → ToolSpool → List SystemCall → List SystemCall →
    Admission → Type 0
IsAdmission tool words submits user spool old new Refused = IsPermitted tool user old new false
IsAdmission tool words submits user spool old new KeptOut = IsKeptOut tool words user spool old new
IsAdmission tool words submits user spool old new Busy = IsAdmitted tool words submits user spool old new Busy
IsAdmission tool words submits user spool old new (Admitted paths) =
    IsAdmitted tool words submits user spool old new (Admitted paths)
