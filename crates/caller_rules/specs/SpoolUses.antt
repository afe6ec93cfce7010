-- Whether a tool may use its spool (own).
use Rattle.std.specs.Prelude.{◌≡◌, ◌⊎◌, ◌||◌, ℕ, Bool, true, false, IsTrue, not, List, Option}
use Rattle.caller_environment.specs.declared.tool_name.ToolName.{ToolName}
use Rattle.caller_environment.specs.declared.tool_name.ToolName.TheVariants.{Atcheck}
use Rattle.system_calls.specs.SystemCall.{SystemCall}
use Rattle.caller_rules.specs.OwnSpool.{AreDurablyMade, IsListedSpool}
use Rattle.caller_rules.specs.Permission.{IsJudgedWhere, IsSaveJudged, saved_into}
use Rattle.caller_rules.specs.SpoolPaths.{AreSpoolPaths}
use Rattle.caller_rules.specs.Users.{is_root_user}
use Rattle.caller_rules.specs.declared.spool_paths.SpoolPaths.{SpoolPaths}
use Rattle.caller_rules.specs.declared.spool_use.SpoolUse.{SpoolUse}
use Rattle.caller_rules.specs.declared.spool_use.SpoolUse.TheVariants.{Usable, KeptOut}
use Rattle.caller_rules.specs.declared.tool_spool.ToolSpool.{ToolSpool}
use Rattle.caller_rules.specs.declared.user.CallingUser.{CallingUser}

-- The caller's own spool was made where it is absent, each name durable before the next. Root's, and one that a word or a
-- variable names, is left as it is.
pub record IsOwnMade (user : CallingUser) (spool : ToolSpool) (old new : List SystemCall) (made : Bool) : Type 0 where
  pub other : (not spool.is_own || is_root_user user) ≡ true → new ≡ old
  pub durable : IsTrue made → AreDurablyMade old new
  pub listed : IsTrue made → IsTrue (not (not spool.is_own || is_root_user user)) → IsListedSpool spool.path new

-- the directory into which atcheck saves was judged as a spool is; the other tools save into none
abbrev pub IsTargetJudged : ToolName → List (List ℕ) → CallingUser → List SystemCall → List SystemCall → Bool → Type 0
IsTargetJudged Atcheck words user old new may = IsSaveJudged (saved_into words) user.number old new may
IsTargetJudged _ words user old new may = (new ≡ old) × (may ≡ true)

-- the spool is another's, or a link lies next to it
pub record IsOthers (user : CallingUser) (spool : ToolSpool) (old new : List SystemCall) : Type 0 where
  pub after_made : List SystemCall
  pub after_found : List SystemCall
  pub paths : Option SpoolPaths
  pub made : IsOwnMade user spool old after_made true
  pub found : AreSpoolPaths spool.path after_made after_found paths
  pub judged : IsJudgedWhere paths user.number after_found new false

-- the directory into which it is to be saved is another's, or a link lies next to it
pub record IsTargetOthers (tool : ToolName) (words : List (List ℕ)) (user : CallingUser) (spool : ToolSpool)
    (old new : List SystemCall) : Type 0 where
  pub after_made : List SystemCall
  pub after_found : List SystemCall
  pub after_judged : List SystemCall
  pub paths : Option SpoolPaths
  pub made : IsOwnMade user spool old after_made true
  pub found : AreSpoolPaths spool.path after_made after_found paths
  pub judged : IsJudgedWhere paths user.number after_found after_judged true
  pub target : IsTargetJudged tool words user after_judged new false

-- all of the spool, and of the directory into which it is to be saved, is the user's
pub record IsUsable (tool : ToolName) (words : List (List ℕ)) (user : CallingUser) (spool : ToolSpool)
    (old new : List SystemCall) (paths : Option SpoolPaths) : Type 0 where
  pub after_made : List SystemCall
  pub after_found : List SystemCall
  pub after_judged : List SystemCall
  pub made : IsOwnMade user spool old after_made true
  pub found : AreSpoolPaths spool.path after_made after_found paths
  pub judged : IsJudgedWhere paths user.number after_found after_judged true
  pub target : IsTargetJudged tool words user after_judged new true

-- whether the tool may use the spool, and why not
abbrev pub IsUseFound : ToolName → List (List ℕ) → CallingUser → ToolSpool → List SystemCall → List SystemCall → SpoolUse → Type 0
IsUseFound tool words user spool old new (Usable paths) = IsUsable tool words user spool old new paths
IsUseFound tool words user spool old new KeptOut =
    IsOwnMade user spool old new false ⊎ (IsOthers user spool old new ⊎ IsTargetOthers tool words user spool old new)
