-- The spool that a tool works on (own).
use Rattle.std.specs.Prelude.{◌≡◌, ◌==◌, [], ◌∷◌, ◌⊎◌, ℕ, Bool, true, false, List, Option, Some, None, Ok, codes, length, unwrap_or}
use Rattle.caller_environment.specs.SpoolPlace.{MeansSpool}
use Rattle.caller_environment.specs.declared.spool_place.MeantSpool.{MeantSpool}
use Rattle.caller_environment.specs.declared.spool_place.MeantSpool.TheVariants.{Fixed, Home}
use Rattle.caller_environment.specs.declared.spool_place.SpoolSources.{SpoolSources}
use Rattle.system_calls.specs.SystemCall.{SystemCall}
use Rattle.system_calls.specs.Calls.{AddsCall, status_call, variable_call}
use Rattle.system_calls.specs.declared.call.FileStatus.{FileStatus}
use Rattle.caller_rules.specs.FileStatuses.{IsDecidedBy, is_directory_status, is_directory_of}
use Rattle.caller_rules.specs.Users.{is_root_user}
use Rattle.caller_rules.specs.declared.tool_spool.ToolSpool.{ToolSpool}
use Rattle.caller_rules.specs.declared.user.CallingUser.{CallingUser}

-- a variable was read; without a value it counts as empty
pub record IsVariableOr (name : List ℕ) (old new : List SystemCall) (value : List ℕ) : Type 0 where
  pub read : Option (List ℕ)
  pub asked : AddsCall (variable_call name (Ok read)) old new
  pub is : value ≡ unwrap_or read []

-- the places were looked at in order, up to the first that is a directory of the user's
abbrev pub FindsPlace : ℕ → List (List ℕ) → List SystemCall → List SystemCall → Option (List ℕ) → Type 0
FindsPlace user [] old new found = (new ≡ old) × (found ≡ None)
FindsPlace user (place ∷ others) old new found =
    (IsDecidedBy (status_call place) (is_directory_of user) old new true × (found ≡ Some place))
    ⊎ ((between : List SystemCall) × IsDecidedBy (status_call place) (is_directory_of user) old between false
    × FindsPlace user others between new found)

-- no directory is at the usual place: the first of the former ones is used that is a directory of the user's, or else the
-- usual one
pub record IsFormerUsed (usual : List ℕ) (former : List (List ℕ)) (user : ℕ) (old new : List SystemCall) (place : List ℕ) : Type 0 where
  pub found : Option (List ℕ)
  pub between : List SystemCall
  pub absent : IsDecidedBy (status_call usual) is_directory_status old between false
  pub looked : FindsPlace user former between new found
  pub is : place ≡ unwrap_or found usual

-- the usual place is used where it is a directory, or else a former one
abbrev pub IsPlaceUsed : List ℕ → List (List ℕ) → ℕ → List SystemCall → List SystemCall → List ℕ → Type 0
IsPlaceUsed usual former user old new place =
    (IsDecidedBy (status_call usual) is_directory_status old new true × (place ≡ usual)) ⊎ IsFormerUsed usual former user old new place

-- the place that is meant, or the one in use below the home directory
abbrev pub IsPlaceChosen : MeantSpool → Option ℕ → List SystemCall → List SystemCall → List ℕ → Type 0
IsPlaceChosen (Fixed path) user old new place = (new ≡ old) × (place ≡ path)
IsPlaceChosen (Home usual former) user old new place = IsPlaceUsed usual former.items (unwrap_or user 0) old new place

-- what the spool of a user depends on
abbrev pub sources_of : CallingUser → List ℕ → List ℕ → SpoolSources
sources_of user named state =
    record { named = named; is_root = is_root_user user; user = user.name; home = user.home; state = state }

-- the spool of a caller, by two variables and the places that were looked at
pub record IsCallersSpool (user : CallingUser) (old new : List SystemCall) (spool : ToolSpool) : Type 0 where
  pub named : List ℕ
  pub state : List ℕ
  pub meant : MeantSpool
  pub named_read : List SystemCall
  pub state_read : List SystemCall
  pub by_name : IsVariableOr (codes "ATSPOOL") old named_read named
  pub by_state : IsVariableOr (codes "XDG_STATE_HOME") named_read state_read state
  pub means : MeansSpool (sources_of user named state) meant
  pub chosen : IsPlaceChosen meant user.number state_read new spool.path
  pub own : spool.is_own ≡ (length named == 0)
