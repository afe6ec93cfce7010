-- The place of the spool (own).
use Rattle.std.specs.Prelude.{◌≡◌, ◌==◌, [], ◌∷◌, ◌++◌, ℕ, Bool, true, false, List, Option, Some, None, codes, length, not, if◌then◌else◌}
use Rattle.caller_environment.specs.declared.spool_place.MeantSpool.{MeantSpool}
use Rattle.caller_environment.specs.declared.spool_place.MeantSpool.TheVariants.{Fixed, Home}
use Rattle.caller_environment.specs.declared.spool_place.SpoolSources.{SpoolSources}

-- the spool below a home directory
abbrev pub usual_place : List ℕ → List ℕ
usual_place home = home ++ codes "/.local/state/coefhird/jobs"

-- the place of before below the directory of state that a variable names, unless it is empty
abbrev pub state_places : List ℕ → List (List ℕ)
state_places state = if length state == 0 then [] else (state ++ codes "/coefhird/jobs") ∷ []

-- the places of before, the one below the directory of state first
abbrev pub former_places : List ℕ → List ℕ → List (List ℕ)
former_places home state = state_places state ++ (home ++ codes "/.config/coefhird/jobs") ∷ []

-- the spool of a user without a home directory
abbrev pub user_place : List ℕ → List ℕ
user_place user = codes "/var/spool/coefhird/" ++ user

-- the spool is this one
abbrev pub IsFixed : List ℕ → MeantSpool → Type 0
IsFixed place (Fixed path) = path ≡ place
IsFixed place (Home usual former) = ⊥

-- the spool is below this home directory
abbrev pub MeansHomeSpool : List ℕ → List ℕ → MeantSpool → Type 0
MeansHomeSpool home state (Fixed path) = ⊥
MeansHomeSpool home state (Home usual former) = (usual ≡ usual_place home) × (former.items ≡ former_places home state)

-- the spool of a user other than root
abbrev pub MeansUserSpool : SpoolSources → Option (List ℕ) → MeantSpool → Type 0
MeansUserSpool sources (Some home) meant = MeansHomeSpool home sources.state meant
MeansUserSpool sources None meant = IsFixed (user_place sources.user) meant

-- what the spool is by whether a name is given and whether the caller is root
abbrev pub MeansBy : SpoolSources → Bool → Bool → MeantSpool → Type 0
MeansBy sources true _ meant = IsFixed sources.named meant
MeansBy sources false true meant = IsFixed (codes "/var/spool/atjobs") meant
MeansBy sources false false meant = MeansUserSpool sources sources.home meant

-- The spool that is meant: the one that ATSPOOL names, unless it is empty; root's; the one below the home directory; and
-- without such a directory the one of the user's name.
abbrev pub MeansSpool : SpoolSources → MeantSpool → Type 0
MeansSpool sources meant = MeansBy sources (not (length sources.named == 0)) sources.is_root meant
