-- How what is kept belongs to the directory that the calls came to.
use Rattle.std.specs.Prelude.{◌≡◌, ◌⊎◌, ◌<◌, [], ◌∷◌, ℕ, List, Some, length, Result, Ok, Err}
use Rattle.std.specs.FinMap as map
use Rattle.host_calls.specs.declared.child.Handed.{Handed}
use Rattle.host_calls.specs.Directory.{Body, Change, Names, AreAfterSome, names_after}
use Rattle.memory_host.specs.inside.Bodies.{KeptBody, body_of, kept_at, kept_synced}
use Rattle.memory_host.specs.Past.{State, with_new_file}
use Rattle.memory_host.specs.inside.Table.{HaveAllPlaces, durable_in, now_in, pending_of}
use Rattle.memory_host.specs.declared.bodies.Bodies.{Bodies}
use Rattle.memory_host.specs.declared.name_table.NameTable.{NameTable}

-- the table holds these names and pending changes
pub record AreNamesKept (durable : Names) (pending : List Change) (names : NameTable) : Type 0 where
  pub durable_names : (name : List ℕ) → map.get durable name ≡ durable_in names.held name
  pub now_names : (name : List ℕ) → map.get (names_after pending durable) name ≡ now_in names.held name
  pub changes : pending ≡ pending_of names.pending.items
  pub places : HaveAllPlaces names.held names.pending.items

-- the number is in the list
abbrev pub ListsNumber : List ℕ → ℕ → Type 0
ListsNumber [] number = ⊥
ListsNumber (first ∷ others) number = (number ≡ first) ⊎ ListsNumber others number

-- all of the body is durable
abbrev pub IsSyncedBody : KeptBody → Type 0
IsSyncedBody kept = kept_synced kept ≡ kept

-- each body is durable, or its number is listed
abbrev pub ListsUnsettled : List KeptBody → List ℕ → Type 0
ListsUnsettled list unsettled = (number : ℕ) → IsSyncedBody (kept_at list number) ⊎ ListsNumber unsettled number

-- the bodies stand for those of the directory
pub record AreBodied (body : ℕ → Body) (bodies : Bodies) : Type 0 where
  pub each : (number : ℕ) → body number ≡ body_of (kept_at bodies.list.items number)
  pub listed : ListsUnsettled bodies.list.items bodies.unsettled.items

-- In each choice of the pending changes the numbers are below the next one, and no two names hold the same.
pub record KeepsNumbersApart (durable : Names) (pending : List Change) (next : ℕ) : Type 0 where
  pub below : (names : Names) → AreAfterSome pending durable names → (name : List ℕ) (number : ℕ)
      → map.get names name ≡ Some number → number < next
  pub apart : (names : Names) → AreAfterSome pending durable names → (first second : List ℕ) (number : ℕ)
      → map.get names first ≡ Some number → map.get names second ≡ Some number → first ≡ second

-- what is kept belongs to the state
pub record IsStateKept (at : State) (names : NameTable) (bodies : Bodies) (handed : List Handed) : Type 0 where
  pub named : AreNamesKept at.directory.durable at.directory.pending names
  pub bodied : AreBodied at.directory.body bodies
  pub counted : at.next ≡ length bodies.list.items
  pub scripts : at.handed ≡ handed
  pub sound : KeepsNumbersApart at.directory.durable at.directory.pending at.next

-- A file was made under the next number. Where there was no room, the directory is as before.
abbrev pub MakesFile : {T E : Type 0} → List ℕ → List ℕ → NameTable → NameTable → Bodies → Bodies → Result T E → Type 0
MakesFile name bytes names after bodies more (Ok value) =
    (at : State) (handed : List Handed) → IsStateKept at names bodies handed →
    IsStateKept (with_new_file name bytes at) after more handed
MakesFile name bytes names after bodies more (Err fault) =
    (at : State) (handed : List Handed) → IsStateKept at names bodies handed → IsStateKept at after more handed
