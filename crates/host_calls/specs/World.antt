-- A world: each moment of a spool directory so far, with what was started by then.
use Rattle.std.specs.Prelude.{◌≡◌, ◌⊎◌, ◌+◌, ◌-◌, ◌≤◌, ◌++◌, [], ◌∷◌, ℕ, Bool, true, false, List, Contains, length, take, drop, Option, Some, option_map, IsSomeAnd, Result, Ok, Err}
use Rattle.std.specs.declared.alloc.AllocError.{AllocError}
use Rattle.std.specs.FinMap as map
use Rattle.host_calls.specs.declared.child.Child.{Child}
use Rattle.host_calls.specs.declared.child.Ending.{Ending}
use Rattle.host_calls.specs.declared.child.Handed.{Handed}
use Rattle.host_calls.specs.declared.child.Asked.{Asked}
use Rattle.host_calls.specs.declared.fault.HostFault.{HostFault}
use Rattle.host_calls.specs.declared.fault.HostFault.TheVariants.{Failed, Memory}
use Rattle.host_calls.specs.declared.fault.StartFault.{StartFault}
use Rattle.host_calls.specs.declared.fault.StartFault.TheVariants.{Failed as NoStart, Memory as NoMemory}
use Rattle.host_calls.specs.Directory.{Directory, Files, IsImage, reading_of}

-- the directory at a moment, and all scripts that were started by then
pub record Moment : Type 0 where
  pub directory : Directory
  pub handed : List Handed

-- the moment now, those before it, the newest first, and each question to a child with its answer
pub record World : Type 0 where
  pub now : Moment
  pub before : List Moment
  pub asked : List Asked

-- all moments, the newest first
abbrev pub moments : World → List Moment
moments world = world.now ∷ world.before

-- the number of the moment now, which rises with each change
abbrev pub moment : World → ℕ
moment world = length world.before

-- the files as they read now
abbrev pub reading : World → Files
reading world = reading_of world.now.directory

-- how many bytes the file of a name has, if there is one
abbrev pub size_of : Files → List ℕ → Option ℕ
size_of files name = option_map length (map.get files name)

-- at most so many bytes of the file from an offset on, if there is one
abbrev pub bytes_from : Files → List ℕ → ℕ → ℕ → Option (List ℕ)
bytes_from files name offset most = option_map (λ bytes. take most (drop offset bytes)) (map.get files name)

-- the range lies within the file
abbrev pub IsWithinFile : Files → List ℕ → ℕ → ℕ → Type 0
IsWithinFile files name offset count = IsSomeAnd (map.get files name) (λ bytes. offset + count ≤ length bytes)

-- one of the moments has P
abbrev pub AnyMoment : (Moment → Type 0) → List Moment → Type 0
AnyMoment P [] = ⊥
AnyMoment P (here ∷ others) = P here ⊎ AnyMoment P others

-- each of the moments has P
abbrev pub AllMoments : (Moment → Type 0) → List Moment → Type 0
AllMoments P [] = Unit {0}
AllMoments P (here ∷ others) = P here × AllMoments P others

-- A crash at the moment may leave the image, and these scripts were started by then.
abbrev pub Leaves : Files → List Handed → Moment → Type 0
Leaves image handed at = IsImage at.directory image × (handed ≡ at.handed)

-- A crash at some moment from the one of this number on might have left the image, these scripts started.
abbrev pub MayLeave : World → ℕ → Files → List Handed → Type 0
MayLeave world since image handed = AnyMoment (Leaves image handed) (take (moment world + 1 - since) (moments world))

-- each image of the moment, with what was started by then, has P
abbrev pub HasEachImage : (Files → List Handed → Type 0) → Moment → Type 0
HasEachImage P at = (image : Files) → IsImage at.directory image → P image at.handed

-- Since the old world a crash at any moment leaves an image that has P.
pub record LeavesOnly (P : Files → List Handed → Type 0) (old new : World) : Type 0 where
  pub more : List Moment
  pub run : moments new ≡ more ++ moments old
  pub each : AllMoments (HasEachImage P) more

-- the world after a call, by the call's answer: a call that failed has done nothing to the directory or a part
abbrev pub Outcome : {T : Type 0} → (Directory → Directory → Type 0) → (Directory → Directory → Type 0) → World → World →
    Result T HostFault → Type 0
Outcome done part old new (Ok value) = done old.now.directory new.now.directory
Outcome done part old new (Err Failed) = (new.now.directory ≡ old.now.directory) ⊎ part old.now.directory new.now.directory
Outcome done part old new (Err Memory) = new ≡ old

-- The image is one of the directory at a call's start, or one that the call lets a crash leave.
abbrev pub IsWithin : (Directory → Directory → Type 0) → Directory → Files → Type 0
IsWithin done old image = IsImage old image ⊎ ((new : Directory) × done old new × IsImage new image)

-- what a crash may leave at each moment of a call
abbrev pub WithinCall : (Directory → Directory → Type 0) → Moment → Files → List Handed → Type 0
WithinCall done start image handed = IsWithin done start.directory image × (handed ≡ start.handed)

-- one call that changes the directory and starts nothing
pub record FileCall {T : Type 0} (done part : Directory → Directory → Type 0) (old new : World)
    (result : Result T HostFault) : Type 0 where
  pub outcome : Outcome done part old new result
  pub handed : new.now.handed ≡ old.now.handed
  pub asked : new.asked ≡ old.asked
  pub leaves : LeavesOnly (WithinCall done old.now) old new

-- Time goes on between sessions: others may change the directory, and nothing is started.
pub record TimePasses (old new : World) : Type 0 where
  pub asked : new.asked ≡ old.asked
  pub handed : new.now.handed ≡ old.now.handed
  pub leaves : LeavesOnly (λ image handed. handed ≡ old.now.handed) old new

-- One more script was started: the bytes of the named file, and whether a child came of it.
pub record HandsOver (number : ℕ) (name : List ℕ) (nice : ℕ) (started : Bool) (old new : Moment) : Type 0 where
  pub script : List ℕ
  pub read : map.get (reading_of old.directory) name ≡ Some script
  pub handed : new.handed ≡ old.handed ++ record { number = number; script = script; nice = nice; started = started } ∷ []

-- the world after a start, by its answer
abbrev pub StartOutcome : {T : Type 0} → ℕ → List ℕ → ℕ → World → World → Result T StartFault → Type 0
StartOutcome number name nice old new (Ok child) = HandsOver number name nice true old.now new.now
StartOutcome number name nice old new (Err NoStart) = HandsOver number name nice false old.now new.now
StartOutcome number name nice old new (Err NoMemory) = new ≡ old

-- a start: the directory stays, and at most one more script is started, in one moment
pub record StartCall {T : Type 0} (number : ℕ) (name : List ℕ) (nice : ℕ) (old new : World)
    (result : Result T StartFault) : Type 0 where
  pub outcome : StartOutcome number name nice old new result
  pub directory : new.now.directory ≡ old.now.directory
  pub asked : new.asked ≡ old.asked
  pub leaves : LeavesOnly
      (λ image handed. IsImage old.now.directory image × ((handed ≡ old.now.handed) ⊎ (handed ≡ new.now.handed)))
      old
      new

-- the world with one more question to a child
abbrev pub with_question : Child → Option Ending → World → World
with_question child answer world =
    record { now = world.now; before = world.before; asked = world.asked ++ record { child = child; answer = answer } ∷ [] }

-- a question to a child, by its answer: an ending that it has given is given again
abbrev pub Asks : Child → World → World → Result (Option Ending) AllocError → Type 0
Asks child old new (Ok answer) =
    (new ≡ with_question child answer old)
    × ((ending : Ending) → Contains old.asked (record { child = child; answer = Some ending }) → answer ≡ Some ending)
Asks child old new (Err none) = new ≡ old
