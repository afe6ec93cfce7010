-- How a story goes on.
use Rattle.std.specs.Prelude.{◌≡◌, ◌++◌, [], ◌∷◌, ℕ, List, Result, Ok, Err}
use Rattle.host_calls.specs.Directory.{Files, IsHeldAt, IsImage, names_of, reading_of}
use Rattle.memory_host.specs.Past.{State, CallLog, history_of}
use Rattle.memory_host.specs.declared.past_call.PastCall.{PastCall}

-- the story with one more call
abbrev pub with_next : PastCall → CallLog → CallLog
with_next call story = record { opening = story.opening; calls = story.calls ++ call ∷ [] }

-- the state that the story came to
abbrev pub state_of : CallLog → State
state_of story = (history_of story).now

-- The story goes on by a call on the body that the name alone holds, where there was room for it.
abbrev pub Follows : {T E : Type 0} → (ℕ → PastCall) → List ℕ → CallLog → CallLog → Result T E → Type 0
Follows call name old new (Ok value) =
    (number : ℕ) × IsHeldAt (names_of (state_of old).directory) name number × (new ≡ with_next (call number) old)
Follows call name old new (Err fault) = new ≡ old

-- the story of a directory with these files, all of them durable, before its first call
pub record Opens (files : Files) (story : CallLog) : Type 0 where
  pub reading : reading_of (state_of story).directory ≡ files
  pub settled : (image : Files) → IsImage (state_of story).directory image → image ≡ files
  pub handed : (state_of story).handed ≡ []
  pub before : (history_of story).before ≡ []
