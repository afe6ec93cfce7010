-- What holds of each image while no notice is sent twice: used by OnceLemmas and the lemmas of other events.
use Rattle.std.proofs.Common.{◌≡◌, ◌∙◌, ◌⊎◌, ◌++◌, ℕ, true, false, List, subst, sym}
use Rattle.std.specs.Prelude.{Option}
use Rattle.std.specs.FinMap as finite
use Rattle.host_calls.specs.declared.child.Handed.{Handed}
use Rattle.host_calls.specs.Directory.{Files}
use Rattle.host_calls.specs.World.{HasEachImage, LeavesOnly, World}
use Rattle.at_words.specs.Numbers.{are_distinct}
use Rattle.mail_notes.specs.declared.note.Note.{Note}
use Rattle.mail_notes.specs.Names.{mail_file}
use Rattle.mail_notes.specs.Notes.{has_closing_note, has_note_of}
use Rattle.mail_session.specs.Sessions.{IsMailUntouched}
use Rattle.at_mail.specs.Once.{notice_numbers}
use Rattle.at_mail.proofs.SentLemmas.{GivesSpelled, has}

-- by these notes the notice of the number does not become due again
abbrev pub IsShut : (ℕ → Type 0) → List Note → ℕ → Type 0
IsShut retired notes number = (has_closing_note number notes ≡ true) ⊎ ((has_note_of number notes ≡ false) × retired number)

-- The image spells notes, by which each notice that was sent since the opening is shut, and no number of these
-- occurs twice.
pub record IsOnce (retired : ℕ → Type 0) (opening : List Handed) (image : Files) (handed : List Handed) : Type 0 where
  pub given : List Handed
  pub grown : handed ≡ opening ++ given
  pub notes : List Note
  pub gives : GivesSpelled (finite.get image mail_file) notes
  pub shut : (number : ℕ) → has number (notice_numbers given) ≡ true → IsShut retired notes number
  pub once : are_distinct (notice_numbers given) ≡ true

pub same_once : (retired : ℕ → Type 0) (opening : List Handed) (from image : Files) (had handed : List Handed) → IsOnce retired opening from had
    → finite.get image mail_file ≡ finite.get from mail_file → handed ≡ had → IsOnce retired opening image handed
same_once retired opening from image had handed is same as_many = record {
  given = is.given;
  grown = as_many ∙ is.grown;
  notes = is.notes;
  gives = subst (λ (content : Option (List ℕ)). GivesSpelled content is.notes) (sym same) is.gives;
  shut = is.shut;
  once = is.once;
}

module _ (retired : ℕ → Type 0) (opening : List Handed) (old new : World) (inv : HasEachImage (IsOnce retired opening) old.now) where
  pub untouched : (image : Files) (handed : List Handed) → IsMailUntouched old.now image handed → IsOnce retired opening image handed
  untouched image handed is =
      same_once retired opening is.beside.from image old.now.handed handed (inv is.beside.from is.beside.was) is.same is.as_many

-- What an event leaves at each moment, and at its end.
pub record KeepsOnce (retired : ℕ → Type 0) (opening : List Handed) (old new : World) : Type 0 where
  pub leaves : LeavesOnly (IsOnce retired opening) old new
  pub now : HasEachImage (IsOnce retired opening) new.now
