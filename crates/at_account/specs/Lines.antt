-- The line of a record (own): a letter, the number in eight hexadecimal digits, and of a job that was seen the queue and
-- the user, with one space between.
use Rattle.std.specs.Prelude.{◌≡◌, ◌≤◌, ℕ, IsTrue, List, [], ◌∷◌, ◌++◌, length}
use Rattle.std.specs.Char.{is_ascii_alphabetic}
use Rattle.text_reader.specs.HexDigits.{SpellsNumber}
use Rattle.spool_model.specs.Users.{IsUserName}
use Rattle.at_account.specs.declared.record.AccountEvent.{AccountEvent}
use Rattle.at_account.specs.declared.record.AccountEvent.TheVariants.{Closed, Seen, Started}
use Rattle.at_account.specs.declared.record.AccountRecord.{AccountRecord}
use Rattle.at_account.specs.declared.record.Closing.TheVariants.{Finished, Interrupted, Lost, NotStarted, Removed}
use Rattle.at_account.specs.declared.record.Owner.{Owner}

-- the letter of an event
abbrev pub letter_of_event : AccountEvent → ℕ
letter_of_event (Seen _) = 65
letter_of_event Started = 83
letter_of_event (Closed Finished) = 70
letter_of_event (Closed NotStarted) = 78
letter_of_event (Closed Interrupted) = 73
letter_of_event (Closed Removed) = 82
letter_of_event (Closed Lost) = 76

-- the text is that of the owner: the queue, a letter, and the user, each after a space
pub record IsOwnerText (text : List ℕ) (owner : Owner) : Type 0 where
  pub is : text ≡ 32 ∷ owner.queue ∷ 32 ∷ owner.user
  pub letter : IsTrue (is_ascii_alphabetic owner.queue)
  pub user : IsUserName owner.user

-- the owner of a job that is seen can be in a line
abbrev pub HasOwner : AccountEvent → Type 0
HasOwner (Seen owner) = IsTrue (is_ascii_alphabetic owner.queue) × IsUserName owner.user
HasOwner Started = Unit {0}
HasOwner (Closed _) = Unit {0}

-- what is after the number of an event
abbrev pub owner_text : AccountEvent → List ℕ
owner_text (Seen owner) = 32 ∷ owner.queue ∷ 32 ∷ owner.user
owner_text Started = []
owner_text (Closed _) = []

-- the text after the number is that of the event
abbrev pub IsRestOf : List ℕ → AccountEvent → Type 0
IsRestOf rest (Seen owner) = IsOwnerText rest owner
IsRestOf rest Started = rest ≡ []
IsRestOf rest (Closed _) = rest ≡ []

-- the letter and the text after the number are those of the event
pub record IsEventText (letter : ℕ) (rest : List ℕ) (event : AccountEvent) : Type 0 where
  pub letter_is : letter ≡ letter_of_event event
  pub rest_is : IsRestOf rest event

-- the line spells the record
pub record SpellsRecord (line : List ℕ) (one : AccountRecord) : Type 0 where
  pub letter : ℕ
  pub digits : List ℕ
  pub rest : List ℕ
  pub parted : line ≡ letter ∷ 32 ∷ (digits ++ rest)
  pub counted : length digits ≡ 8
  pub number : SpellsNumber digits one.number
  pub some : 1 ≤ one.number
  pub event : IsEventText letter rest one.event
