-- The mark (own): a minute in eight hexadecimal digits, and a newline. It is the last minute whose entries were submitted.
use Rattle.std.specs.Prelude.{◌≡◌, ◌≤◌, [], ◌∷◌, ◌++◌, ℕ, List, Option, Some, None, length, take}
use Rattle.host_calls.specs.ClockRange.{IsClockMinute}
use Rattle.text_reader.specs.HexDigits.{digits_of}
use Rattle.host_calls.specs.declared.damage.Damage.{Damage}
use Rattle.host_calls.specs.Damages.{damage_at}
use Rattle.cron_session.specs.MarkNames.{mark_file}

-- the text of the mark of a minute
abbrev pub cron_mark_text : ℕ → List ℕ
cron_mark_text minute = digits_of minute ++ 10 ∷ []

-- the text is that of the mark of the minute, which is one of the clock
pub record IsMarkText (text : List ℕ) (minute : ℕ) : Type 0 where
  pub minute_is : IsClockMinute minute
  pub text_is : text ≡ cron_mark_text minute

-- the text of some mark starts with the bytes
pub record BeginsMark (bytes : List ℕ) : Type 0 where
  pub minute : ℕ
  pub minute_is : IsClockMinute minute
  pub rest : List ℕ
  pub text : cron_mark_text minute ≡ bytes ++ rest

-- so many of the bytes start a mark, and no more of them do
pub record IsLongestStart (bytes : List ℕ) (count : ℕ) : Type 0 where
  pub within : count ≤ length bytes
  pub begins : BeginsMark (take count bytes)
  pub longest : (more : ℕ) → more ≤ length bytes → BeginsMark (take more bytes) → more ≤ count

-- the content of the file has the mark of this minute, or of none where there is no file
abbrev pub IsMark : Option (List ℕ) → Option ℕ → Type 0
IsMark None marked = marked ≡ None
IsMark (Some bytes) None = ⊥
IsMark (Some bytes) (Some minute) = IsMarkText bytes minute

-- The content is that of no mark: the file is damaged at the length of its longest start with which a mark starts too.
pub record IsMarkDamage (content : Option (List ℕ)) (damage : Damage) : Type 0 where
  pub bytes : List ℕ
  pub is : content ≡ Some bytes
  pub wrong : (minute : ℕ) → ¬ (IsMarkText bytes minute)
  pub place : ℕ
  pub longest : IsLongestStart bytes place
  pub damage_is : damage ≡ damage_at mark_file bytes place
