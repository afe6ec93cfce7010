-- The minute that the time of a submission means, as the words have the time, or the refusal where it means none (own).
use Rattle.std.specs.Prelude.{◌≡◌, ℕ, ℤ, List, Result, Ok, Err, length, slice_get}
use Rattle.std.specs.Option.{option_map_or}
use Rattle.at_words.specs.declared.when.When.{When}
use Rattle.at_words.specs.declared.when.When.TheVariants.{Spec, Touch}
use Rattle.civil_minute.specs.declared.fault.DateFault.{DateFault}
use Rattle.civil_minute.specs.declared.fault.DateFault.TheVariants as date
use Rattle.civil_minute.specs.declared.zone.Zone.{Zone}
use Rattle.civil_minute.specs.Meant.{TimespecMeans, TouchMeans}
use Rattle.listing_text.specs.declared.refusal.Refusal.{Refusal}
use Rattle.listing_text.specs.declared.refusal.Refusal.TheVariants.{BadTimeArg, NoSuchDay, OutOfRange, Past, Timespec}
use Rattle.timespec_grammar.specs.declared.timespec.Timespec.{Timespec as Spelled}
use Rattle.timespec_grammar.specs.Grammar.{Spells, tokens_of}
use Rattle.timespec_grammar.specs.Viable.{StopsAt}
use Rattle.timespec_lexer.specs.declared.placed.Placed.{Placed}
use Rattle.timespec_lexer.specs.Tokens.{RefusedAt, Tokenizes}
use Rattle.touch_time.specs.declared.touch.TouchTime.{TouchTime}
use Rattle.touch_time.specs.Touch.{SpellsTouch}

-- the place of a token in the text, or the text's length after the last one
abbrev pub place_in : List ℕ → List Placed → ℕ → ℕ
place_in text placed token = option_map_or (λ one. one.place) (slice_get placed token) (length text)

-- the minute, or the refusal of a time that means none
abbrev pub IsDated : Result ℕ DateFault → Result ℕ Refusal → Type 0
IsDated (Ok minute) time = time ≡ Ok minute
IsDated (Err date.NoSuchDay) time = time ≡ Err NoSuchDay
IsDated (Err date.OutOfRange) time = time ≡ Err OutOfRange
IsDated (Err date.Past) time = time ≡ Err Past
IsDated (Err date.Memory) time = ⊥

-- A timespec: refused where its text has no tokens, or at the first token that no timespec has there.
pub data IsSpecTime (text : List ℕ) (now : ℤ) (zone : Zone) : Result ℕ Refusal → Type 0 where
  no_tokens : (place : ℕ) → RefusedAt text place → IsSpecTime text now zone (Err (Timespec place))
  no_timespec : (placed : List Placed) (token : ℕ) → Tokenizes text placed → StopsAt (tokens_of placed) token
      → IsSpecTime text now zone (Err (Timespec (place_in text placed token)))
  timespec : (placed : List Placed) (spec : Spelled) (result : Result ℕ DateFault) (time : Result ℕ Refusal)
      → Tokenizes text placed → Spells (tokens_of placed) spec → TimespecMeans spec now zone result → IsDated result time
      → IsSpecTime text now zone time

-- A time of `-t`: refused where its text spells none.
pub data IsTouchTime (text : List ℕ) (now : ℤ) (zone : Zone) : Result ℕ Refusal → Type 0 where
  no_touch : ((touch : TouchTime) → ¬ SpellsTouch text touch) → IsTouchTime text now zone (Err BadTimeArg)
  touch_time : (touch : TouchTime) (result : Result ℕ DateFault) (time : Result ℕ Refusal) → SpellsTouch text touch
      → TouchMeans touch now zone result → IsDated result time → IsTouchTime text now zone time

-- the time of a submission
abbrev pub IsTimeOf : When → ℤ → Zone → Result ℕ Refusal → Type 0
IsTimeOf (Spec text) now zone time = IsSpecTime text now zone time
IsTimeOf (Touch text) now zone time = IsTouchTime text now zone time

-- such a time, and no other is
pub record IsOnly (IsTime : Result ℕ Refusal → Type 0) (time : Result ℕ Refusal) : Type 0 where
  pub meant : IsTime time
  pub only : (other : Result ℕ Refusal) → IsTime other → other ≡ time

-- the one time of a submission
abbrev pub IsMeant : When → ℤ → Zone → Result ℕ Refusal → Type 0
IsMeant when now zone time = IsOnly (IsTimeOf when now zone) time

-- the minute of a time, 0 where it means none
abbrev pub minute_in : Result ℕ Refusal → ℕ
minute_in (Ok minute) = minute
minute_in (Err refusal) = 0
