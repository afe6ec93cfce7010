-- What a call answers that reads words: what they request, or that there was no memory for it.
use Rattle.std.specs.Prelude.{◌≡◌, [], ◌∷◌, List, Option, Some, None, Result, Ok, Err}
use Rattle.clap.specs.Faults.{fault_of}
use Rattle.clap.specs.Kinds.{Kinds}
use Rattle.clap.specs.Simple.{App, matches_of}
use Rattle.clap.specs.Walk.{Row, Text}
use Rattle.at_words.specs.declared.fault.WordsFault.{WordsFault}
use Rattle.at_words.specs.declared.fault.WordsFault.TheVariants.{Usage, BadQueue, Memory}

module _ {T : Type 0} where
  -- the answer is what is requested, or there was no memory for it
  abbrev pub Answers : Result T WordsFault → Result T WordsFault → Type 0
  Answers asked (Ok value) = Ok value ≡ asked
  Answers asked (Err Usage) = Err Usage ≡ asked
  Answers asked (Err BadQueue) = Err BadQueue ≡ asked
  Answers asked (Err Memory) = Unit {0}

  -- the value, where there is one
  abbrev pub or_usage : Option T → Result T WordsFault
  or_usage (Some value) = Ok value
  or_usage None = Err Usage

  abbrev pub or_bad_queue : Option T → Result T WordsFault
  or_bad_queue (Some value) = Ok value
  or_bad_queue None = Err BadQueue

  -- what is asked, where `clap` finds no fault with the words
  abbrev pub if_taken : Kinds → Result T WordsFault → Result T WordsFault
  if_taken [] asked = asked
  if_taken (kind ∷ kinds) asked = Err Usage

  -- what the words of a command request, over its matches
  abbrev pub asked_of : App → (List Row → Result T WordsFault) → List Text → Result T WordsFault
  asked_of app asked words = if_taken (fault_of app words) (asked (matches_of app words))

  -- the same, where the first word is the program's name; without it they request nothing
  abbrev pub named_asked : App → (List Row → Result T WordsFault) → List Text → Result T WordsFault
  named_asked app asked [] = Err Usage
  named_asked app asked (name ∷ words) = asked_of app asked (name ∷ words)

-- the answer with its value changed
abbrev pub on_ok : {T U : Type 0} → (T → U) → Result T WordsFault → Result U WordsFault
on_ok change (Ok value) = Ok (change value)
on_ok change (Err fault) = Err fault
