-- The part of a word after its last slash, read byte by byte.
use Rattle.std.proofs.Common.{◌≡◌, ◌+◌, ◌<◌, ◌==◌, ℕ, List, drop, length, get_or, drop-cons, add-one, cond, refl}
use Rattle.at_words.specs.Tools.{part_after}

-- one more byte
pub part_after-step : (word part : List ℕ) (place : ℕ) → place < length word
    → part_after part (drop place word) ≡ part_after (cond (get_or word place 0 == 47) (drop (place + 1) word) part) (drop (place + 1) word)
part_after-step word part place inside = rw (add-one, drop-cons word place 0) refl
