use Rattle.std.proofs.Common.{◌≡◌, ℕ, ◌<◌, ◌-◌, length}
use Rattle.std.specs.Prelude.{slice_index}
use Rattle.text_reader.specs.HexDigits.{digit_at, digit_byte}
use Rattle.text_reader.proofs.hex_number.write_hex.Given as goal

abbrev pub invariant-loop-place : goal.invariant-loop-place
invariant-loop-place l = (place : ℕ) → place < l.place → slice_index l.out place ≡ digit_byte (digit_at l.number (length l.out - 1 - place))
