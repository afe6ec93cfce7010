use Rattle.std.proofs.Common.{take}
use Rattle.text_reader.specs.HexDigits.{SpellsNumber}
use Rattle.text_reader.proofs.hex_number.read_hex.Given as goal

abbrev pub invariant-loop-byte : goal.invariant-loop-byte
invariant-loop-byte l = SpellsNumber (take l.byte-index l.bytes) l.number
