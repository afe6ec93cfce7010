-- Paths, byte by byte.
use Rattle.std.proofs.Common.{◌≡◌, ◌<◌, ℕ, zero, suc, List, [], ◌∷◌, true, arith}
use Rattle.std.specs.Prelude.{IsTrue}
use Rattle.std.specs.Str.{IsAscii, IsUtf8}
use Rattle.std.proofs.lemmas.Bool.{and_parts}
use Rattle.std.proofs.lemmas.Bool.Decides.{nat_tests}
use Rattle.std.proofs.lemmas.Str.{IsUtf8-from_ascii}
use Rattle.host_calls.specs.Names.{is_name_byte, are_name_bytes}

-- a byte of a name is one of ASCII
pub is_ascii : (byte : ℕ) → is_name_byte byte ≡ true → byte < 128
is_ascii byte is = grind (arith, nat_tests)

-- each byte of a name is one of ASCII
each_is_ascii : (name : List ℕ) → IsTrue (are_name_bytes name) → IsAscii name
each_is_ascii [] all i = omega arith
each_is_ascii (byte ∷ others) all zero = is_ascii byte (and_parts (is_name_byte byte) (are_name_bytes others) all).0
each_is_ascii (byte ∷ others) all (suc i) = each_is_ascii others (and_parts (is_name_byte byte) (are_name_bytes others) all).1 i

-- the bytes of a name are a text
pub is_text : (name : List ℕ) → IsTrue (are_name_bytes name) → IsUtf8 name
is_text name all = IsUtf8-from_ascii name (each_is_ascii name all)
