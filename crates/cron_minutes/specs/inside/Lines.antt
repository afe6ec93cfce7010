-- What one reading of the pieces gives; its lemmas show that these are the parts.
use Rattle.std.specs.Prelude.{ℕ, List, [], ◌∷◌, Option, Some, None}
use Rattle.cron_minutes.specs.declared.pieces.Piece.{Piece}
use Rattle.cron_minutes.specs.declared.pieces.Piece.TheVariants.{Byte, Cut}

-- the bytes before the first cut
unfoldable pub first_part : List Piece → List ℕ
first_part [] = []
first_part (Byte byte ∷ pieces) = byte ∷ first_part pieces
first_part (Cut ∷ pieces) = []

-- the pieces after the first cut, if there is one
unfoldable pub after_cut : List Piece → Option (List Piece)
after_cut [] = None
after_cut (Byte byte ∷ pieces) = after_cut pieces
after_cut (Cut ∷ pieces) = Some pieces

-- the byte of a piece on standard input
abbrev pub piece_byte : Piece → ℕ
piece_byte (Byte byte) = byte
piece_byte Cut = 10

-- the pieces on standard input
unfoldable pub input : List Piece → List ℕ
input [] = 10 ∷ []
input (piece ∷ pieces) = piece_byte piece ∷ input pieces
