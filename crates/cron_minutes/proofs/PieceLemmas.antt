-- One reading of the pieces gives the parts.
use Rattle.std.proofs.Common.{◌≡◌, ℕ, List, [], ◌∷◌, ◌++◌, Option, Some, None, refl, sym, ap, append_assoc, append-nil}
use Rattle.std.specs.List.{flat_map, onto_first}
use Rattle.cron_minutes.specs.Commands.{commands_of_parts, parts, piped, with_newline}
use Rattle.cron_minutes.specs.declared.pieces.Piece.{Piece}
use Rattle.cron_minutes.specs.declared.pieces.Piece.TheVariants.{Byte, Cut}
use Rattle.cron_minutes.specs.inside.Lines.{after_cut, piece_byte, first_part, input}

-- the parts of the pieces after a cut, if there is one
abbrev pub other_parts : Option (List Piece) → List (List ℕ)
other_parts None = []
other_parts (Some pieces) = parts pieces

-- the first part comes before the first cut, the others after it
pub parts-first : (pieces : List Piece) → parts pieces ≡ first_part pieces ∷ other_parts (after_cut pieces)
unfolding parts first_part after_cut
parts-first [] = refl
parts-first (Byte byte ∷ pieces) = rw (parts-first pieces) refl
parts-first (Cut ∷ pieces) = refl

-- the lines of parts, with another byte at the beginning of the first
onto_first-lines : (byte : ℕ) (first : List ℕ) (others : List (List ℕ))
    → flat_map with_newline (onto_first byte (first ∷ others)) ≡ byte ∷ flat_map with_newline (first ∷ others)
onto_first-lines byte first others = refl

-- the parts, a newline after each, are the pieces with a newline at each cut and at the end
pub input-lines : (pieces : List Piece) → input pieces ≡ flat_map with_newline (parts pieces)
unfolding parts input
input-lines [] = refl
input-lines (Byte byte ∷ pieces) =
    let first = first_part pieces in
    let others = other_parts (after_cut pieces) in
    rw (input-lines pieces, parts-first pieces) (sym (onto_first-lines byte first others))
input-lines (Cut ∷ pieces) = ap (λ lines. 10 ∷ lines) (input-lines pieces)

-- a piece more is put after the text as one byte of the input
pub input-more : (text : List ℕ) (all : List Piece) (piece : Piece) (others : List Piece) → all ≡ piece ∷ others
    → (text ++ piece_byte piece ∷ []) ++ input others ≡ text ++ input all
unfolding input
input-more text all piece others same = rw same (append_assoc text (piece_byte piece ∷ []) (input others))

-- with no piece left, a newline ends the input
pub input-end : (text : List ℕ) (all : List Piece) → all ≡ [] → text ++ 10 ∷ [] ≡ text ++ input all
unfolding input
input-end text all none = rw none refl

-- another byte of the first part
pub part-more : (text : List ℕ) (all : List Piece) (byte : ℕ) (others : List Piece) → all ≡ Byte byte ∷ others
    → (text ++ byte ∷ []) ++ first_part others ≡ text ++ first_part all
unfolding first_part
part-more text all byte others same = rw same (append_assoc text (byte ∷ []) (first_part others))

pub cut-later : (all : List Piece) (byte : ℕ) (others : List Piece) → all ≡ Byte byte ∷ others → after_cut others ≡ after_cut all
unfolding after_cut
cut-later all byte others same = rw same refl

-- the first part ends at a cut, and at the end
pub part-cut : (text : List ℕ) (all others : List Piece) → all ≡ Cut ∷ others → text ≡ text ++ first_part all
unfolding first_part
part-cut text all others same = rw same (sym (append-nil text))

pub cut-here : (all others : List Piece) → all ≡ Cut ∷ others → Some others ≡ after_cut all
unfolding after_cut
cut-here all others same = rw same refl

pub part-end : (text : List ℕ) (all : List Piece) → all ≡ [] → text ≡ text ++ first_part all
unfolding first_part
part-end text all none = rw none (sym (append-nil text))

pub cut-none : (all : List Piece) → all ≡ [] → None ≡ after_cut all
unfolding after_cut
cut-none all none = rw none refl

-- the commands of pieces without a cut
pub commands-alone : (all : List Piece) (first : List ℕ) → None ≡ after_cut all → first ≡ first_part all
    → first ++ 10 ∷ [] ≡ commands_of_parts (parts all)
commands-alone all first none same = rw (parts-first all, ← none, same) refl

-- the commands of pieces with one
pub commands-piped : (all others : List Piece) (first : List ℕ) → Some others ≡ after_cut all → first ≡ first_part all
    → piped first (parts others) ≡ commands_of_parts (parts all)
commands-piped all others first some same = rw (parts-first all, ← some, parts-first others, same) refl
