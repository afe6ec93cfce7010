-- How long the commands of a command may be.
use Rattle.std.proofs.Common.{◌≡◌, ◌∙◌, ◌≤◌, ◌+◌, ◌*◌, ℕ, Bool, true, false, List, [], ◌∷◌, ◌++◌, length, sym, ap, subst, arith, refl}
use Rattle.std.specs.Prelude.{Option, Some, None, ◌==◌, ◌&&◌, codes, suc, if◌then◌else◌}
use Rattle.std.specs.List.{flat_map}
use Rattle.std.proofs.lemmas.List.{length-append}
use Rattle.job_script.specs.JobText.{quoted, quoted_part}
use Rattle.cron_minutes.specs.Commands.{commands, commands_of_parts, parts, piece_of, pieces, piped, with_newline}
use Rattle.cron_minutes.specs.declared.pieces.Piece.{Piece}
use Rattle.cron_minutes.specs.declared.pieces.Piece.TheVariants.{Byte, Cut}
use Rattle.cron_minutes.specs.inside.Lines.{after_cut, first_part, input}
use Rattle.cron_minutes.proofs.PieceLemmas.{commands-alone, commands-piped, input-lines}

part_length : (byte : ℕ) → length (quoted_part byte) ≤ 4
part_length byte = by_test (byte == 39) where
  by_test : (b : Bool) → length (if b then codes "'\\''" else byte ∷ []) ≤ 4
  by_test true = let four : length (codes "'\\''") ≡ 4 = refl in omega (arith, four)
  by_test false = let one : length (byte ∷ []) ≡ 1 = refl in omega (arith, one)

parts_length : (value : List ℕ) → length (flat_map quoted_part value) ≤ 4 * length value
parts_length [] = let none : 0 ≤ 4 * 0 = omega arith in none
parts_length (byte ∷ value) =
    let joined : length (quoted_part byte ++ flat_map quoted_part value) ≡ length (quoted_part byte) + length (flat_map quoted_part value) =
    length-append (quoted_part byte) (flat_map quoted_part value) in
    let few : length (quoted_part byte ++ flat_map quoted_part value) ≤ 4 * suc (length value) =
    omega (arith, joined, part_length byte, parts_length value) in
    few

quoted_length : (value : List ℕ) → length (quoted value) ≤ 4 * length value + 2
quoted_length value =
    let joined : length (flat_map quoted_part value ++ 39 ∷ []) ≡ length (flat_map quoted_part value) + 1 =
    length-append (flat_map quoted_part value) (39 ∷ []) in
    let few : suc (length (flat_map quoted_part value ++ 39 ∷ [])) ≤ 4 * length value + 2 = omega (arith, joined, parts_length value) in
    few

pieces_length : (command : List ℕ) → length (pieces command) ≤ length command
unfolding pieces
pieces_length [] = let none : 0 ≤ 0 = omega arith in none
pieces_length (first ∷ []) = let one : 1 ≤ 1 = omega arith in one
pieces_length (first ∷ second ∷ rest) = by_test (first == 92 && second == 37) (pieces_length rest) (pieces_length (second ∷ rest)) where
  by_test : (b : Bool) → length (pieces rest) ≤ length rest → length (pieces (second ∷ rest)) ≤ suc (length rest) →
      length (if b then Byte 37 ∷ pieces rest else piece_of first ∷ pieces (second ∷ rest)) ≤ suc (suc (length rest))
  by_test true short longer = let few : suc (length (pieces rest)) ≤ suc (suc (length rest)) = omega (arith, short) in few
  by_test false short longer = let few : suc (length (pieces (second ∷ rest))) ≤ suc (suc (length rest)) = omega (arith, longer) in few

input_length : (of : List Piece) → length (input of) ≡ length of + 1
unfolding input
input_length [] = refl
input_length (piece ∷ later) =
    let shorter : length (input later) ≡ length later + 1 = input_length later in
    let all : suc (length (input later)) ≡ suc (length later) + 1 = omega (arith, shorter) in
    all

first_length : (of : List Piece) → length (first_part of) ≤ length of
unfolding first_part
first_length [] = let none : 0 ≤ 0 = omega arith in none
first_length (Byte byte ∷ later) = let few : suc (length (first_part later)) ≤ suc (length later) = omega (arith, first_length later) in few
first_length (Cut ∷ later) = let none : 0 ≤ suc (length later) = omega arith in none

after_length : (of others : List Piece) → after_cut of ≡ Some others → length others ≤ length of
unfolding after_cut
after_length [] others is = cc
after_length (Byte byte ∷ later) others is =
    let few : length others ≤ suc (length later) = omega (arith, after_length later others is) in
    few
after_length (Cut ∷ later) others is =
    let same : later ≡ others = cc in
    let few : length later ≤ suc (length later) = omega arith in
    subst (λ (l : List Piece). length l ≤ suc (length later)) same few

piped_length : (first : List ℕ) (lines : List (List ℕ)) (count : ℕ) → length (flat_map with_newline lines) ≡ count
    → length (piped first lines) ≤ length first + 4 * count + 20
piped_length first lines count is =
    let word : List ℕ = quoted (flat_map with_newline lines) in
    let ends : length (first ++ codes "\n}\n") ≡ length first + 3 = length-append first (codes "\n}\n") in
    let last : length (codes " | {\n" ++ (first ++ codes "\n}\n")) ≡ 5 + length (first ++ codes "\n}\n") =
    length-append (codes " | {\n") (first ++ codes "\n}\n") in
    let after : length (word ++ (codes " | {\n" ++ (first ++ codes "\n}\n")))
    ≡ length word + length (codes " | {\n" ++ (first ++ codes "\n}\n")) =
    length-append word (codes " | {\n" ++ (first ++ codes "\n}\n")) in
    let all : length (piped first lines) ≡ 10 + length (word ++ (codes " | {\n" ++ (first ++ codes "\n}\n"))) =
    length-append (codes "printf %s ") (word ++ (codes " | {\n" ++ (first ++ codes "\n}\n"))) in
    let few : length word ≤ 4 * count + 2 = subst (λ (n : ℕ). length word ≤ 4 * n + 2) is (quoted_length (flat_map with_newline lines)) in
    omega (arith, ends, last, after, all, few)

pieces_commands_length : (of : List Piece) → length (commands_of_parts (parts of)) ≤ 5 * length of + 30
pieces_commands_length of = by_cut (after_cut of) refl where
  by_cut : (cut : Option (List Piece)) → after_cut of ≡ cut → length (commands_of_parts (parts of)) ≤ 5 * length of + 30
  by_cut None is =
      let alone : first_part of ++ 10 ∷ [] ≡ commands_of_parts (parts of) = commands-alone of (first_part of) (sym is) refl in
      let joined : length (first_part of ++ 10 ∷ []) ≡ length (first_part of) + 1 = length-append (first_part of) (10 ∷ []) in
      subst (λ (made : List ℕ). length made ≤ 5 * length of + 30) alone (omega (arith, joined, first_length of))
  by_cut (Some others) is =
      let with_input : piped (first_part of) (parts others) ≡ commands_of_parts (parts of) =
      commands-piped of others (first_part of) (sym is) refl in
      let counted : length (flat_map with_newline (parts others)) ≡ length others + 1 = ap length (sym (input-lines others))
      ∙ input_length others in
      subst (λ (made : List ℕ). length made ≤ 5 * length of + 30) with_input
      (omega (arith, piped_length (first_part of) (parts others) (length others + 1) counted, first_length of, after_length of others is))

-- the commands of a command are at most five times as long, and thirty bytes more
pub commands_length : (command : List ℕ) → length (commands command) ≤ 5 * length command + 30
commands_length command = omega (arith, pieces_commands_length (pieces command), pieces_length command)
