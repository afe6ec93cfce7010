-- The parts of a line.
use Rattle.std.proofs.Common.{◌≡◌, ◌∙◌, ℕ, ◌-◌, ◌<◌, ◌^◌, Bool, true, cond, List, [], ◌∷◌, ◌++◌, Option, Some, None, length, take, drop, get_or, refl, sym, ap, subst, arith, IfNone, length-append}
use Rattle.std.specs.Prelude.{◌==◌, nat_lt}
use Rattle.std.specs.List.{list_any, position, position_or_len}
use Rattle.std.proofs.Math.Seq.{drop-append_seam}
use Rattle.std.proofs.lemmas.Bool.{or_parts}
use Rattle.std.proofs.lemmas.Bool.Decides.{nat_tests}
use Rattle.std.proofs.lemmas.List.{take-append-drop}
use Rattle.text_reader.specs.HexDigits.{digits_of}
use Rattle.record_lines.specs.Lines.{HasNone}
use Rattle.record_lines.proofs.LineLemmas.{after_space, none_before, one_split}
use Rattle.mail_notes.specs.declared.note.Note.{Note}
use Rattle.mail_notes.specs.declared.note.NotedJob.{NotedJob}
use Rattle.mail_notes.specs.inside.Spelling.{AreParts, no_space, one_of_eight}
use Rattle.mail_notes.specs.Lines.{IsNotedJobText, IsNoteText, SpellsNote, flag_byte, letter_of_note, rest_text}
use Rattle.mail_notes.specs.Notes.{number_of_note}
use Rattle.mail_notes.proofs.WritingLemmas.{fits_of}

-- the byte is a space
abbrev pub is_space : ℕ → Bool
is_space byte = byte == 32

-- the place of the first space
place_of_space : (file rest : List ℕ) → HasNone 32 file → position_or_len is_space (file ++ 32 ∷ rest) ≡ length file
place_of_space [] rest none = refl
place_of_space (byte ∷ file) rest none =
    let parts = or_parts (is_space byte) (list_any is_space file) none in
    let later : position_or_len is_space (file ++ 32 ∷ rest) ≡ length file = place_of_space file rest parts.1 in
    rw parts.0 (omega (arith, later))

pub space_of_parts : (file rest : List ℕ) → HasNone 32 file → position is_space (file ++ 32 ∷ rest) ≡ Some (length file)
space_of_parts file rest none =
    let place = place_of_space file rest none in
    let inside : nat_lt (position_or_len is_space (file ++ 32 ∷ rest)) (length (file ++ 32 ∷ rest)) ≡ true =
    rw place (let longer : length file < length (file ++ 32 ∷ rest) = simp length-append (omega arith) in grind (arith, nat_tests)) in
    ap (λ test. cond test (Some (position_or_len is_space (file ++ 32 ∷ rest))) None) inside ∙ ap Some place

-- the parts of a text
pub parts_alike : (rest file other_file : List ℕ) (flag other_flag : ℕ) (user other_user : List ℕ) → AreParts rest file flag user
    → AreParts rest other_file other_flag other_user
    → (file ≡ other_file) × (flag ≡ other_flag) × (user ≡ other_user)
parts_alike rest file other_file flag other_flag user other_user one two =
    let split = one_split 32 file other_file _ _ one.no_space two.no_space (ap (drop 1) (sym one.is ∙ two.is)) in
    (split.0, ap (λ (text : List ℕ). get_or text 0 0) split.1, ap (drop 2) split.1)

-- the letter, the digits and the rest of a line that spells a note
pub letter_part : (line : List ℕ) (note : Note) → SpellsNote line note → get_or line 0 0 ≡ letter_of_note note
letter_part line note spelled = ap (λ (text : List ℕ). get_or text 0 0) spelled.is

pub tail_part : (line : List ℕ) (note : Note) → SpellsNote line note
    → take (length line - 2) (drop 2 line) ≡ digits_of (number_of_note note) ++ rest_text note
tail_part line note spelled = after_space line (digits_of (number_of_note note) ++ rest_text note) (letter_of_note note) spelled.is

pub digits_part : (line : List ℕ) (note : Note) → SpellsNote line note
    → take 8 (take (length line - 2) (drop 2 line)) ≡ digits_of (number_of_note note)
digits_part line note spelled = ap (take 8) (tail_part line note spelled)

pub rest_part : (line : List ℕ) (note : Note) → SpellsNote line note → drop 8 (take (length line - 2) (drop 2 line)) ≡ rest_text note
rest_part line note spelled = ap (drop 8) (tail_part line note spelled)

-- a line of which no note has the parts spells none
pub none_spelled : (line : List ℕ) (number : ℕ) (digits rest : List ℕ) (found : Option Note)
    → digits ≡ take 8 (take (length line - 2) (drop 2 line))
    → rest ≡ drop 8 (take (length line - 2) (drop 2 line)) → digits ≡ digits_of number → number < 16 ^ 8
    → IfNone found ((note : Note) → ¬ IsNoteText (get_or line 0 0) number rest note) → IfNone found ((note : Note) → ¬ SpellsNote line note)
none_spelled line number digits rest (Some note) begins back is fits none = tt
none_spelled line number digits rest None begins back is fits none = λ note spelled. none note (record {
  letter_is = letter_part line note spelled;
  number_is = one_of_eight number (number_of_note note) fits (fits_of note spelled.of) (sym is ∙ begins ∙ digits_part line note spelled);
  rest_is = back ∙ rest_part line note spelled;
  of = spelled.of;
})

-- Where the parts of a text are.
module _ (rest after : List ℕ) (parted : rest ≡ 32 ∷ after) (file : List ℕ) (flag : ℕ) (user : List ℕ)
    (parts : AreParts rest file flag user) where
  after_is : after ≡ file ++ (32 ∷ flag ∷ 32 ∷ user)
  after_is = ap (drop 1) (sym parted ∙ parts.is)

  space_is : position is_space after ≡ Some (length file)
  space_is = ap (position is_space) after_is ∙ space_of_parts file (flag ∷ 32 ∷ user) parts.no_space

  pub has_space : None ≡ position is_space after → ⊥
  has_space none = let impossible : None ≡ Some (length file) = none ∙ space_is in cc

  pub tail_is : (end : ℕ) → Some end ≡ position is_space after → drop end after ≡ 32 ∷ flag ∷ 32 ∷ user
  tail_is end found =
      let ends : Some end ≡ Some (length file) = found ∙ space_is in
      let same : end ≡ length file = cc in
      ap (λ place. drop place after) same ∙ ap (drop (length file)) after_is ∙ drop-append_seam file (32 ∷ flag ∷ 32 ∷ user)

-- the text has the parts that were found
pub parts_found : (rest after file tail : List ℕ) (end flag : ℕ) (user : List ℕ) → rest ≡ 32 ∷ after → Some end ≡ position is_space after
    → file ≡ take end after → tail ≡ drop end after
    → tail ≡ 32 ∷ flag ∷ 32 ∷ user → AreParts rest file flag user
parts_found rest after file tail end flag user parted found begins back is = record {
  is = parted ∙ ap (λ text. 32 ∷ text) (sym (take-append-drop end after) ∙ ap (λ t. t ++ drop end after) (sym begins)
      ∙ ap (λ t. file ++ t) (sym back ∙ is));
  no_space = subst (HasNone 32) (sym begins) (none_before 32 after end (sym found));
}

-- the parts of a job's text
pub parts_of : (number : ℕ) (rest : List ℕ) (job : NotedJob) → IsNotedJobText number rest job
    → AreParts rest job.file (flag_byte job.always) job.user
parts_of number rest job text = record { is = text.is; no_space = no_space job.number job.file text.of.file }
