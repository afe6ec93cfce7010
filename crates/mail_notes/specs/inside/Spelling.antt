-- A line spells one note at most.
use Rattle.std.proofs.Common.{◌≡◌, ◌∙◌, ℕ, ◌<◌, ◌^◌, Bool, true, false, List, [], ◌∷◌, ◌++◌, ap, arith, drop, get_or, refl, subst, sym, take}
use Rattle.text_reader.specs.HexDigits.{SpellsNumber, digits_of}
use Rattle.text_reader.proofs.DigitLemmas.{one_number}
use Rattle.text_reader.proofs.EightDigits.{digits_spelled}
use Rattle.host_calls.specs.Names.{is_name_byte}
use Rattle.job_name.proofs.JobNameLemmas.{job_is_name}
use Rattle.record_lines.specs.Lines.{HasNone}
use Rattle.record_lines.proofs.LineLemmas.{none_of, one_split}
use Rattle.mail_notes.specs.declared.note.Note.{Note}
use Rattle.mail_notes.specs.declared.note.Note.TheVariants.{Dropped, Noted, Sent}
use Rattle.mail_notes.specs.declared.note.NotedJob.{NotedJob}
use Rattle.mail_notes.specs.Lines.{IsJobFileName, SpellsNote, flag_byte, noted_job_text, note_text}

-- the text after the number of a job that was seen has these parts, each after a space
pub record AreParts (rest file : List ℕ) (flag : ℕ) (user : List ℕ) : Type 0 where
  pub is : rest ≡ 32 ∷ (file ++ (32 ∷ flag ∷ 32 ∷ user))
  pub no_space : HasNone 32 file

-- the name of a job's file has no space
pub no_space : (number : ℕ) (file : List ℕ) → IsJobFileName number file → HasNone 32 file
no_space number file of = none_of is_name_byte 32 file refl (job_is_name file of.queue number of.minute of.new_form of.spelled).each

-- numbers with the same eight digits are the same
pub one_of_eight : (first second : ℕ) → first < 16 ^ 8 → second < 16 ^ 8 → digits_of first ≡ digits_of second → first ≡ second
one_of_eight first second first_fits second_fits same =
    one_number (digits_of second) first second (subst (λ digits. SpellsNumber digits first) same (digits_spelled first first_fits))
    (digits_spelled second second_fits)

one_flag : (first second : Bool) → flag_byte first ≡ flag_byte second → first ≡ second
one_flag true true same = refl
one_flag false false same = refl
one_flag true false same = absurd (let unequal : 49 ≡ 48 = same in omega arith)
one_flag false true same = absurd (let unequal : 48 ≡ 49 = same in omega arith)

one_job : (first second : NotedJob) → first.number ≡ second.number → HasNone 32 first.file → HasNone 32 second.file
    → noted_job_text first ≡ noted_job_text second
    → first ≡ second
one_job first second numbers of_first of_second texts =
    let parts = one_split 32 first.file second.file _ _ of_first of_second (ap (drop 1) texts) in
    let flags : flag_byte first.always ≡ flag_byte second.always = ap (λ (text : List ℕ). get_or text 0 0) parts.1 in
    let users : first.user ≡ second.user = ap (drop 2) parts.1 in
    let job : ℕ → List ℕ → Bool → List ℕ → NotedJob = λ number file always user.
    record { number = number; file = file; always = always; user = user } in
    ap (λ number. job number first.file first.always first.user) numbers
    ∙ ap (λ file. job second.number file first.always first.user) parts.0
    ∙ ap (λ always. job second.number second.file always first.user) (one_flag first.always second.always flags)
    ∙ ap (job second.number second.file second.always) users

-- the numbers and the rests of two lines, which are one
same_digits : (first second : ℕ) (one two : List ℕ) → digits_of first ++ one ≡ digits_of second ++ two →
    digits_of first ≡ digits_of second
same_digits first second one two same = ap (take 8) same

same_rests : (first second : ℕ) (one two : List ℕ) → digits_of first ++ one ≡ digits_of second ++ two → one ≡ two
same_rests first second one two same = ap (drop 8) same

after_letter : (first second : Note) → note_text first ≡ note_text second → drop 2 (note_text first) ≡ drop 2 (note_text second)
after_letter first second same = ap (drop 2) same

letters : (first second : Note) → note_text first ≡ note_text second →
    get_or (note_text first) 0 0 ≡ get_or (note_text second) 0 0
letters first second same = ap (λ (text : List ℕ). get_or text 0 0) same

one_text : (first second : Note) (line : List ℕ) → SpellsNote line first → SpellsNote line second → note_text first
    ≡ note_text second → first ≡ second
one_text (Noted first) (Noted second) line of_first of_second texts =
    let tails : digits_of first.number ++ noted_job_text first ≡ digits_of second.number ++ noted_job_text second =
    after_letter (Noted first) (Noted second) texts in
    ap Noted (one_job first second
    (one_of_eight first.number second.number of_first.of.0 of_second.of.0
    (same_digits first.number second.number (noted_job_text first) (noted_job_text second) tails))
    (no_space first.number first.file of_first.of.1.file) (no_space second.number second.file of_second.of.1.file)
    (same_rests first.number second.number (noted_job_text first) (noted_job_text second) tails))
one_text (Sent first) (Sent second) line of_first of_second texts =
    ap Sent (one_of_eight first second of_first.of of_second.of (same_digits first second [] [] (after_letter (Sent first)
    (Sent second) texts)))
one_text (Dropped first) (Dropped second) line of_first of_second texts =
    ap Dropped (one_of_eight first second of_first.of of_second.of (same_digits first second [] [] (after_letter (Dropped first)
    (Dropped second) texts)))
one_text (Noted first) (Sent second) line of_first of_second texts =
    absurd (let unequal : 78 ≡ 83 = letters (Noted first) (Sent second) texts in omega arith)
one_text (Noted first) (Dropped second) line of_first of_second texts =
    absurd (let unequal : 78 ≡ 68 = letters (Noted first) (Dropped second) texts in omega arith)
one_text (Sent first) (Noted second) line of_first of_second texts =
    absurd (let unequal : 83 ≡ 78 = letters (Sent first) (Noted second) texts in omega arith)
one_text (Sent first) (Dropped second) line of_first of_second texts =
    absurd (let unequal : 83 ≡ 68 = letters (Sent first) (Dropped second) texts in omega arith)
one_text (Dropped first) (Noted second) line of_first of_second texts =
    absurd (let unequal : 68 ≡ 78 = letters (Dropped first) (Noted second) texts in omega arith)
one_text (Dropped first) (Sent second) line of_first of_second texts =
    absurd (let unequal : 68 ≡ 83 = letters (Dropped first) (Sent second) texts in omega arith)

pub one_note : (line : List ℕ) (first second : Note) → SpellsNote line first → SpellsNote line second → first ≡ second
one_note line first second of_first of_second = one_text first second line of_first of_second (sym of_first.is ∙ of_second.is)
