-- The marks that are added to those that are taken are legal after them, and can be written.
use Rattle.std.proofs.Common.{◌≡◌, ℕ, ℤ, Bool, true, false, List, [], ◌∷◌, ◌++◌, Option, Some, None, map, cond, sym, ap, subst, ◌∙◌, refl, inl, inr, append_assoc, eq-eqb, length, ◌+◌, Result}
use Rattle.std.specs.Prelude.{◌==◌, ◌&&◌, not, nat_le, option_map, slice_index, slice_range, if◌then◌else◌}
use Rattle.std.specs.List.{cons_option, filter, filter_map, list_all, list_any}
use Rattle.std.specs.Char.{is_ascii_alphabetic}
use Rattle.std.specs.Option.{option_or}
use Rattle.std.proofs.lemmas.Bool.{and_from, and_parts, or_from, or_parts}
use Rattle.std.proofs.lemmas.List.{append-nil}
use Rattle.std.proofs.lemmas.List.Folds.{list_any-append}
use Rattle.host_calls.specs.ClockRange.{is_clock_second}
use Rattle.host_calls.specs.declared.clock_seconds.TheConstants.{LAST_MINUTE}
use Rattle.text_reader.specs.HexValues.{number_in}
use Rattle.host_calls.specs.declared.damage.Damage.{Damage}
use Rattle.job_name.specs.JobName.{NamedJob, job_in_range, job_named, job_spelled}
use Rattle.spool_model.specs.declared.number.TheConstants.{LAST_NUMBER}
use Rattle.spool_model.specs.Numbers.{number_digits}
use Rattle.spool_shows.specs.JobFiles.{JobFile, counts, file_of, job_file, job_files}
use Rattle.spool_shows.specs.Shown.{start_damage}
use Rattle.spool_shows.proofs.FileLemmas.{file_says}
use Rattle.spool_shows.proofs.Membership.{Has, any_passes, filtered_has, given_has, has_left, has_right, none_some}
use Rattle.start_journal.specs.declared.mark.Mark.{Mark}
use Rattle.start_journal.specs.declared.mark.Mark.TheVariants.{Removed, Started, Ended, Interrupted, Forgotten, Batch}
use Rattle.start_journal.specs.Journals.{are_sound, is_legal_after}
use Rattle.start_journal.specs.Marks.{AreLegalMarksAfter, IsLegalAfter, decides, is_end_of, is_decided, is_ended, has_mark_of, has_start_of, is_mark_of, is_start_of}
use Rattle.start_journal.specs.SlotBytes.{can_write}
use Rattle.start_journal.specs.Taken.{journal_faults, marks_taken}
use Rattle.start_journal.proofs.LifeLemmas.{ends_decides, none_narrower}
use Rattle.start_journal.proofs.MarkLemmas.{ends_names}
use Rattle.start_journal.proofs.ReadLemmas.{IsSound, legal_list, sound_is, sound_more, sound_tested}
use Rattle.spool_faults.specs.Faults.{files_taken, first_files, has_header}
use Rattle.spool_faults.specs.Salvaged.{given_up, is_unnamed, loses_marks, marks_with, removal_mark, saved_marks, taken_back}
use Rattle.spool_faults.proofs.SavedMarks.{taken_sound}

-- each mark is legal after those before it
legal_at : (start before later : List Mark) (mark : Mark) → AreLegalMarksAfter start (before ++ mark ∷ later)
    → IsLegalAfter (start ++ before) mark
legal_at start [] later mark legal = subst (λ list. IsLegalAfter list mark) (sym (append-nil start)) legal.0
legal_at start (first ∷ before) later mark legal = subst (λ list. IsLegalAfter list mark) (append_assoc start (first ∷ []) before)
    (legal_at (start ++ first ∷ []) before later mark legal.1)

-- each of them passes the test that all pass
passes_all : (test : Mark → Bool) (marks : List Mark) (mark : Mark) → list_all test marks ≡ true → Has marks mark → test mark ≡ true
passes_all test [] mark all has = absurd has
passes_all test (first ∷ later) mark all (inl same) = ap test (sym same) ∙ (and_parts (test first) _ all).0
passes_all test (first ∷ later) mark all (inr has) = passes_all test later mark (and_parts (test first) _ all).1 has

-- what is given of one element more
given_more : (give : Mark → Option Mark) (before : List Mark) (mark : Mark)
    → filter_map give (before ++ mark ∷ []) ≡ filter_map give before ++ cons_option (give mark) []
given_more give [] mark = refl
given_more give (first ∷ before) mark = ap (cons_option (give first)) (given_more give before mark) ∙ by_given (give first) where
  by_given : (given : Option Mark) → cons_option given (filter_map give before ++ cons_option (give mark) [])
      ≡ cons_option given (filter_map give before) ++ cons_option (give mark) []
  by_given None = refl
  by_given (Some one) = refl

-- the mark is a start that is given up so
pub record IsGivenUp (all : List Mark) (mark other : Mark) : Type 0 where
  pub number : ℕ
  pub queue : ℕ
  pub second : ℤ
  pub started : mark ≡ Started number queue second
  pub gives : other ≡ Interrupted number
  pub undecided : is_decided number all ≡ false

pub is_given_up : (all : List Mark) (files : List JobFile) (mark other : Mark) → given_up all files mark ≡ Some other
    → IsGivenUp all mark other
is_given_up all files (Removed number) other is = absurd (none_some other is)
is_given_up all files (Ended number ending) other is = absurd (none_some other is)
is_given_up all files (Interrupted number) other is = absurd (none_some other is)
is_given_up all files (Forgotten number) other is = absurd (none_some other is)
is_given_up all files (Batch second) other is = absurd (none_some other is)
is_given_up all files (Started number queue second) other is = by_test (is_decided number all) refl is where
  by_damage : (damage : Option Damage) → is_decided number all ≡ false → option_map (λ (d : Damage). Interrupted number) damage ≡ Some other
      → IsGivenUp all (Started number queue second) other
  by_damage None undecided given = absurd (none_some other given)
  by_damage (Some damage) undecided given =
      record { number = number; queue = queue; second = second; started = refl; gives = cc; undecided = undecided }

  by_test : (b : Bool) → is_decided number all ≡ b → option_map (λ (d : Damage). Interrupted number)
      (if b then None else start_damage 0 queue (file_of number files)) ≡ Some other → IsGivenUp all (Started number queue second) other
  by_test true decided given = absurd (none_some other given)
  by_test false undecided given = by_damage (start_damage 0 queue (file_of number files)) undecided given

-- no mark that is given up names a number that no mark names
none_given_up : (all : List Mark) (files : List JobFile) (number : ℕ) (marks : List Mark) → has_mark_of number marks ≡ false
    → has_mark_of number (filter_map (given_up all files) marks) ≡ false
none_given_up all files number [] none = refl
none_given_up all files number (mark ∷ later) none =
    let parts : (is_mark_of number mark ≡ false) × (has_mark_of number later ≡ false) = or_parts _ _ none in
    by_given (given_up all files mark) refl parts.0 (none_given_up all files number later parts.1) where
      by_given : (given : Option Mark) → given_up all files mark ≡ given → is_mark_of number mark ≡ false
          → has_mark_of number (filter_map (given_up all files) later) ≡ false
          → has_mark_of number (cons_option given (filter_map (given_up all files) later)) ≡ false
      by_given None is unnamed rest = rest
      by_given (Some other) is unnamed rest =
          let from = is_given_up all files mark other is in
          or_from _ _ (ap (is_mark_of number) from.gives ∙ sym (ap (is_mark_of number) from.started) ∙ unnamed) rest

-- a start that is given up may be interrupted after those before it
one_given_up : (all : List Mark) (files : List JobFile) (before later : List Mark) (mark : Mark)
    → before ++ mark ∷ later ≡ all → IsSound all
    → IsSound (all ++ filter_map (given_up all files) before) → IsSound (all ++ filter_map (given_up all files) (before ++ mark ∷ []))
one_given_up all files before later mark is sound so_far =
    subst (λ list. IsSound (all ++ list)) (sym (given_more (given_up all files) before mark))
    (by_given (given_up all files mark) refl) where
      has_mark : Has all mark
      has_mark = subst (λ list. Has list mark) is (has_right before (mark ∷ later) mark (inl refl))

      by_given : (given : Option Mark) → given_up all files mark ≡ given
          → IsSound (all ++ (filter_map (given_up all files) before ++ cons_option given []))
      by_given None none = subst (λ list. IsSound (all ++ list)) (sym (append-nil (filter_map (given_up all files) before))) so_far
      by_given (Some other) gives =
          let from = is_given_up all files mark other gives in
          let has : Has all (Started from.number from.queue from.second) = subst (λ m. Has all m) from.started has_mark in
          let same_all : before ++ Started from.number from.queue from.second ∷ later ≡ all =
          ap (λ m. before ++ m ∷ later) (sym from.started) ∙ is in
          let new : has_mark_of from.number before ≡ false = legal_at [] before later (Started from.number from.queue from.second)
          (subst (λ list. AreLegalMarksAfter [] list) (sym same_all) (legal_list [] all sound.legal)) in
          let starts_it : is_start_of from.number (Started from.number from.queue from.second) ≡ true = by_same from.number in
          let started : has_start_of from.number (all ++ filter_map (given_up all files) before) ≡ true =
          any_passes (is_start_of from.number) (all ++ filter_map (given_up all files) before) (Started from.number from.queue from.second)
          (has_left all (filter_map (given_up all files) before) (Started from.number from.queue from.second) has) starts_it in
          let not_ended_all : is_ended from.number all ≡ false =
          none_narrower (is_end_of from.number) (decides from.number) all (ends_decides from.number) from.undecided in
          let not_ended_earlier : is_ended from.number (filter_map (given_up all files) before) ≡ false =
          none_narrower (is_end_of from.number) (is_mark_of from.number) (filter_map (given_up all files) before) (ends_names from.number)
          (none_given_up all files from.number before new) in
          let not_ended : is_ended from.number (all ++ filter_map (given_up all files) before) ≡ false =
          list_any-append (is_end_of from.number) all (filter_map (given_up all files) before) ∙ or_from (is_ended from.number all)
          (is_ended from.number (filter_map (given_up all files) before)) not_ended_all not_ended_earlier in
          let legal : is_legal_after (all ++ filter_map (given_up all files) before) (Interrupted from.number) ≡ true =
          and_from (has_start_of from.number (all ++ filter_map (given_up all files) before))
          (not (is_ended from.number (all ++ filter_map (given_up all files) before))) started (ap not not_ended) in
          let written : can_write (Started from.number from.queue from.second) ≡ true =
          passes_all can_write all (Started from.number from.queue from.second) sound.writable has in
          let writable : can_write (Interrupted from.number) ≡ true = (and_parts (nat_le 1 from.number) (is_ascii_alphabetic from.queue)
          (and_parts (nat_le 1 from.number && is_ascii_alphabetic from.queue) (is_clock_second from.second) written).0).0 in
          subst (λ m. IsSound (all ++ (filter_map (given_up all files) before ++ m ∷ []))) (sym from.gives)
          (subst IsSound (append_assoc all (filter_map (given_up all files) before) (Interrupted from.number ∷ []))
          (sound_more (all ++ filter_map (given_up all files) before) (Interrupted from.number) so_far legal writable)) where
            by_same : (number : ℕ) → (number == number) ≡ true
            by_same number = eq-eqb number number refl

interrupted_sound : (all : List Mark) (files : List JobFile) (before later : List Mark) → before ++ later ≡ all → IsSound all
    → IsSound (all ++ filter_map (given_up all files) before) → IsSound (all ++ filter_map (given_up all files) all)
interrupted_sound all files before [] is sound so_far =
    subst (λ list. IsSound (all ++ filter_map (given_up all files) list)) (sym (append-nil before) ∙ is) so_far
interrupted_sound all files before (mark ∷ later) is sound so_far =
    interrupted_sound all files (before ++ mark ∷ []) later (append_assoc before (mark ∷ []) later ∙ is) sound
    (one_given_up all files before later mark is sound so_far)

-- The numbers that the first list does not name and that are not among these are not named in the second one.
abbrev NamesOnly : List Mark → List ℕ → List Mark → Type 0
NamesOnly all before base = (number : ℕ) → list_any (λ one. one == number) before ≡ false → has_mark_of number all ≡ false
    → has_mark_of number base ≡ false

-- the files have numbers that can be written
abbrev HaveNumbers : List JobFile → Type 0
HaveNumbers files = (file : JobFile) → Has files file → nat_le 1 file.job.number ≡ true

-- a job that no mark names may be removed after those before it
removed_sound : (all : List Mark) (before : List ℕ) (files : List JobFile) (base : List Mark) → IsSound base
    → NamesOnly all before base → HaveNumbers files
    → IsSound (base ++ map removal_mark (filter (is_unnamed all) (first_files before files)))
removed_sound all before [] base sound only numbers = subst IsSound (sym (append-nil base)) sound
removed_sound all before (file ∷ later) base sound only numbers =
    by_seen (list_any (λ one. one == file.job.number) before) refl
    (removed_sound all before later base sound only later_numbers)
    (removed_sound all (file.job.number ∷ before) later base sound wider later_numbers)
    (λ more. removed_sound all (file.job.number ∷ before) later (base ++ Removed file.job.number ∷ []) more with_one later_numbers) where
      wider : NamesOnly all (file.job.number ∷ before) base
      wider number new unnamed = only number (or_parts (file.job.number == number) (list_any (λ one. one == number) before) new).1 unnamed

      with_one : NamesOnly all (file.job.number ∷ before) (base ++ Removed file.job.number ∷ [])
      with_one number new unnamed =
          let parts : ((file.job.number == number) ≡ false) × (list_any (λ one. one == number) before ≡ false) =
          or_parts (file.job.number == number) (list_any (λ one. one == number) before) new in
          list_any-append (is_mark_of number) base (Removed file.job.number ∷ []) ∙ or_from (has_mark_of number base) (has_mark_of number
          (Removed file.job.number ∷ [])) (only number parts.1 unnamed) (or_from (file.job.number == number) false parts.0 refl)

      later_numbers : HaveNumbers later
      later_numbers other has = numbers other (inr has)

      by_named : (named : Bool) → has_mark_of file.job.number all ≡ named → list_any (λ one. one == file.job.number) before ≡ false
          → IsSound (base ++ map removal_mark (filter (is_unnamed all) (first_files (file.job.number ∷ before) later)))
          → (IsSound (base ++ Removed file.job.number ∷ []) → IsSound ((base ++ Removed file.job.number ∷ [])
          ++ map removal_mark (filter (is_unnamed all) (first_files (file.job.number ∷ before) later))))
          → IsSound (base ++ map removal_mark (cond (not named) (file ∷ filter (is_unnamed all)
          (first_files (file.job.number ∷ before) later)) (filter (is_unnamed all) (first_files (file.job.number ∷ before) later))))
      by_named true is new passed taken = passed
      by_named false is new passed taken =
          subst IsSound (append_assoc base (Removed file.job.number ∷ [])
          (map removal_mark (filter (is_unnamed all) (first_files (file.job.number ∷ before) later))))
          (taken (sound_more base (Removed file.job.number) sound (ap not (only file.job.number new is)) (numbers file (inl refl))))

      by_seen : (seen : Bool) → list_any (λ one. one == file.job.number) before ≡ seen
          → IsSound (base ++ map removal_mark (filter (is_unnamed all) (first_files before later)))
          → IsSound (base ++ map removal_mark (filter (is_unnamed all) (first_files (file.job.number ∷ before) later)))
          → (IsSound (base ++ Removed file.job.number ∷ []) → IsSound ((base ++ Removed file.job.number ∷ [])
          ++ map removal_mark (filter (is_unnamed all) (first_files (file.job.number ∷ before) later))))
          → IsSound (base ++ map removal_mark
          (filter (is_unnamed all) (if seen then first_files before later else file ∷ first_files (file.job.number ∷ before) later)))
      by_seen true is same passed taken = same
      by_seen false is same passed taken = by_named (has_mark_of file.job.number all) refl is passed taken

-- a name has a number that can be written
in_range_number : (new_form : Bool) (queue : ℕ) (number minute : Option ℕ) (job : NamedJob)
    → job_in_range new_form queue number minute ≡ Some job → nat_le 1 job.number ≡ true
in_range_number new_form queue None minute job is = absurd (none_some job is)
in_range_number new_form queue (Some number) None job is = absurd (none_some job is)
in_range_number new_form queue (Some number) (Some minute) job is =
    by_test (is_ascii_alphabetic queue) (nat_le 1 number) refl (nat_le minute LAST_MINUTE) is
  where
    by_test : (letter drawn : Bool) → nat_le 1 number ≡ drawn → (inside : Bool) → (if letter && drawn && inside then Some
        (record { queue = queue; number = number; minute = minute; new_form = new_form }) else None) ≡ Some job → nat_le 1 job.number ≡ true
    by_test false drawn at_least inside given = absurd (none_some job given)
    by_test true false at_least inside given = absurd (none_some job given)
    by_test true true at_least false given = absurd (none_some job given)
    by_test true true at_least true given =
        let same : record { queue = queue; number = number; minute = minute; new_form = new_form } ≡ job = cc in
        ap (λ (one : NamedJob). nat_le 1 one.number) (sym same) ∙ at_least

spelled_number : (new_form : Bool) (name : List ℕ) (job : NamedJob) → job_spelled new_form name ≡ Some job → nat_le 1 job.number ≡ true
spelled_number new_form name job is = by_test (length name == 9 + number_digits new_form) is where
  by_test : (b : Bool) → (if b then job_in_range new_form (slice_index name 0) (number_in (slice_range name 1 (1 + number_digits new_form)))
      (number_in (slice_range name (1 + number_digits new_form) (9 + number_digits new_form))) else None) ≡ Some job
      → nat_le 1 job.number ≡ true
  by_test true given =
      in_range_number new_form (slice_index name 0) (number_in (slice_range name 1 (1 + number_digits new_form)))
      (number_in (slice_range name (1 + number_digits new_form) (9 + number_digits new_form))) job given
  by_test false given = absurd (none_some job given)

named_number : (name : List ℕ) (job : NamedJob) → job_named name ≡ Some job → nat_le 1 job.number ≡ true
named_number name job is = by_new (job_spelled true name) refl is where
  by_new : (found : Option NamedJob) → job_spelled true name ≡ found → option_or found (job_spelled false name) ≡ Some job
      → nat_le 1 job.number ≡ true
  by_new None none given = spelled_number false name job given
  by_new (Some other) some given = spelled_number true name job (some ∙ given)

have_numbers : (marks : List Mark) (files : List (List ℕ × List ℕ)) → HaveNumbers (filter has_header (job_files marks files))
have_numbers marks files file has =
    let inside : Has (job_files marks files) file = (filtered_has has_header (job_files marks files) file has).0 in
    let from : (e : List ℕ × List ℕ) × Has (filter (λ (e : List ℕ × List ℕ). counts marks e.0) files) e × (job_file e ≡ Some file) =
    given_has job_file _ file inside in
    named_number from.0.0 file.job (file_says from.0.0 from.0.1 (job_named from.0.0) file from.2).2

-- what is added to sound marks leaves them sound
with_sound : (marks : List Mark) (files : List (List ℕ × List ℕ)) (lost : Bool) → IsSound marks
    → IsSound (marks_with marks (files_taken marks files) lost)
with_sound marks files lost sound = by_lost lost where
  interrupted : IsSound (marks ++ filter_map (given_up marks (files_taken marks files)) marks)
  interrupted = interrupted_sound marks (files_taken marks files) [] marks refl sound (subst IsSound (sym (append-nil marks)) sound)

  only : NamesOnly marks [] (marks ++ filter_map (given_up marks (files_taken marks files)) marks)
  only number new unnamed =
      list_any-append (is_mark_of number) marks (filter_map (given_up marks (files_taken marks files)) marks)
      ∙ or_from (has_mark_of number marks) (has_mark_of number (filter_map (given_up marks (files_taken marks files)) marks)) unnamed
      (none_given_up marks (files_taken marks files) number marks unnamed)

  by_lost : (is : Bool)
      → IsSound (marks ++ (filter_map (given_up marks (files_taken marks files)) marks ++ taken_back marks (files_taken marks files) is))
  by_lost false =
      subst (λ list. IsSound (marks ++ list)) (sym (append-nil (filter_map (given_up marks (files_taken marks files)) marks))) interrupted
  by_lost true =
      subst IsSound (append_assoc marks (filter_map (given_up marks (files_taken marks files)) marks)
      (map removal_mark (filter (is_unnamed marks) (files_taken marks files))))
      (removed_sound marks [] (filter has_header (job_files marks files))
      (marks ++ filter_map (given_up marks (files_taken marks files)) marks) interrupted only (have_numbers marks files))

pub saved_sound : (last : Result ℕ Damage) (journal : Option (List ℕ)) (files : List (List ℕ × List ℕ))
    → are_sound (saved_marks last journal files) ≡ true
saved_sound last journal files =
    sound_tested (saved_marks last journal files) (with_sound (marks_taken journal) files
    (loses_marks last journal (files_taken (marks_taken journal) files)) (sound_is (marks_taken journal) (taken_sound journal)))
