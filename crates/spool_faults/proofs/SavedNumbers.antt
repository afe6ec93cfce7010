-- The number that is saved is at least each number of the marks that are saved, and of the files that are taken.
use Rattle.std.proofs.Common.{◌≡◌, ◌≤◌, ◌<◌, ◌⊎◌, ℕ, Bool, true, false, List, [], ◌∷◌, ◌++◌, Option, Some, sym, ap, ◌∙◌, refl, inl, inr, arith}
use Rattle.std.specs.Prelude.{◌==◌, Result, nat_le, nat_lt, option_map, if◌then◌else◌}
use Rattle.std.specs.List.{filter, filter_map, list_any}
use Rattle.std.proofs.lemmas.Bool.{and_from}
use Rattle.std.proofs.lemmas.Bool.Decides.{nat_tests}
use Rattle.host_calls.specs.declared.damage.Damage.{Damage}
use Rattle.job_name.specs.JobName.{NamedJob, job_named}
use Rattle.spool_shows.specs.JobFiles.{JobFile, counts, job_file, job_files}
use Rattle.spool_shows.proofs.FileLemmas.{file_says}
use Rattle.spool_shows.proofs.Membership.{Has, filtered_has, given_has, has_either, has_given, made_has}
use Rattle.start_journal.specs.declared.mark.Mark.{Mark}
use Rattle.start_journal.specs.declared.mark.Mark.TheVariants.{Removed, Started, Ended, Interrupted, Forgotten, Batch}
use Rattle.start_journal.specs.Journals.{are_drawn, is_drawn}
use Rattle.start_journal.specs.Marks.{number_of_mark}
use Rattle.start_journal.specs.Taken.{marks_taken}
use Rattle.spool_faults.specs.Faults.{files_taken, first_files, has_header}
use Rattle.spool_faults.specs.Salvaged.{given_up, greatest, is_unnamed, last_or_zero, loses_marks, name_numbers, number_named, removal_mark, saved_last, saved_marks, taken_back}
use Rattle.spool_faults.proofs.AddedMarks.{IsGivenUp, is_given_up}

-- the greatest is at least the first number, and each of the others
greatest_least : (least : ℕ) (list : List ℕ) → least ≤ greatest least list
greatest_least least [] = omega arith
greatest_least least (number ∷ later) = by_test (nat_lt least number) refl (λ from. greatest_least from later) where
  by_test : (b : Bool) → nat_lt least number ≡ b → ((from : ℕ) → from ≤ greatest from later)
      → least ≤ greatest (if b then number else least) later
  by_test true is rest =
      let less : least < number = grind (arith, nat_tests) in
      let more : number ≤ greatest number later = rest number in
      omega arith
  by_test false is rest = rest least

greatest_has : (least number : ℕ) (list : List ℕ) → Has list number → number ≤ greatest least list
greatest_has least number [] has = absurd has
greatest_has least number (first ∷ later) (inl same) = by_test (nat_lt least first) refl where
  by_test : (b : Bool) → nat_lt least first ≡ b → number ≤ greatest (if b then first else least) later
  by_test true is =
      let more : first ≤ greatest first later = greatest_least first later in
      omega (arith, same)
  by_test false is =
      let less : first ≤ least = grind (arith, nat_tests) in
      let more : least ≤ greatest least later = greatest_least least later in
      omega (arith, same)
greatest_has least number (first ∷ later) (inr has) = greatest_has (if nat_lt least first then first else least) number later has

-- the number of a mark was drawn, if it is at most the last
at_most : (number last : ℕ) → number ≤ last → nat_le number last ≡ true
at_most number last less = grind (arith, nat_tests)

drawn_at_most : (last : ℕ) (mark : Mark) → ((number : ℕ) → number_of_mark mark ≡ Some number → number ≤ last) → is_drawn last mark ≡ true
drawn_at_most last (Removed number) few = at_most number last (few number refl)
drawn_at_most last (Started number queue second) few = at_most number last (few number refl)
drawn_at_most last (Ended number ending) few = at_most number last (few number refl)
drawn_at_most last (Interrupted number) few = at_most number last (few number refl)
drawn_at_most last (Forgotten number) few = at_most number last (few number refl)
drawn_at_most last (Batch second) few = refl

drawn_all : (last : ℕ) (marks : List Mark) → ((mark : Mark) → Has marks mark → is_drawn last mark ≡ true) → are_drawn last marks ≡ true
drawn_all last [] each = refl
drawn_all last (mark ∷ later) each = and_from _ _ (each mark (inl refl)) (drawn_all last later (λ other has. each other (inr has)))

-- of each number only files that were there are taken
pub first_has : (before : List ℕ) (files : List JobFile) (file : JobFile) → Has (first_files before files) file → Has files file
first_has before [] file has = absurd has
first_has before (first ∷ later) file has = by_seen (list_any (λ number. number == first.job.number) before) has
    (first_has before later file) (first_has (first.job.number ∷ before) later file)
  where
    by_seen : (seen : Bool) → Has (if seen then first_files before later else first ∷ first_files (first.job.number ∷ before) later) file
        → (Has (first_files before later) file → Has later file)
        → (Has (first_files (first.job.number ∷ before) later) file → Has later file)
        → Has (first ∷ later) file
    by_seen true in_later rest other = inr (rest in_later)
    by_seen false (inl same) rest other = inl same
    by_seen false (inr in_later) rest other = inr (other in_later)

-- a file that is taken counts, and begins with a header
pub taken_has : (marks : List Mark) (files : List (List ℕ × List ℕ)) (file : JobFile) → Has (files_taken marks files) file
    → Has (job_files marks files) file × (has_header file ≡ true)
taken_has marks files file has =
    filtered_has has_header (job_files marks files) file (first_has [] (filter has_header (job_files marks files)) file has)

module _ (last : Result ℕ Damage) (journal : Option (List ℕ)) (files : List (List ℕ × List ℕ)) where
  -- the number of a file that counts is the number of a name
  pub file_at_most : (marks : List Mark) (file : JobFile) → Has (job_files marks files) file
      → file.job.number ≤ saved_last last journal files
  file_at_most marks file has =
      let entry : (e : List ℕ × List ℕ) × Has (filter (λ (e : List ℕ × List ℕ). counts marks e.0) files) e × (job_file e ≡ Some file) =
      given_has job_file _ file has in
      let holds : Has files entry.0 × (counts marks entry.0.0 ≡ true) =
      filtered_has (λ (e : List ℕ × List ℕ). counts marks e.0) files entry.0 entry.1 in
      let says : (file.name ≡ entry.0.0) × (file.bytes ≡ entry.0.1) × (job_named entry.0.0 ≡ Some file.job) =
      file_says entry.0.0 entry.0.1 (job_named entry.0.0) file entry.2 in
      greatest_has _ file.job.number (name_numbers files)
      (has_given (λ (e : List ℕ × List ℕ). number_named e.0) files entry.0 file.job.number holds.0
      (ap (option_map (λ (job : NamedJob). job.number)) says.2))

  -- and that of a mark that is taken is one of those marks
  taken_at_most : (mark : Mark) (number : ℕ) → Has (marks_taken journal) mark → number_of_mark mark ≡ Some number
      → number ≤ saved_last last journal files
  taken_at_most mark number has names =
      let among : number ≤ greatest (last_or_zero last) (filter_map number_of_mark (marks_taken journal)) = greatest_has (last_or_zero last)
      number (filter_map number_of_mark (marks_taken journal)) (has_given number_of_mark (marks_taken journal) mark number has names) in
      let more : greatest (last_or_zero last) (filter_map number_of_mark (marks_taken journal)) ≤ saved_last last journal files =
      greatest_least (greatest (last_or_zero last) (filter_map number_of_mark (marks_taken journal))) (name_numbers files) in
      omega arith

  -- a mark that gives up a start names the number of that start
  given_up_at_most : (mark : Mark) → Has (filter_map (given_up (marks_taken journal) (files_taken (marks_taken journal) files))
      (marks_taken journal)) mark → is_drawn (saved_last last journal files) mark ≡ true
  given_up_at_most mark has =
      let from : (start : Mark) × Has (marks_taken journal) start
      × (given_up (marks_taken journal) (files_taken (marks_taken journal) files) start ≡ Some mark) =
      given_has (given_up (marks_taken journal) (files_taken (marks_taken journal) files)) (marks_taken journal) mark has in
      let is : IsGivenUp (marks_taken journal) from.0 mark =
      is_given_up (marks_taken journal) (files_taken (marks_taken journal) files) from.0 mark from.2 in
      ap (is_drawn (saved_last last journal files)) is.gives
      ∙ at_most is.number (saved_last last journal files) (taken_at_most from.0 is.number from.1 (ap number_of_mark is.started))

  -- one that takes a job back that of its file
  taken_back_at_most : (mark : Mark) (lost : Bool) → Has (taken_back (marks_taken journal) (files_taken (marks_taken journal) files) lost)
      mark → is_drawn (saved_last last journal files) mark ≡ true
  taken_back_at_most mark false has = absurd has
  taken_back_at_most mark true has =
      let from : (file : JobFile) × Has (filter (is_unnamed (marks_taken journal)) (files_taken (marks_taken journal) files)) file
      × (removal_mark file ≡ mark) =
      made_has removal_mark (filter (is_unnamed (marks_taken journal)) (files_taken (marks_taken journal) files)) mark has in
      let holds : Has (files_taken (marks_taken journal) files) from.0 =
      (filtered_has (is_unnamed (marks_taken journal)) (files_taken (marks_taken journal) files) from.0 from.1).0 in
      ap (is_drawn (saved_last last journal files)) (sym from.2)
      ∙ at_most from.0.job.number (saved_last last journal files)
      (file_at_most (marks_taken journal) from.0 (taken_has (marks_taken journal) files from.0 holds).0)

  -- so each number of the marks that are saved counts as drawn
  pub saved_drawn : are_drawn (saved_last last journal files) (saved_marks last journal files) ≡ true
  saved_drawn = drawn_all (saved_last last journal files) (saved_marks last journal files)
      (λ mark has. by_first mark (has_either (marks_taken journal) added mark has))
    where
      added : List Mark
      added = filter_map (given_up (marks_taken journal) (files_taken (marks_taken journal) files)) (marks_taken journal) ++ taken_back
          (marks_taken journal) (files_taken (marks_taken journal) files)
          (loses_marks last journal (files_taken (marks_taken journal) files))

      by_first : (mark : Mark) → Has (marks_taken journal) mark ⊎ Has added mark → is_drawn (saved_last last journal files) mark ≡ true
      by_first mark (inl taken) = drawn_at_most (saved_last last journal files) mark (λ number names. taken_at_most mark number taken names)
      by_first mark (inr more) = elim (has_either (filter_map (given_up (marks_taken journal) (files_taken (marks_taken journal) files))
          (marks_taken journal)) (taken_back (marks_taken journal) (files_taken (marks_taken journal) files)
          (loses_marks last journal (files_taken (marks_taken journal) files))) mark more) [
            | inl given ↦ given_up_at_most mark given
            | inr back ↦ taken_back_at_most mark (loses_marks last journal (files_taken (marks_taken journal) files)) back
          ]
