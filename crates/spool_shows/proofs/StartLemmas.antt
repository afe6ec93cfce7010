-- Starts without damage: each number that is started and not finished has its file.
use Rattle.std.proofs.Common.{◌≡◌, ℕ, ℤ, ◌+◌, Bool, true, false, List, [], ◌∷◌, sym, ap, ◌∙◌, refl, inl, inr, arith}
use Rattle.std.specs.Prelude.{◌==◌, Option, Some, None, if◌then◌else◌}
use Rattle.std.proofs.lemmas.Bool.Decides.{nat_tests}
use Rattle.host_calls.specs.declared.damage.Damage.{Damage}
use Rattle.host_calls.specs.Directory.{Files}
use Rattle.start_journal.specs.declared.mark.Mark.{Mark}
use Rattle.start_journal.specs.declared.mark.Mark.TheVariants.{Removed, Started, Ended, Interrupted, Forgotten, Batch}
use Rattle.start_journal.specs.Journals.{gate_damage, queue_damage}
use Rattle.start_journal.specs.Marks.{is_decided}
use Rattle.std.proofs.lemmas.Bool.{eqb-true}
use Rattle.spool_shows.specs.ByName.{HasFile, IsJobFile}
use Rattle.spool_shows.specs.JobFiles.{JobFile, file_of}
use Rattle.spool_shows.specs.Shown.{mark_damage, start_damage, starts_damage}
use Rattle.spool_shows.proofs.FileLemmas.{counted_is_file, file_is_counted, files_that_count}
use Rattle.spool_shows.proofs.Membership.{Has, found_has, not_found}
use Rattle.spool_shows.proofs.SoundLemmas.{neither_first}

-- the test of a number
pub number_passes : (one other : ℕ) → one ≡ other → (one == other) ≡ true
number_passes one other same = grind (arith, nat_tests)

-- each mark shows no damage, at some place
starts_whole : (marks : List Mark) (files : List JobFile) (place : ℕ) (list : List Mark) (mark : Mark)
    → starts_damage marks files place list ≡ None → Has list mark → (at : ℕ) × (mark_damage marks files at mark ≡ None)
starts_whole marks files place [] mark is has = absurd has
starts_whole marks files place (first ∷ later) mark is has =
    let both : (mark_damage marks files place first ≡ None) × (starts_damage marks files (place + 1) later ≡ None) = neither_first _ _ is in
    elim has [
      | inl same ↦ (place, ap (mark_damage marks files place) (sym same) ∙ both.0)
      | inr in_later ↦ starts_whole marks files (place + 1) later mark both.1 in_later
    ]

-- and no mark shows damage, where each shows none at any place
pub whole_starts : (marks : List Mark) (files : List JobFile) (place : ℕ) (list : List Mark)
    → ((at : ℕ) (mark : Mark) → Has list mark → mark_damage marks files at mark ≡ None) → starts_damage marks files place list ≡ None
whole_starts marks files place [] each = refl
whole_starts marks files place (first ∷ later) each =
    rw (each place first (inl refl)) (whole_starts marks files (place + 1) later (λ at mark has. each at mark (inr has)))

-- a start without damage has a file of its queue
file_there : (place queue : ℕ) (found : Option JobFile) → start_damage place queue found ≡ None
    → (file : JobFile) × (found ≡ Some file) × (file.job.queue ≡ queue)
file_there place queue None is = let impossible : ◌≡◌ {A = Option Damage} (Some (gate_damage place)) None = is in cc
file_there place queue (Some file) is = by_test (file.job.queue == queue) refl is where
  by_test : (b : Bool) → (file.job.queue == queue) ≡ b → (if b then None else Some (queue_damage place queue)) ≡ None
      → (of : JobFile) × (Some file ≡ Some of) × (of.job.queue ≡ queue)
  by_test true test none = (file, refl, eqb-true _ _ test)
  by_test false test none = let impossible : Some (queue_damage place queue) ≡ None = none in cc

-- a start that is not finished, and without damage, has its file
pub has_its_file : (marks : List Mark) (files : Files) (at number queue : ℕ) (second : ℤ) → mark_damage marks (files_that_count marks files)
    at (Started number queue second) ≡ None → is_decided number marks ≡ false → HasFile marks files number queue
has_its_file marks files at number queue second whole undecided =
    let here : start_damage at queue (file_of number (files_that_count marks files)) ≡ None =
    sym (ap (λ b. if b then None else start_damage at queue (file_of number (files_that_count marks files))) undecided) ∙ whole in
    let found : (file : JobFile) × (file_of number (files_that_count marks files) ≡ Some file) × (file.job.queue ≡ queue) =
    file_there at queue _ here in
    let holds : Has (files_that_count marks files) found.0 × ((found.0.job.number == number) ≡ true) =
    found_has (λ (file : JobFile). file.job.number == number) (files_that_count marks files) found.0 found.1 in
    record { file = found.0; is = counted_is_file marks files found.0 holds.0; number_is = eqb-true _ _ holds.1; queue_is = found.2 }

-- the file of a start
pub start_has_file : (marks : List Mark) (files : Files) (number queue : ℕ) (second : ℤ)
    → starts_damage marks (files_that_count marks files) 0 marks ≡ None → Has marks (Started number queue second)
    → is_decided number marks ≡ false → HasFile marks files number queue
start_has_file marks files number queue second none has undecided =
    let whole : (at : ℕ) × (mark_damage marks (files_that_count marks files) at (Started number queue second) ≡ None) =
    starts_whole marks (files_that_count marks files) 0 marks (Started number queue second) none has in
    has_its_file marks files whole.0 number queue second whole.1 undecided

-- the file of a number is found, where no number has two
pub file_found : (marks : List Mark) (files : Files) (file : JobFile) → IsJobFile marks files file → ((first second : JobFile)
    → IsJobFile marks files first → IsJobFile marks files second → first.job.number ≡ second.job.number → first ≡ second)
    → file_of file.job.number (files_that_count marks files) ≡ Some file
file_found marks files file is once = by_found (file_of file.job.number (files_that_count marks files)) refl where
  by_found : (found : Option JobFile) → file_of file.job.number (files_that_count marks files) ≡ found
      → file_of file.job.number (files_that_count marks files) ≡ Some file
  by_found None none = absurd (not_found (λ (of : JobFile). of.job.number == file.job.number) (files_that_count marks files) file none
      (file_is_counted marks files file is) (number_passes _ _ refl))
  by_found (Some other) found =
      let holds : Has (files_that_count marks files) other × ((other.job.number == file.job.number) ≡ true) =
      found_has (λ (of : JobFile). of.job.number == file.job.number) (files_that_count marks files) other found in
      found ∙ ap Some (once other file (counted_is_file marks files other holds.0) is (eqb-true _ _ holds.1))

pub queue_fits : (place queue : ℕ) (file : JobFile) → file.job.queue ≡ queue → start_damage place queue (Some file) ≡ None
queue_fits place queue file same = rw (number_passes file.job.queue queue same) refl

-- no start is damaged, where each has its file
pub starts_have_files : (marks : List Mark) (files : Files) → ((number queue : ℕ) (second : ℤ) → Has marks (Started number queue second)
    → is_decided number marks ≡ false → HasFile marks files number queue) → ((first second : JobFile)
    → IsJobFile marks files first → IsJobFile marks files second → first.job.number ≡ second.job.number → first ≡ second)
    → starts_damage marks (files_that_count marks files) 0 marks ≡ None
starts_have_files marks files started once = whole_starts marks (files_that_count marks files) 0 marks by_mark where
  by_start : (at number queue : ℕ) (second : ℤ) → Has marks (Started number queue second) → (decided : Bool) → is_decided number marks
      ≡ decided → (if decided then None else start_damage at queue (file_of number (files_that_count marks files))) ≡ None
  by_start at number queue second has true decided = refl
  by_start at number queue second has false undecided =
      let file : HasFile marks files number queue = started number queue second has undecided in
      let found : file_of number (files_that_count marks files) ≡ Some file.file =
      ap (λ of. file_of of (files_that_count marks files)) (sym file.number_is) ∙ file_found marks files file.file file.is once in
      rw found (queue_fits at queue file.file file.queue_is)

  by_mark : (at : ℕ) (mark : Mark) → Has marks mark → mark_damage marks (files_that_count marks files) at mark ≡ None
  by_mark at (Started number queue second) has = by_start at number queue second has (is_decided number marks) refl
  by_mark at (Removed number) has = refl
  by_mark at (Ended number ending) has = refl
  by_mark at (Interrupted number) has = refl
  by_mark at (Forgotten number) has = refl
  by_mark at (Batch second) has = refl
