-- What a compaction keeps of what legal marks say: which of them are drawn, and which may follow.
use Rattle.std.proofs.Common.{◌≡◌, ℕ, ℤ, Bool, true, false, cond, List, [], ◌∷◌, sym, ap, subst, ◌∙◌, refl}
use Rattle.std.specs.Prelude.{◌&&◌, Option, Some, None}
use Rattle.std.specs.List.{filter, list_all, list_any}
use Rattle.std.proofs.lemmas.List.Folds.{list_all-append}
use Rattle.std.proofs.lemmas.Map.Views.{any-filter_same}
use Rattle.start_journal.specs.declared.mark.Mark.{Mark}
use Rattle.start_journal.specs.declared.mark.Mark.TheVariants.{Removed, Started, Ended, Interrupted, Forgotten, Batch}
use Rattle.start_journal.specs.Journals.{JournalRead, are_drawn, are_sound, is_drawn}
use Rattle.start_journal.specs.Marks.{AreLegalMarks, IsLegalAfter, batch_mark, decides, is_end_of, is_forgetting, is_decided, is_ended, is_forgotten, is_kept, has_mark_of, has_start_of, kept_marks, last_batch, marks_of, is_mark_of, is_start_of}
use Rattle.std.proofs.lemmas.Bool.{and_from, and_parts}
use Rattle.start_journal.proofs.LifeLemmas.{ended_by, unnamed_none}
use Rattle.start_journal.proofs.MarkLemmas.{decides_names, ends_names, forgets_names, forgotten_was_decided, kept_marks_keep_what_counts, starts_names}
use Rattle.start_journal.proofs.ReadLemmas.{sound_legal}
use Rattle.spool_shows.proofs.MarkTests.{not_forgotten}

-- Numbers that were drawn.

-- what all pass, all that are kept pass
pub all_filtered : (test keep : Mark → Bool) (marks : List Mark) → list_all test marks ≡ true → list_all test (filter keep marks) ≡ true
all_filtered test keep [] all = refl
all_filtered test keep (mark ∷ later) all =
    let tests : (test mark ≡ true) × (list_all test later ≡ true) = and_parts _ _ all in
    by_keep (keep mark) tests.0 (all_filtered test keep later tests.1) where
      by_keep : (kept : Bool) → test mark ≡ true → list_all test (filter keep later) ≡ true
          → list_all test (cond kept (mark ∷ filter keep later) (filter keep later)) ≡ true
      by_keep true here rest = and_from (test mark) _ here rest
      by_keep false here rest = rest

-- what a compaction keeps names drawn numbers
pub kept_drawn : (last : ℕ) (marks : List Mark) → are_drawn last marks ≡ true → are_drawn last (kept_marks marks) ≡ true
kept_drawn last marks drawn =
    list_all-append (is_drawn last) (filter (is_kept marks) marks) (batch_mark (last_batch marks))
    ∙ and_from _ _ (all_filtered (is_drawn last) (is_kept marks) marks drawn) (by_batch (last_batch marks)) where
      by_batch : (second : Option ℤ) → are_drawn last (batch_mark second) ≡ true
      by_batch (Some second) = refl
      by_batch None = refl

-- Tests that only marks of one number pass.

-- what passes the one test passes the other
abbrev pub IsNarrower : (Mark → Bool) → (Mark → Bool) → Type 0
IsNarrower test wider = (mark : Mark) → test mark ≡ true → wider mark ≡ true

-- lists with the same marks of the number pass alike
same_test : (number : ℕ) (test : Mark → Bool) (one other : List Mark) → IsNarrower test (is_mark_of number)
    → marks_of number other ≡ marks_of number one → list_any test other ≡ list_any test one
same_test number test one other of_number same =
    sym (any-filter_same test (is_mark_of number) true of_number other) ∙ ap (list_any test) same
    ∙ any-filter_same test (is_mark_of number) true of_number one

-- a compaction keeps each test of a number that is not forgotten
pub test_kept : (marks : List Mark) (number : ℕ) (test : Mark → Bool) → AreLegalMarks marks → IsNarrower test (is_mark_of number)
    → is_forgotten number marks ≡ false → list_any test (kept_marks marks) ≡ list_any test marks
test_kept marks number test legal of_number remembered =
    same_test number test marks (kept_marks marks) of_number ((kept_marks_keep_what_counts marks legal).same_marks number remembered)

-- a number that no mark names is not named among the kept ones
pub unnamed_kept : (marks : List Mark) (number : ℕ) → AreLegalMarks marks → has_mark_of number marks ≡ false
    → has_mark_of number (kept_marks marks) ≡ false
unnamed_kept marks number legal unnamed =
    test_kept marks number (is_mark_of number) legal (λ mark named. named) (unnamed_none number marks unnamed).0 ∙ unnamed

-- what is finished among the kept marks was finished
pub kept_decided : (marks : List Mark) (number : ℕ) → AreLegalMarks marks → is_decided number (kept_marks marks) ≡ true
    → is_decided number marks ≡ true
kept_decided marks number legal decided = by_test (is_forgotten number marks) refl where
  by_test : (forgotten : Bool) → is_forgotten number marks ≡ forgotten → is_decided number marks ≡ true
  by_test true is = forgotten_was_decided number [] marks legal is
  by_test false is = sym (test_kept marks number (decides number) legal (decides_names number) is) ∙ decided

-- a number that is started and not ended is not finished
running_undecided : (number : ℕ) (marks : List Mark) → AreLegalMarks marks → has_start_of number marks ≡ true
    → is_ended number marks ≡ false → is_decided number marks ≡ false
running_undecided number marks legal started running = ap (λ b. b && is_decided number marks) (sym started)
    ∙ sym (ended_by number marks legal) ∙ running

-- The marks of every journal.

-- a journal whose marks are sound has legal ones
pub sound_is_legal : (inside scanned : JournalRead) → inside ≡ scanned → are_sound inside.marks ≡ true → AreLegalMarks scanned.marks
sound_is_legal inside scanned is sound = subst (λ (read : JournalRead). AreLegalMarks read.marks) is (sound_legal inside.marks sound)

-- What may follow.

-- a number that runs keeps its start, and is not ended
runs_kept : (marks : List Mark) (number : ℕ) → AreLegalMarks marks → (has_start_of number marks ≡ true) × (is_ended number marks ≡ false)
    → (has_start_of number (kept_marks marks) ≡ true) × (is_ended number (kept_marks marks) ≡ false)
runs_kept marks number legal (started, running) =
    let remembered : is_forgotten number marks ≡ false =
    not_forgotten marks number legal (running_undecided number marks legal started running) in (
      test_kept marks number (is_start_of number) legal (starts_names number) remembered ∙ started,
      test_kept marks number (is_end_of number) legal (ends_names number) remembered ∙ running,
    )

-- a mark that is legal after marks is so after what a compaction keeps of them
pub legal_when_kept : (marks : List Mark) (mark : Mark) → AreLegalMarks marks → IsLegalAfter marks mark
    → IsLegalAfter (kept_marks marks) mark
legal_when_kept marks (Removed number) legal is = unnamed_kept marks number legal is
legal_when_kept marks (Started number queue second) legal is = unnamed_kept marks number legal is
legal_when_kept marks (Ended number ending) legal is = runs_kept marks number legal is
legal_when_kept marks (Interrupted number) legal is = runs_kept marks number legal is
legal_when_kept marks (Forgotten number) legal (decided, remembered) = (
  test_kept marks number (decides number) legal (decides_names number) remembered ∙ decided,
  test_kept marks number (is_forgetting number) legal (forgets_names number) remembered ∙ remembered,
)
legal_when_kept marks (Batch second) legal is = tt
