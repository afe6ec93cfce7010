-- What a compaction keeps can be written, and the forgotten numbers and the last batch start are found in one pass.
use Rattle.std.proofs.Common.{◌≡◌, ℕ, ℤ, ◌+◌, ◌<◌, Bool, true, false, List, [], ◌∷◌, ◌++◌, Option, Some, None, length, take, get_or, cond, sym, ap, subst, ◌∙◌, refl}
use Rattle.std.specs.Prelude.{◌||◌, if◌then◌else◌}
use Rattle.std.specs.Option.{option_or}
use Rattle.std.specs.List.{filter, list_all}
use Rattle.std.proofs.lemmas.List.{take_more}
use Rattle.spool_model.specs.JobTable.{is_batch_queue}
use Rattle.start_journal.specs.declared.mark.Mark.{Mark}
use Rattle.start_journal.specs.declared.mark.Mark.TheVariants.{Removed, Started, Ended, Interrupted, Forgotten, Batch}
use Rattle.start_journal.specs.Journals.{are_sound}
use Rattle.start_journal.specs.Marks.{batch_mark, batch_second, first_of_two, is_forgetting, is_forgotten, is_kept, kept_marks, last_batch}
use Rattle.start_journal.specs.SlotBytes.{can_write}
use Rattle.host_calls.specs.ClockRange.{is_clock_second}
use Rattle.std.proofs.lemmas.Bool.{and_from, and_parts}
use Rattle.start_journal.proofs.LifeLemmas.{any_more}
use Rattle.start_journal.proofs.MarkLemmas.{kept_marks_are_legal}
use Rattle.start_journal.proofs.ReadLemmas.{legal_tests, sound_is, sound_legal, sound_tested}

-- the last batch start of a list and one more mark
pub last_more : (marks : List Mark) (mark : Mark) → last_batch (marks ++ mark ∷ []) ≡ first_of_two (batch_second mark) (last_batch marks)
last_more [] mark = refl_none (batch_second mark) where
  refl_none : (found : Option ℤ) → first_of_two None found ≡ first_of_two found None
  refl_none None = refl
  refl_none (Some second) = refl
last_more (first ∷ later) mark =
    ap (λ found. first_of_two found (batch_second first)) (last_more later mark)
    ∙ regroup (batch_second mark) (last_batch later) (batch_second first) where
      regroup : (one two three : Option ℤ) → first_of_two (first_of_two one two) three ≡ first_of_two one (first_of_two two three)
      regroup None two three = refl
      regroup (Some second) two three = refl

-- in one pass
or_first : (one other : Option ℤ) → option_or one other ≡ first_of_two one other
or_first None other = refl
or_first (Some second) other = refl

pub pass_more : (marks : List Mark) (place : ℕ) (other : Mark) (found last answer : Option ℤ) → place < length marks
    → found ≡ batch_second (get_or marks place other) → last ≡ last_batch (take place marks) → answer ≡ option_or found last
    → answer ≡ last_batch (take (place + 1) marks)
pass_more marks place other found last answer inside here before is =
    is ∙ or_first found last
    ∙ sym (ap last_batch (take_more marks place other inside) ∙ last_more (take place marks) (get_or marks place other)
    ∙ ap (λ one. first_of_two one (last_batch (take place marks))) (sym here) ∙ ap (first_of_two found) (sym before))

-- the forgotten numbers of a list and one more mark
pub forgotten_pass : (number : ℕ) (marks : List Mark) (place : ℕ) (other : Mark) (old new : Bool) → place < length marks
    → old ≡ is_forgotten number (take place marks) → new ≡ (old || is_forgetting number (get_or marks place other))
    → new ≡ is_forgotten number (take (place + 1) marks)
forgotten_pass number marks place other old new inside before is =
    is ∙ ap (λ b. b || is_forgetting number (get_or marks place other)) before
    ∙ sym (ap (is_forgotten number) (take_more marks place other inside)
    ∙ any_more (is_forgetting number) (take place marks) (get_or marks place other))

-- what is kept can be written
all_filtered : (test keep : Mark → Bool) (marks : List Mark) → list_all test marks ≡ true → list_all test (filter keep marks) ≡ true
all_filtered test keep [] all = refl
all_filtered test keep (mark ∷ later) all =
    let tests : (test mark ≡ true) × (list_all test later ≡ true) = and_parts _ _ all in
    by_keep (keep mark) (all_filtered test keep later tests.1) tests.0 where
      by_keep : (kept : Bool) → list_all test (filter keep later) ≡ true → test mark ≡ true
          → list_all test (cond kept (mark ∷ filter keep later) (filter keep later)) ≡ true
      by_keep true rest here = and_from (test mark) _ here rest
      by_keep false rest here = rest

all_append : (test : Mark → Bool) (one other : List Mark) → list_all test one ≡ true → list_all test other ≡ true
    → list_all test (one ++ other) ≡ true
all_append test [] other of_one of_other = of_other
all_append test (mark ∷ later) other of_one of_other =
    let tests : (test mark ≡ true) × (list_all test later ≡ true) = and_parts _ _ of_one in
    and_from (test mark) _ tests.0 (all_append test later other tests.1 of_other)

-- the second of a mark that can be written
second_of : (mark : Mark) (found : Option ℤ) → can_write mark ≡ true → batch_second mark ≡ found
    → list_all can_write (batch_mark found) ≡ true
second_of mark None writable is = refl
second_of (Removed number) (Some second) writable is = cc
second_of (Started number queue start) (Some second) writable is = by_queue (is_batch_queue queue) refl where
  by_queue : (batch : Bool) → is_batch_queue queue ≡ batch → list_all can_write (batch_mark (Some second)) ≡ true
  by_queue true batch =
      let some : Some start ≡ Some second = sym (ap (λ b. if b then Some start else None) batch) ∙ is in
      let same : start ≡ second = cc in
      and_from (is_clock_second second) true (subst (λ at. is_clock_second at ≡ true) same (and_parts _ _ writable).1) refl
  by_queue false batch =
      let none : None ≡ Some second = sym (ap (λ b. if b then Some start else None) batch) ∙ is in
      cc
second_of (Ended number ending) (Some second) writable is = cc
second_of (Interrupted number) (Some second) writable is = cc
second_of (Forgotten number) (Some second) writable is = cc
second_of (Batch start) (Some second) writable is =
    let same : start ≡ second = cc in
    and_from (is_clock_second second) true (subst (λ at. is_clock_second at ≡ true) same writable) refl

batch_writable : (marks : List Mark) → list_all can_write marks ≡ true → list_all can_write (batch_mark (last_batch marks)) ≡ true
batch_writable [] all = refl
batch_writable (mark ∷ later) all =
    let tests : (can_write mark ≡ true) × (list_all can_write later ≡ true) = and_parts _ _ all in
    by_last (last_batch later) (batch_writable later tests.1) (second_of mark (batch_second mark) tests.0 refl) where
      by_last : (last : Option ℤ) → list_all can_write (batch_mark last) ≡ true → list_all can_write (batch_mark (batch_second mark)) ≡ true
          → list_all can_write (batch_mark (first_of_two last (batch_second mark))) ≡ true
      by_last None rest here = here
      by_last (Some second) rest here = rest

pub kept_sound : (marks : List Mark) → are_sound marks ≡ true → are_sound (kept_marks marks) ≡ true
kept_sound marks is = sound_tested (kept_marks marks) (record {
  legal = legal_tests [] (kept_marks marks) (kept_marks_are_legal marks (sound_legal marks is));
  writable = all_append can_write (filter (is_kept marks) marks) (batch_mark (last_batch marks))
      (all_filtered can_write (is_kept marks) marks (sound_is marks is).writable) (batch_writable marks (sound_is marks is).writable);
})
