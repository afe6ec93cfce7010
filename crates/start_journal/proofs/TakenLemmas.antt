-- What is taken of a journal, slot by slot.
use Rattle.std.proofs.Common.{◌≡◌, ℕ, suc, ◌+◌, ◌*◌, ◌/◌, ◌%◌, ◌<◌, ◌≤◌, Bool, true, false, List, [], ◌∷◌, ◌++◌, Option, Some, None, length, drop, sym, ap, subst, ◌∙◌, refl, arith, append_assoc, get_or, drop-cons}
use Rattle.std.specs.Prelude.{◌==◌, ◌^◌, All, Result, Ok, Err, IfSome, MatchResult, if◌then◌else◌}
use Rattle.std.specs.Result.{result_err}
use Rattle.std.proofs.lemmas.List.{append-nil, at_drop_all}
use Rattle.std.proofs.lemmas.List.Elements.{All-push}
use Rattle.start_journal.specs.declared.mark.Mark.{Mark}
use Rattle.start_journal.specs.declared.take_marks.TakenMark.{TakenMark}
use Rattle.start_journal.specs.declared.lifecycles.Lifecycles.{Lifecycles}
use Rattle.start_journal.specs.Journals.{JournalRead, is_legal_after, nothing_read, one_slot, with_slot}
use Rattle.start_journal.specs.Marks.{IsLegalAfter}
use Rattle.start_journal.specs.SlotBytes.{mark_in}
use Rattle.start_journal.specs.Slots.{SpellsMark}
use Rattle.start_journal.specs.Lifecycles.{TellLifecycles}
use Rattle.start_journal.specs.Taken.{IsSlotWithinFile, faults_in, free_after, legal_mark, marks_of, offset_of, place_of_fault, read_past, slot_faults, slots_of, taken_at, taken_from, taken_of, with_taken}
use Rattle.start_journal.proofs.ByteLemmas.{given}
use Rattle.start_journal.proofs.JournalLemmas.{legal_is}
use Rattle.start_journal.proofs.ReadLemmas.{none_given}

-- the fault of a slot is what reading it answers
pub place_found : (found : Result (Option Mark) ℕ) (one : Result JournalRead ℕ) (read : JournalRead)
    → MatchResult found (λ some. one ≡ Ok (with_slot read some)) (λ place. one ≡ Err place) → place_of_fault one ≡ result_err found
place_found (Ok some) one read is = ap place_of_fault is
place_found (Err place) one read is = ap place_of_fault is

-- the mark of a slot that spells one
pub legal_some : (marks : List Mark) (slot : List ℕ) (mark : Mark) → SpellsMark slot mark → true ≡ is_legal_after marks mark
    → Some mark ≡ legal_mark marks (mark_in slot)
legal_some marks slot mark spelled legal =
    sym (ap (legal_mark marks) (given slot mark spelled) ∙ ap (λ b. if b then Some mark else None) (sym legal))

pub legal_none : (marks : List Mark) (slot : List ℕ) (mark : Mark) → SpellsMark slot mark → false ≡ is_legal_after marks mark
    → None ≡ legal_mark marks (mark_in slot)
legal_none marks slot mark spelled legal =
    sym (ap (legal_mark marks) (given slot mark spelled) ∙ ap (λ b. if b then Some mark else None) (sym legal))

pub unspelled_none : (marks : List Mark) (slot : List ℕ) → ((mark : Mark) → ¬ (SpellsMark slot mark))
    → None ≡ legal_mark marks (mark_in slot)
unspelled_none marks slot none = sym (ap (legal_mark marks) (none_given slot none))

-- the mark that is taken is legal
legal_taken : (before : List Mark) (mark : Option Mark) → IfSome (legal_mark before mark) (IsLegalAfter before)
legal_taken before None = tt
legal_taken before (Some mark) = by_test (is_legal_after before mark) refl where
  by_test : (legal : Bool) → is_legal_after before mark ≡ legal → IfSome (if legal then Some mark else None) (IsLegalAfter before)
  by_test true legal = legal_is before mark legal
  by_test false legal = tt

-- lives with another mark
pub kept_lives : (before : List Mark) (found : Option Mark) (mark : Mark) (new : Lifecycles) → found ≡ Some mark → (IsLegalAfter before mark
    → TellLifecycles (before ++ mark ∷ []) new) → IfSome found (IsLegalAfter before) → TellLifecycles (with_taken before found) new
kept_lives before found mark new is more legal =
    subst (λ f. TellLifecycles (with_taken before f) new) (sym is) (more (subst (λ f. IfSome f (IsLegalAfter before)) is legal))

-- another mark whose slot lies within a file
pub near_more : (marks new : List TakenMark) (place : ℕ) (mark : Mark) → new ≡ marks ++ record { place = place; mark = mark } ∷ []
    → 32 * place + 32 < 2 ^ 64 → All IsSlotWithinFile marks → All IsSlotWithinFile new
near_more marks new place mark is near all =
    subst (All IsSlotWithinFile) (sym is) (All-push IsSlotWithinFile marks (record { place = place; mark = mark }) all near)

-- the marks alone, with one more
marks_more : (so_far : List TakenMark) (place : ℕ) (found : Option Mark)
    → marks_of (so_far ++ taken_at place found) ≡ with_taken (marks_of so_far) found
marks_more [] place None = refl
marks_more [] place (Some mark) = refl
marks_more (one ∷ so_far) place None = ap (λ list. one.mark ∷ list) (marks_more so_far place None)
marks_more (one ∷ so_far) place (Some mark) = ap (λ list. one.mark ∷ list) (marks_more so_far place (Some mark))

-- one slot more: the marks
pub marks_step : (place : ℕ) (slots : List (List ℕ)) (so_far new all : List TakenMark) (found : Option Mark) (other : List ℕ)
    → place < length slots → so_far ++ taken_from place (marks_of so_far) (drop place slots) ≡ all
    → new ≡ so_far ++ taken_at place found → found ≡ legal_mark (marks_of so_far) (mark_in (get_or slots place other))
    → new ++ taken_from (place + 1) (marks_of new) (drop (place + 1) slots) ≡ all
marks_step place slots so_far new all found other inside before more is =
    let rest : List (List ℕ) = drop (place + 1) slots in
    let slot : List ℕ = get_or slots place other in
    let count : suc place ≡ place + 1 = omega arith in
    ap (λ list. list ++ taken_from (place + 1) (marks_of list) rest) more
    ∙ ap (λ marks. (so_far ++ taken_at place found) ++ taken_from (place + 1) marks rest) (marks_more so_far place found)
    ∙ append_assoc so_far (taken_at place found) (taken_from (place + 1) (with_taken (marks_of so_far) found) rest)
    ∙ ap (λ f. so_far ++ (taken_at place f ++ taken_from (place + 1) (with_taken (marks_of so_far) f) rest)) is
    ∙ ap (λ n. so_far ++ taken_from place (marks_of so_far) (slot ∷ drop n slots)) (sym count)
    ∙ ap (λ list. so_far ++ taken_from place (marks_of so_far) list) (sym (drop-cons slots place other inside))
    ∙ before

-- the lives
pub lives_step : (so_far new : List TakenMark) (place : ℕ) (slot : List ℕ) (found : Option Mark) (lives : Lifecycles) → new
    ≡ so_far ++ taken_at place found → found ≡ legal_mark (marks_of so_far) (mark_in slot) → (IfSome found (IsLegalAfter (marks_of so_far))
    → TellLifecycles (with_taken (marks_of so_far) found) lives) → TellLifecycles (marks_of new) lives
lives_step so_far new place slot found lives more is tell =
    let legal : IfSome found (IsLegalAfter (marks_of so_far)) =
    subst (λ f. IfSome f (IsLegalAfter (marks_of so_far))) (sym is) (legal_taken (marks_of so_far) (mark_in slot)) in
    subst (λ marks. TellLifecycles marks lives) (sym (ap marks_of more ∙ marks_more so_far place found)) (tell legal)

-- the faults
pub faults_step : (bound place free closed : ℕ) (slots : List (List ℕ)) (so_far new : List TakenMark) (old_faults new_faults all : List ℕ)
    (found : Option Mark) (fault : Option ℕ) (other : List ℕ) → place < length slots → old_faults ++ slot_faults bound
    (place * 32) (record { marks = marks_of so_far; free = free }) (drop place slots) ≡ all → new ≡ so_far ++ taken_at place found
    → found ≡ legal_mark (marks_of so_far) (mark_in (get_or slots place other)) → new_faults ≡ old_faults ++ offset_of (place * 32) fault
    → place_of_fault (one_slot bound (record { marks = marks_of so_far; free = free }) (get_or slots place other)) ≡ fault
    → free + closed ≡ free_after free (get_or slots place other) → new_faults
    ++ slot_faults bound ((place + 1) * 32) (record { marks = marks_of new; free = free + closed }) (drop (place + 1) slots) ≡ all
faults_step bound place free closed slots so_far new old_faults new_faults all found fault other inside before more is
    more_faults faulty freed =
    let rest : List (List ℕ) = drop (place + 1) slots in
    let slot : List ℕ = get_or slots place other in
    let read : JournalRead = record { marks = marks_of so_far; free = free } in
    let count : suc place ≡ place + 1 = omega arith in
    let offset : (place + 1) * 32 ≡ place * 32 + 32 = omega arith in
    let marks : marks_of new ≡ with_taken (marks_of so_far) (legal_mark (marks_of so_far) (mark_in slot)) = ap marks_of more
    ∙ marks_more so_far place found ∙ ap (with_taken (marks_of so_far)) is in
    ap (λ list. list ++ slot_faults bound ((place + 1) * 32) (record { marks = marks_of new; free = free + closed }) rest) more_faults
    ∙ ap (λ list. (old_faults ++ offset_of (place * 32) fault)
    ++ slot_faults bound ((place + 1) * 32) (record { marks = list; free = free + closed }) rest) marks
    ∙ ap (λ n. (old_faults ++ offset_of (place * 32) fault)
    ++ slot_faults bound ((place + 1) * 32) (record { marks = (read_past read slot).marks; free = n }) rest) freed
    ∙ append_assoc old_faults (offset_of (place * 32) fault) (slot_faults bound ((place + 1) * 32) (read_past read slot) rest)
    ∙ ap (λ f. old_faults ++ (offset_of (place * 32) f ++ slot_faults bound ((place + 1) * 32) (read_past read slot) rest)) (sym faulty)
    ∙ ap (λ n. old_faults
    ++ (offset_of (place * 32) (place_of_fault (one_slot bound read slot)) ++ slot_faults bound n (read_past read slot) rest)) offset
    ∙ ap (λ n. old_faults ++ slot_faults bound (place * 32) read (slot ∷ drop n slots)) (sym count)
    ∙ ap (λ list. old_faults ++ slot_faults bound (place * 32) read list) (sym (drop-cons slots place other inside))
    ∙ before

-- all marks, after the last slot
pub marks_all : (place : ℕ) (bytes : List ℕ) (slots : List (List ℕ)) (marks : List TakenMark) → slots ≡ slots_of bytes → length slots
    ≤ place → marks ++ taken_from place (marks_of marks) (drop place slots) ≡ taken_from 0 [] slots → marks ≡ taken_of (Some bytes)
unfolding taken_of
marks_all place bytes slots marks cut past so_far =
    sym (append-nil marks)
    ∙ ap (λ list. marks ++ list) (sym (at_drop_all (taken_from place (marks_of marks)) slots place past))
    ∙ so_far ∙ ap (taken_from 0 []) cut

-- the faults of all slots
slots_all : (bound place : ℕ) (bytes : List ℕ) (slots : List (List ℕ)) (read : JournalRead) (faults : List ℕ) → slots ≡ slots_of bytes
    → length slots ≤ place → faults ++ slot_faults bound (place * 32) read (drop place slots) ≡ slot_faults bound 0 nothing_read slots
    → faults ≡ slot_faults bound 0 nothing_read (slots_of bytes)
slots_all bound place bytes slots read faults cut past so_far =
    sym (append-nil faults)
    ∙ ap (λ list. faults ++ list) (sym (at_drop_all (slot_faults bound (place * 32) read) slots place past))
    ∙ so_far ∙ ap (slot_faults bound 0 nothing_read) cut

-- and of the rest, if there is one
pub faults_all : (bound place rest : ℕ) (bytes : List ℕ) (slots : List (List ℕ)) (read : JournalRead) (faults all : List ℕ)
    → slots ≡ slots_of bytes → length slots ≤ place → faults ++ slot_faults bound (place * 32) read (drop place slots)
    ≡ slot_faults bound 0 nothing_read slots → rest ≡ length bytes % 32 → true ≡ (rest == 0) → all ≡ faults → all ≡ faults_in bound bytes
unfolding faults_in
faults_all bound place rest bytes slots read faults all cut past so_far left none same =
    same ∙ slots_all bound place bytes slots read faults cut past so_far
    ∙ sym (append-nil _)
    ∙ ap (λ b. slot_faults bound 0 nothing_read (slots_of bytes) ++ (if b then [] else (length bytes / 32 * 32) ∷ [])) (none
    ∙ ap (λ n. n == 0) left)

pub faults_and_rest : (bound place rest : ℕ) (bytes : List ℕ) (slots : List (List ℕ)) (read : JournalRead) (faults all : List ℕ)
    → slots ≡ slots_of bytes → length slots ≤ place → faults ++ slot_faults bound (place * 32) read (drop place slots)
    ≡ slot_faults bound 0 nothing_read slots → length slots ≡ length bytes / 32 → rest ≡ length bytes % 32 → false ≡ (rest == 0)
    → all ≡ faults ++ (length slots * 32) ∷ [] → all ≡ faults_in bound bytes
unfolding faults_in
faults_and_rest bound place rest bytes slots read faults all cut past so_far counted left some more =
    more ∙ ap (λ list. list ++ (length slots * 32) ∷ []) (slots_all bound place bytes slots read faults cut past so_far)
    ∙ ap (λ n. slot_faults bound 0 nothing_read (slots_of bytes) ++ (n * 32) ∷ []) counted
    ∙ ap (λ b. slot_faults bound 0 nothing_read (slots_of bytes) ++ (if b then [] else (length bytes / 32 * 32) ∷ [])) (some
    ∙ ap (λ n. n == 0) left)
