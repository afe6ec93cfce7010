-- A number is finished once.
use Rattle.std.proofs.Common.{◌≡◌, ℕ, true, false, List, [], ◌∷◌, sym, ap, ◌∙◌, refl, inl, inr, IsTrue}
use Rattle.std.specs.Prelude.{Option, Some}
use Rattle.spool_model.specs.JobTable.{JobEntry}
use Rattle.start_journal.specs.declared.mark.Mark.{Mark}
use Rattle.start_journal.specs.declared.mark.Mark.TheVariants.{Removed, Started, Ended, Interrupted, Forgotten, Batch}
use Rattle.start_journal.specs.declared.stage.Stage.{Stage}
use Rattle.start_journal.specs.declared.stage.Stage.TheVariants.{Fresh, Closed, Gone}
use Rattle.start_journal.specs.Marks.{AreLegalMarks, decides, marks_of, is_mark_of}
use Rattle.start_journal.specs.Stages.{AreAllowedFrom, allows, stage_after}
use Rattle.start_journal.proofs.LifeLemmas.{numbers_live_once}
use Rattle.start_journal.proofs.MarkLemmas.{decides_names}
use Rattle.spool_shows.specs.Shown.{done_entry}
use Rattle.spool_shows.proofs.EntryLemmas.{done_decides}
use Rattle.spool_shows.proofs.Membership.{Has, has_filtered}

-- the number is finished at this stage
abbrev IsOver : Stage → Type 0
IsOver Closed = Unit {0}
IsOver Gone = Unit {0}
IsOver _ = ⊥

-- a mark that decides brings its number there
brings : (number : ℕ) (stage : Stage) (mark : Mark) → decides number mark ≡ true → IsOver (stage_after stage mark)
brings number stage (Removed of) is = tt
brings number stage (Ended of ending) is = tt
brings number stage (Interrupted of) is = tt
brings number stage (Started of queue second) is = let impossible : false ≡ true = is in cc
brings number stage (Forgotten of) is = tt
brings number stage (Batch second) is = let impossible : false ≡ true = is in cc

-- no mark that comes there decides, and the stage stays over
record Goes (number : ℕ) (stage : Stage) (mark : Mark) : Type 0 where
  unchecked : decides number mark ≡ false
  over : IsOver (stage_after stage mark)

goes_on : (number : ℕ) (stage : Stage) (mark : Mark) → IsOver stage → IsTrue (allows stage mark) → Goes number stage mark
goes_on number Closed (Forgotten of) over may = record { unchecked = refl; over = tt }
goes_on number Closed (Batch second) over may = record { unchecked = refl; over = tt }
goes_on number Closed (Removed of) over may = let impossible : false ≡ true = may in cc
goes_on number Closed (Started of queue second) over may = let impossible : false ≡ true = may in cc
goes_on number Closed (Ended of ending) over may = let impossible : false ≡ true = may in cc
goes_on number Closed (Interrupted of) over may = let impossible : false ≡ true = may in cc
goes_on number Gone (Batch second) over may = record { unchecked = refl; over = tt }
goes_on number Gone (Forgotten of) over may = let impossible : false ≡ true = may in cc
goes_on number Gone (Removed of) over may = let impossible : false ≡ true = may in cc
goes_on number Gone (Started of queue second) over may = let impossible : false ≡ true = may in cc
goes_on number Gone (Ended of ending) over may = let impossible : false ≡ true = may in cc
goes_on number Gone (Interrupted of) over may = let impossible : false ≡ true = may in cc
goes_on number _ mark over may = absurd over

none_decides : (number : ℕ) (stage : Stage) (list : List Mark) (mark : Mark) → IsOver stage → AreAllowedFrom stage list → Has list mark
    → decides number mark ≡ true → ⊥
none_decides number stage [] mark over through has is = has
none_decides number stage (first ∷ later) mark over through (inl same) is =
    let impossible : false ≡ true = sym (goes_on number stage first over through.0).unchecked ∙ ap (decides number) same ∙ is in
    cc
none_decides number stage (first ∷ later) mark over through (inr has) is =
    none_decides number (stage_after stage first) later mark (goes_on number stage first over through.0).over through.1 has is

-- one mark decides a number
one_decider : (number : ℕ) (stage : Stage) (list : List Mark) (one other : Mark) → AreAllowedFrom stage list → Has list one → Has list other
    → decides number one ≡ true → decides number other ≡ true → one ≡ other
one_decider number stage [] one other through has has_other is is_other = absurd has
one_decider number stage (first ∷ later) one other through (inl same) (inl same_other) is is_other = sym same ∙ same_other
one_decider number stage (first ∷ later) one other through (inl same) (inr has_other) is is_other =
    absurd (none_decides number (stage_after stage first) later other (brings number stage first (ap (decides number) same ∙ is))
    through.1 has_other is_other)
one_decider number stage (first ∷ later) one other through (inr has) (inl same_other) is is_other =
    absurd (none_decides number (stage_after stage first) later one
    (brings number stage first (ap (decides number) same_other ∙ is_other)) through.1 has is)
one_decider number stage (first ∷ later) one other through (inr has) (inr has_other) is is_other =
    one_decider number (stage_after stage first) later one other through.1 has has_other is is_other

among_its_marks : (number : ℕ) (marks : List Mark) (mark : Mark) → Has marks mark → decides number mark ≡ true
    → Has (marks_of number marks) mark
among_its_marks number marks mark has is = has_filtered (is_mark_of number) marks mark has (decides_names number mark is)

-- so marks that leave an entry of the number leave one
pub one_done_entry : (marks : List Mark) (number : ℕ) (one other : JobEntry) → AreLegalMarks marks
    → (mark mark_other : Mark) → Has marks mark → Has marks mark_other → done_entry marks mark ≡ Some (number, one)
    → done_entry marks mark_other ≡ Some (number, other) → one ≡ other
one_done_entry marks number one other legal mark mark_other has has_other is is_other =
    let decided : decides number mark ≡ true = (done_decides marks mark number one is).0 in
    let decided_other : decides number mark_other ≡ true = (done_decides marks mark_other number other is_other).0 in
    let same : mark ≡ mark_other = one_decider number Fresh (marks_of number marks) mark mark_other (numbers_live_once marks legal number)
    (among_its_marks number marks mark has decided) (among_its_marks number marks mark_other has_other decided_other)
    decided decided_other in
    let entries : ◌≡◌ {A = Option (ℕ × JobEntry)} (Some (number, one)) (Some (number, other)) = sym is
    ∙ ap (done_entry marks) same ∙ is_other in
    let pairs : ◌≡◌ {A = ℕ × JobEntry} (number, one) (number, other) = cc in
    ap (λ (pair : ℕ × JobEntry). pair.1) pairs
