-- What a store keeps over any host is kept by a submission.
use Rattle.std.proofs.Common.{◌≡◌, ◌<◌, ◌+◌, ℕ, true, List, [], ◌∷◌, subst, sym, refl, inl, inr, arith}
use Rattle.std.specs.Prelude.{Option, Some, None, IsSome}
use Rattle.std.specs.FinMap as finite
use Rattle.std.proofs.lemmas.Bool.Decides.{eqb_tells, nat_tests}
use Rattle.spool_model.specs.declared.entry.Entry.TheVariants.{Live}
use Rattle.spool_model.specs.declared.job.Job.{Job}
use Rattle.spool_model.specs.declared.number.TheConstants.{LAST_NUMBER}
use Rattle.spool_model.specs.declared.state.State.TheVariants.{Pending}
use Rattle.spool_model.specs.JobTable.{IsDrawn, IsSound, JobEntry, JobTable, entry_at}
use Rattle.spool_model.specs.Steps.{AreLegal, submission}
use Rattle.spool_model.proofs.StepLemmas.{steps_keep_the_table_sound}
use Rattle.spool_model.proofs.TableLemmas.{get-put_other, get-put_same}
use Rattle.start_journal.specs.declared.mark.Mark.{Mark}
use Rattle.start_journal.specs.declared.mark.Mark.TheVariants.{Removed, Started, Ended, Interrupted, Forgotten, Batch}
use Rattle.start_journal.specs.Journals.{are_drawn, is_drawn}
use Rattle.std.proofs.lemmas.Bool.{and_from, and_parts}
use Rattle.spool_shows.proofs.FreshNumbers.{fresh_unnamed}
use Rattle.step_runs.specs.WithoutScripts.{job_without_script}
use Rattle.step_runs.specs.Current.{Kept}
use Rattle.spool_store.specs.Stored.{CanBeNamed, IsEntryBy, IsLiveBy, IsStored}
use Rattle.spool_store.specs.Submission.{with_job}

-- no job has the next number
next_is_free : (table : JobTable) → IsSound table → entry_at table (table.last + 1) ≡ None
next_is_free table sound = by_entry (entry_at table (table.last + 1)) refl where
  by_entry : (found : Option JobEntry) → entry_at table (table.last + 1) ≡ found → found ≡ None
  by_entry None is = refl
  by_entry (Some entry) is =
      let drawn : IsDrawn table (table.last + 1) = sound.each (table.last + 1) (subst IsSome (sym is) refl) in
      absurd (omega (arith, drawn.drawn))

-- the steps of a submission are legal where a number is left
pub submission_legal : (table : JobTable) (job : Job) → IsSound table → table.last < LAST_NUMBER → AreLegal table (submission table job)
submission_legal table job sound more = (more, (record { last = refl; some = omega arith; absent = next_is_free table sound }, tt))

-- a number that was drawn was drawn before a later one too
mark_drawn : (last : ℕ) (mark : Mark) → is_drawn last mark ≡ true → is_drawn (last + 1) mark ≡ true
mark_drawn last (Removed number) drawn = grind (arith, nat_tests)
mark_drawn last (Started number queue second) drawn = grind (arith, nat_tests)
mark_drawn last (Ended number ending) drawn = grind (arith, nat_tests)
mark_drawn last (Interrupted number) drawn = grind (arith, nat_tests)
mark_drawn last (Forgotten number) drawn = grind (arith, nat_tests)
mark_drawn last (Batch second) drawn = refl

marks_drawn : (last : ℕ) (marks : List Mark) → are_drawn last marks ≡ true → are_drawn (last + 1) marks ≡ true
marks_drawn last [] drawn = refl
marks_drawn last (mark ∷ later) drawn =
    let tests : (is_drawn last mark ≡ true) × (are_drawn last later ≡ true) = and_parts (is_drawn last mark) (are_drawn last later) drawn in
    and_from (is_drawn (last + 1) mark) (are_drawn (last + 1) later) (mark_drawn last mark tests.0) (marks_drawn last later tests.1)

-- what is kept with one more job is as it has to be
pub submitted_stored : (kept : Kept) (job : Job) → IsStored kept → kept.table.last < LAST_NUMBER → CanBeNamed job.queue job.minute
    → IsStored (with_job kept job)
submitted_stored kept job stored more named = record {
  sound = steps_keep_the_table_sound table (submission table (job_without_script job)) stored.sound
      (submission_legal table (job_without_script job) stored.sound more);
  drawn = marks_drawn table.last marks stored.drawn;
  entries = by_number;
  batch = stored.batch;
  old_form = stored.old_form;
} where
  table : JobTable
  table = kept.table

  marks : List Mark
  marks = kept.journal.marks

  here : IsLiveBy marks (table.last + 1) (job_without_script job) Pending
  here = record { named = named; since = tt; state_by = fresh_unnamed table.last (table.last + 1) marks (omega arith) stored.drawn }

  by_number : (number : ℕ)
      → IsEntryBy marks number (finite.get (finite.insert table.entries (table.last + 1) (Live (job_without_script job) Pending)) number)
  by_number number = elim (eqb_tells number (table.last + 1)) [
    | inl same ↦ subst (λ (at : ℕ). IsEntryBy marks at
        (finite.get (finite.insert table.entries (table.last + 1) (Live (job_without_script job) Pending)) at)) (sym same.1)
        (subst (IsEntryBy marks (table.last + 1))
        (sym (get-put_same table.entries (table.last + 1) (Live (job_without_script job) Pending))) here)
    | inr apart ↦ subst (IsEntryBy marks number)
        (sym (get-put_other table.entries (table.last + 1) number (Live (job_without_script job) Pending) apart.1)) (stored.entries number)
  ]
