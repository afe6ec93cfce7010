-- A step that is legal on what a store keeps: its mark may follow, and what is kept with it is as it should be.
use Rattle.std.proofs.Common.{◌≡◌, ℕ, ℤ, Bool, true, false, not, List, [], ◌∷◌, ◌++◌, sym, ap, subst, ◌∙◌, refl, inl, inr}
use Rattle.std.specs.Prelude.{◌==◌, Some, IfSome, nat_le, if◌then◌else◌}
use Rattle.std.specs.FinMap as map
use Rattle.std.proofs.lemmas.Bool.Decides.{eqb_tells}
use Rattle.spool_model.specs.declared.entry.Entry.TheVariants.{Live, Done}
use Rattle.spool_model.specs.declared.fate.Fate.{Fate}
use Rattle.spool_model.specs.declared.fate.Fate.TheVariants as fate
use Rattle.spool_model.specs.declared.job.Job.{Job}
use Rattle.spool_model.specs.declared.state.State.TheVariants.{Pending, Running}
use Rattle.spool_model.specs.declared.step.Step.{Step}
use Rattle.spool_model.specs.declared.step.Step.TheVariants.{Remove, Start, End, Interrupt, Forget}
use Rattle.spool_model.specs.JobTable.{JobEntry, JobState, JobTable, entry_at, table_of}
use Rattle.spool_model.specs.Steps.{IsLegal, after_step, is_batch_entry, with_state}
use Rattle.spool_model.proofs.StepLemmas.{step_keeps_sound}
use Rattle.spool_model.proofs.TableLemmas.{get-put_other, get-put_same, get-taken_other, get-taken_same}
use Rattle.start_journal.specs.declared.mark.Mark.{Mark}
use Rattle.start_journal.specs.declared.mark.Mark.TheVariants as mark
use Rattle.start_journal.specs.JournalChange.{compacted}
use Rattle.start_journal.specs.Journals.{JournalRead, are_drawn, is_drawn}
use Rattle.start_journal.specs.Marks.{AreLegalMarks, IsLegalAfter, decides, is_end_of, is_forgetting, is_decided, is_ended, has_start_of, kept_marks, is_mark_of, is_start_of}
use Rattle.host_calls.specs.ClockRange.{IsClockSecond}
use Rattle.std.proofs.lemmas.Bool.{and_from, and_parts, not-true}
use Rattle.start_journal.proofs.LifeLemmas.{any_with, any_without, ends_decides, none_narrower}
use Rattle.start_journal.proofs.MarkLemmas.{decides_names, kept_marks_are_legal}
use Rattle.step_runs.specs.WithoutScripts.{step_without_script}
use Rattle.step_runs.specs.Current.{Kept}
use Rattle.spool_shows.specs.Laws.{AddsMark}
use Rattle.spool_shows.proofs.MarkTests.{not_forgotten}
use Rattle.spool_shows.proofs.ShownEntries.{fails_other, passes_same}
use Rattle.spool_shows.specs.FateSteps.{decision, decision_mark}
use Rattle.spool_store.specs.inside.JournalMark.{HaveOneMore}
use Rattle.spool_store.specs.Listed.{IsLive}
use Rattle.spool_store.specs.Stored.{IsEntryBy, IsLiveBy, IsStateBy, IsStored}
use Rattle.spool_store.proofs.KeptMarks.{kept_drawn}
use Rattle.spool_store.proofs.MarkingLemmas.{drawn_is, more_drawn}
use Rattle.spool_store.proofs.StoredEntries.{entry_alike, kept_alike, other_alike}

-- what is kept, with another table and journal
abbrev kept_then : Kept → JobTable → JournalRead → Kept
kept_then kept table journal = record { table = table; journal = journal; old_form = kept.old_form }

-- The mark names the number of the step alone, and with it the marks say of the number's new entry. All other
-- entries stay, and the second of the last batch start is in the clock's range.
record IsStepAt (table : JobTable) (marks : List Mark) (step : Step) (mark : Mark) (number : ℕ) : Type 0 where
  unchecked : (other : ℕ) → ¬ (other ≡ number) → is_mark_of other mark ≡ false
  kept : (other : ℕ) → ¬ (other ≡ number) → entry_at (after_step table step) other ≡ entry_at table other
  here : IsEntryBy (marks ++ mark ∷ []) number (entry_at (after_step table step) number)
  drawn : is_drawn table.last mark ≡ true
  last : (after_step table step).last ≡ table.last
  batch : IfSome (after_step table step).last_batch IsClockSecond

-- a start has a second of the clock's range
abbrev pub IsStartInRange : Step → Type 0
IsStartInRange (Start number second) = IsClockSecond second
IsStartInRange _ = Unit {0}

-- Whatever its fate, a job lives that is finished, and the mark names and decides its number alone.
pub record DecidesBy (table : JobTable) (number : ℕ) (fate : Fate) (step : Step) (mark : Mark) : Type 0 where
  pub lives : IsLegal table step → IsLive table number
  pub adds : AddsMark table step mark
  pub without_scripts : step_without_script step ≡ step
  pub after : after_step table step ≡ table_of table.last (map.insert table.entries number (Done fate)) table.last_batch
  pub named : (other : ℕ) → is_mark_of other mark ≡ (number == other)
  pub decided : decides number mark ≡ true
  pub not_forgets : is_forgetting number mark ≡ false
  pub drawn : is_drawn table.last mark ≡ nat_le number table.last
  pub in_range : IsStartInRange step

-- it is so at each fate
pub decides_by : (table : JobTable) (number : ℕ) (fate : Fate)
    → DecidesBy table number fate (decision number fate) (decision_mark number fate)
decides_by table number fate.Removed = record {
  lives = λ may. (may.0, Pending, may.1);
  adds = refl;
  without_scripts = refl;
  after = refl;
  named = λ other. refl;
  decided = passes_same number number refl;
  not_forgets = refl;
  drawn = refl;
  in_range = tt;
}
decides_by table number (fate.Finished ending) = record {
  lives = λ may. (may.0, Running may.1, may.2);
  adds = refl;
  without_scripts = refl;
  after = refl;
  named = λ other. refl;
  decided = passes_same number number refl;
  not_forgets = refl;
  drawn = refl;
  in_range = tt;
}
decides_by table number fate.Interrupted = record {
  lives = λ may. (may.0, Running may.1, may.2);
  adds = refl;
  without_scripts = refl;
  after = refl;
  named = λ other. refl;
  decided = passes_same number number refl;
  not_forgets = refl;
  drawn = refl;
  in_range = tt;
}

-- a number is not tested as another
silent_other : (number other : ℕ) → ¬ (other ≡ number) → (number == other) ≡ false
silent_other number other differ = fails_other number other (λ same. differ (sym same))

module _ (kept : Kept) (is : IsStored kept) where
  abbrev table : JobTable
  table = kept.table

  abbrev marks : List Mark
  marks = kept.journal.marks

  -- an entry under its number, known by the marks
  entry_by : (number : ℕ) (entry : JobEntry) → entry_at table number ≡ Some entry → IsEntryBy marks number (Some entry)
  entry_by number entry held = subst (IsEntryBy marks number) held (is.entries number)

  -- such a number was drawn
  number_drawn : (number : ℕ) (entry : JobEntry) → entry_at table number ≡ Some entry → nat_le number table.last ≡ true
  number_drawn number entry held = drawn_is number table.last (is.sound.each number (rw held refl)).drawn

  -- the marks say of the state of a live job
  state_by : (number : ℕ) (job : Job) (state : JobState) → entry_at table number ≡ Some (Live job state) → IsStateBy marks number state
  state_by number job state held = let entry : IsLiveBy marks number job state = entry_by number (Live job state) held in entry.state_by

  -- and none decides it
  live_undecided : (number : ℕ) (job : Job) (state : JobState) → entry_at table number ≡ Some (Live job state)
      → is_decided number marks ≡ false
  live_undecided number job Pending held =
      none_narrower (decides number) (is_mark_of number) marks (decides_names number) (state_by number job Pending held)
  live_undecided number job (Running second) held = not-true _ (and_parts _ _ (state_by number job (Running second) held)).1

  -- so the end of one that runs may follow
  running_unended : (number : ℕ) (job : Job) (second : ℤ) → entry_at table number ≡ Some (Live job (Running second))
      → (has_start_of number marks ≡ true) × (is_ended number marks ≡ false)
  running_unended number job second held = (
    (and_parts _ _ (state_by number job (Running second) held)).0,
    none_narrower (is_end_of number) (decides number) marks (ends_decides number) (live_undecided number job (Running second) held),
  )

  -- and so may the mark of any decision
  pub decision_legal : (number : ℕ) (fate : Fate) → IsLegal table (decision number fate) → IsLegalAfter marks (decision_mark number fate)
  decision_legal number fate.Removed (job, held) = state_by number job Pending held
  decision_legal number (fate.Finished ending) (job, second, held) = running_unended number job second held
  decision_legal number fate.Interrupted (job, second, held) = running_unended number job second held

  -- what is kept with the step and its mark is as it should be
  stored_at : (new : JournalRead) (step : Step) (mark : Mark) (number : ℕ) → new.marks ≡ marks ++ mark ∷ [] → IsLegal table step
      → IsStepAt table marks step mark number → IsStored (kept_then kept (after_step table step) new)
  stored_at new step mark number more legal at = record {
    sound = step_keeps_sound table step is.sound legal;
    drawn = ap (are_drawn (after_step table step).last) more ∙ ap (λ last. are_drawn last (marks ++ mark ∷ [])) at.last
        ∙ more_drawn table.last marks mark is.drawn at.drawn;
    entries =
        λ other. subst (λ list. IsEntryBy list other (entry_at (after_step table step) other)) (sym more) (elim (eqb_tells other number) [
          | inl same ↦ subst (λ n. IsEntryBy (marks ++ mark ∷ []) n (entry_at (after_step table step) n)) (sym same.1) at.here
          | inr apart ↦ subst (IsEntryBy (marks ++ mark ∷ []) other) (sym (at.kept other apart.1))
              (entry_alike marks (marks ++ mark ∷ []) other (entry_at table other)
              (other_alike marks mark other (at.unchecked other apart.1)) (is.entries other))
        ]);
    batch = at.batch;
    old_form = is.old_form;
  }

  -- a step that decides a job
  decided_at : AreLegalMarks marks → (number : ℕ) (fate : Fate) → IsLegal table (decision number fate)
      → IsStepAt table marks (decision number fate) (decision_mark number fate) number
  decided_at legal number fate may =
      let by : DecidesBy table number fate (decision number fate) (decision_mark number fate) = decides_by table number fate in
      let live : IsLive table number = by.lives may in
      record {
        unchecked = λ other differ. by.named other ∙ silent_other number other differ;
        kept = λ other differ. ap (λ t. entry_at t other) by.after ∙ get-put_other table.entries number other (Done fate) differ;
        here = subst (IsEntryBy (marks ++ decision_mark number fate ∷ []) number)
            (sym (ap (λ t. entry_at t number) by.after ∙ get-put_same table.entries number (Done fate)))
            (and_from _ _ (any_with (decides number) marks (decision_mark number fate) by.decided)
            (ap not (any_without (is_forgetting number) marks (decision_mark number fate) by.not_forgets
            ∙ not_forgotten marks number legal (live_undecided number live.0 live.1 live.2))));
        drawn = by.drawn ∙ number_drawn number (Live live.0 live.1) live.2;
        last = ap (λ (t : JobTable). t.last) by.after;
        batch = subst (λ (t : JobTable). IfSome t.last_batch IsClockSecond) (sym by.after) is.batch;
      }

  -- a step that forgets a number
  forgotten_at : (number : ℕ) (fate : Fate) → entry_at table number ≡ Some (Done fate)
      → IsStepAt table marks (Forget number) (mark.Forgotten number) number
  forgotten_at number fate held = record {
    unchecked = silent_other number;
    kept = λ other differ. get-taken_other table.entries number other differ;
    here = subst (IsEntryBy (marks ++ mark.Forgotten number ∷ []) number) (sym (get-taken_same table.entries number)) tt;
    drawn = number_drawn number (Done fate) held;
    last = refl;
    batch = is.batch;
  }

  -- a step that starts a job
  started_at : (number : ℕ) (second : ℤ) (job : Job) → entry_at table number ≡ Some (Live job Pending) → IsClockSecond second
      → IsStepAt table marks (Start number second) (mark.Started number job.queue second) number
  started_at number second job held range =
      let added : Mark = mark.Started number job.queue second in
      let old : IsLiveBy marks number job Pending = entry_by number (Live job Pending) held in
      let entries : (after_step table (Start number second)).entries ≡ map.insert table.entries number (Live job (Running second)) =
      ap (λ entry. with_state number (Running second) entry table.entries) held in
      let undecided : is_decided number (marks ++ added ∷ []) ≡ false =
      any_without (decides number) marks added refl ∙ live_undecided number job Pending held in
      let new : IsLiveBy (marks ++ added ∷ []) number job (Running second) = record {
        named = old.named;
        since = range;
        state_by = and_from _ _ (any_with (is_start_of number) marks added (passes_same number number refl)) (ap not undecided);
      } in
      record {
        unchecked = silent_other number;
        kept = λ other differ. ap (λ list. map.get list other) entries
            ∙ get-put_other table.entries number other (Live job (Running second)) differ;
        here = subst (IsEntryBy (marks ++ added ∷ []) number)
            (sym (ap (λ list. map.get list number) entries ∙ get-put_same table.entries number (Live job (Running second)))) new;
        drawn = number_drawn number (Live job Pending) held;
        last = refl;
        batch = in_range (is_batch_entry (entry_at table number));
      } where
        in_range : (batch : Bool) → IfSome (if batch then Some second else table.last_batch) IsClockSecond
        in_range true = range
        in_range false = is.batch

  -- the step is one of some number
  abbrev StepsAtNumber : Step → Mark → Type 0
  StepsAtNumber step added = (number : ℕ) × IsStepAt table marks step added number

  -- each of the five steps that add a mark is so
  step_at : (step : Step) (added : Mark) → AreLegalMarks marks → IsLegal table step → AddsMark table step added → IsStartInRange step
      → StepsAtNumber step added
  step_at (Remove number) added legal may adds range =
      subst (StepsAtNumber (Remove number)) (sym adds) (number, decided_at legal number fate.Removed may)
  step_at (Start number second) added legal may (job, held, adds) range =
      subst (StepsAtNumber (Start number second)) (sym adds) (number, started_at number second job held range)
  step_at (End number ending) added legal may adds range =
      subst (StepsAtNumber (End number ending)) (sym adds) (number, decided_at legal number (fate.Finished ending) may)
  step_at (Interrupt number) added legal may adds range =
      subst (StepsAtNumber (Interrupt number)) (sym adds) (number, decided_at legal number fate.Interrupted may)
  step_at (Forget number) added legal (of, held) adds range =
      subst (StepsAtNumber (Forget number)) (sym adds) (number, forgotten_at number of held)
  step_at _ added legal may adds range = absurd adds

  -- what is kept with one more mark is as it should be
  stored_more : (new : JournalRead) (step : Step) (mark : Mark) → new.marks ≡ marks ++ mark ∷ [] → AreLegalMarks marks → IsLegal table step
      → AddsMark table step mark → IsStartInRange step → IsStored (kept_then kept (after_step table step) new)
  stored_more new step mark more legal may adds range =
      let at : StepsAtNumber step mark = step_at step mark legal may adds range in
      stored_at new step mark at.0 more may at.1

  -- and so is what a compaction keeps
  stored_kept : AreLegalMarks marks → IsStored (kept_then kept table (compacted kept.journal))
  stored_kept legal = record {
    sound = is.sound;
    drawn = kept_drawn table.last marks is.drawn;
    entries =
        λ number. entry_alike marks (kept_marks marks) number (entry_at table number) (kept_alike marks number legal) (is.entries number);
    batch = is.batch;
    old_form = is.old_form;
  }

-- so it is as it should be with one more mark, compacted before or not
pub stored_with : (kept : Kept) (new : JournalRead) (step : Step) (mark : Mark) → IsStored kept → AreLegalMarks kept.journal.marks
    → IsLegal kept.table step → AddsMark kept.table step mark → IsStartInRange step → HaveOneMore kept.journal.marks mark new.marks
    → IsStored (record { table = after_step kept.table step; journal = new; old_form = kept.old_form })
stored_with kept new step mark is legal may adds range (inl more) = stored_more kept is new step mark more legal may adds range
stored_with kept new step mark is legal may adds range (inr more) =
    stored_more (kept_then kept kept.table (compacted kept.journal)) (stored_kept kept is legal) new step mark more
    (kept_marks_are_legal kept.journal.marks legal) may adds range
