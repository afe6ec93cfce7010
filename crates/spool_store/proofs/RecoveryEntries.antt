-- What a scan has found is what a store keeps: a sound table, and marks that say the same of jobs.
use Rattle.std.proofs.Common.{◌≡◌, ℕ, ℤ, ◌≤◌, Bool, true, false, cond, List, Option, Some, None, [], ◌∷◌, sym, ap, subst, ◌∙◌, refl}
use Rattle.std.specs.Prelude.{◌==◌, IfSome, IsSome, IsTrue, not, is_some, option_map}
use Rattle.std.specs.Option.{option_or}
use Rattle.std.proofs.lemmas.List.Elements.{All-head, All-tail}
use Rattle.job_name.specs.JobName.{IsInRange}
use Rattle.spool_model.specs.declared.entry.Entry.TheVariants.{Done}
use Rattle.spool_model.specs.declared.fate.Fate.{Fate}
use Rattle.spool_model.specs.JobTable.{JobEntry, JobTable, entry_at, is_batch_queue}
use Rattle.start_journal.specs.declared.mark.Mark.{Mark}
use Rattle.start_journal.specs.declared.mark.Mark.TheVariants.{Removed, Started, Ended, Interrupted, Forgotten, Batch}
use Rattle.start_journal.specs.Journals.{AreWritable, are_drawn}
use Rattle.start_journal.specs.Marks.{AreLegalMarks, batch_second, first_of_two, is_decided, is_forgotten, last_batch, start_second, started_at}
use Rattle.start_journal.specs.Slots.{IsWritable}
use Rattle.host_calls.specs.ClockRange.{IsClockSecond}
use Rattle.std.proofs.lemmas.Bool.{and_from, eqb-true}
use Rattle.spool_shows.specs.JobFiles.{JobFile, file_of}
use Rattle.spool_shows.specs.Shown.{damage_of_jobs, job_of, live_entry, starts_damage, state_since, table_shown}
use Rattle.spool_shows.proofs.MarkTests.{not_forgotten}
use Rattle.spool_shows.proofs.Membership.{Has, contained, found_has, made_has}
use Rattle.spool_shows.proofs.SoundLemmas.{fine_is_whole, neither_first, no_damage_is_fine}
use Rattle.spool_shows.proofs.StepLegal.{is_started_since, unnamed}
use Rattle.step_runs.specs.WithoutScripts.{without_scripts, entry_without_script, job_without_script}
use Rattle.spool_store.specs.declared.scanned_job.ScannedJob.{ScannedJob}
use Rattle.start_journal.specs.Lifecycles.{fate_at, remembered_at}
use Rattle.spool_store.specs.inside.ScannedJobs.{file_scanned, files_scanned}
use Rattle.spool_store.specs.Stored.{AreInOldForm, IsEntryBy, IsLiveBy, IsStateBy, IsStored, RunsSince}
use Rattle.spool_store.specs.inside.Tables.{AreUndecided, IsDrawnBy, IsTableShown}
use Rattle.spool_store.proofs.PrefixLemmas.{at_shown}
use Rattle.spool_store.proofs.ListLemmas.{number_drawn}
use Rattle.start_journal.proofs.LifecycleLemmas.{decided_has_fate}
use Rattle.spool_store.proofs.TableLemmas.{found_shown}
use Rattle.spool_model.specs.declared.number.TheConstants.{LAST_NUMBER}

-- The seconds of marks that can be written.

-- the second of the mark, if it starts the number, lies in the clock's range
start_in_range : (number : ℕ) (mark : Mark) → IsWritable mark → IfSome (start_second number mark) IsClockSecond
start_in_range number (Started other queue second) writable = by_test (other == number) where
  by_test : (same : Bool) → IfSome (cond same (Some second) None) IsClockSecond
  by_test true = writable.second_of
  by_test false = tt
start_in_range number (Removed other) writable = tt
start_in_range number (Ended other ending) writable = tt
start_in_range number (Interrupted other) writable = tt
start_in_range number (Forgotten other) writable = tt
start_in_range number (Batch second) writable = tt

-- the first of two does where both do
either_in_range : (one other : Option ℤ) → IfSome one IsClockSecond → IfSome other IsClockSecond
    → IfSome (option_or one other) IsClockSecond
either_in_range (Some second) other here there = here
either_in_range None other here there = there

-- so does the second at which the number was started
since_in_range : (number : ℕ) (marks : List Mark) → AreWritable marks → IfSome (started_at number marks) IsClockSecond
since_in_range number [] writable = tt
since_in_range number (mark ∷ later) writable =
    either_in_range (start_second number mark) (started_at number later)
    (start_in_range number mark (All-head IsWritable mark later writable))
    (since_in_range number later (All-tail IsWritable mark later writable))

-- the second of a start in a batch queue
batch_in_range : (mark : Mark) → IsWritable mark → IfSome (batch_second mark) IsClockSecond
batch_in_range (Started number queue second) writable = by_test (is_batch_queue queue) where
  by_test : (batch : Bool) → IfSome (cond batch (Some second) None) IsClockSecond
  by_test true = writable.second_of
  by_test false = tt
batch_in_range (Batch second) writable = writable
batch_in_range (Removed number) writable = tt
batch_in_range (Ended number ending) writable = tt
batch_in_range (Interrupted number) writable = tt
batch_in_range (Forgotten number) writable = tt

-- the same of two as the last batch start is chosen
last_in_range : (one other : Option ℤ) → IfSome one IsClockSecond → IfSome other IsClockSecond
    → IfSome (first_of_two one other) IsClockSecond
last_in_range (Some second) other here there = here
last_in_range None other here there = there

-- the second of the last batch start
last_batch_in_range : (marks : List Mark) → AreWritable marks → IfSome (last_batch marks) IsClockSecond
last_batch_in_range [] writable = tt
last_batch_in_range (mark ∷ later) writable =
    last_in_range (last_batch later) (batch_second mark)
    (last_batch_in_range later (All-tail IsWritable mark later writable)) (batch_in_range mark (All-head IsWritable mark later writable))

-- States.

-- a job runs since a second of the range
runs_since : (since : Option ℤ) → IfSome since IsClockSecond → RunsSince (state_since since)
runs_since (Some second) in_range = in_range
runs_since None in_range = tt

-- the marks of a number that is not finished tell of its state
state_by : (marks : List Mark) (number : ℕ) (since : Option ℤ) → started_at number marks ≡ since → AreLegalMarks marks
    → is_decided number marks ≡ false → IsStateBy marks number (state_since since)
state_by marks number None is legal undecided = unnamed number marks undecided (not_forgotten marks number legal undecided) is
state_by marks number (Some second) is legal undecided =
    and_from _ (not (is_decided number marks)) (is_started_since number marks second is) (ap not undecided)

-- a number whose fate is remembered is finished and not forgotten
remembered_is : (marks : List Mark) (number : ℕ) (fate : Fate) → remembered_at number marks ≡ Some fate
    → (is_decided number marks ≡ true) × (is_forgotten number marks ≡ false)
remembered_is marks number fate is = by_test (is_forgotten number marks) refl is where
  by_test : (forgotten : Bool) → is_forgotten number marks ≡ forgotten → cond forgotten None (fate_at number marks) ≡ Some fate
      → (is_decided number marks ≡ true) × (is_forgotten number marks ≡ false)
  by_test true forgotten none = cc
  by_test false kept given = (decided_has_fate number marks ∙ ap is_some given, kept)

-- The table.

-- a scan has found these marks and these files, and no damage
pub record HasScanned (last : ℕ) (marks : List Mark) (files : List JobFile) : Type 0 where
  pub few : last ≤ LAST_NUMBER
  pub legal : AreLegalMarks marks
  pub writable : AreWritable marks
  pub drawn : IsTrue (are_drawn last marks)
  pub undecided : AreUndecided marks files
  pub named : (file : JobFile) → Has files file → IsInRange file.job.queue file.job.number file.job.minute
  pub whole : damage_of_jobs last marks files ≡ None

-- a file that was seen has the name of a job in range
pub scanned_named : (scanned : List ScannedJob) (file : JobFile) → Has (files_scanned scanned) file
    → IsInRange file.job.queue file.job.number file.job.minute
scanned_named scanned file has =
    let of : (one : ScannedJob) × Has scanned one × (file_scanned one ≡ file) = made_has file_scanned scanned file has in
    subst (λ (f : JobFile). IsInRange f.job.queue f.job.number f.job.minute) of.2
    (record { letter = of.0.job.letter; drawn = of.0.job.drawn; in_calendar = of.0.job.in_calendar })

-- the entry of a number with this file and this fate
abbrev entry_of : List Mark → Option JobFile → Option Fate → Option JobEntry
entry_of marks found given =
    option_map entry_without_script (option_or (option_map (λ file. (live_entry marks file).1) found) (option_map Done given))

module _ (last : ℕ) (marks : List Mark) (files : List JobFile) (scanned : HasScanned last marks files) where
  -- the marks say of the job of a file
  live_by : (file : JobFile) → Has files file
      → IsLiveBy marks file.job.number (job_without_script (job_of file)) (state_since (started_at file.job.number marks))
  live_by file has = record {
    named = record { letter = (scanned.named file has).letter; in_calendar = (scanned.named file has).in_calendar };
    since = runs_since (started_at file.job.number marks) (since_in_range file.job.number marks scanned.writable);
    state_by = state_by marks file.job.number (started_at file.job.number marks) refl scanned.legal
        (scanned.undecided file (contained files file has));
  }

  -- and of each entry
  entry_by : (number : ℕ) (found : Option JobFile) (given : Option Fate) → file_of number files ≡ found → remembered_at number marks ≡ given
      → IsEntryBy marks number (entry_of marks found given)
  entry_by number (Some file) given is other =
      let there : Has files file × ((file.job.number == number) ≡ true) =
      found_has (λ (f : JobFile). f.job.number == number) files file is in
      subst (λ at. IsLiveBy marks at (job_without_script (job_of file)) (state_since (started_at file.job.number marks)))
      (eqb-true file.job.number number there.1) (live_by file there.0)
  entry_by number None (Some fate) is other =
      let both = remembered_is marks number fate other in
      and_from (is_decided number marks) (not (is_forgotten number marks)) both.0 (ap not both.1)
  entry_by number None None is other = tt

  -- a number with an entry was drawn
  number_in : (number : ℕ) (found : Option JobFile) (given : Option Fate) → file_of number files ≡ found
      → remembered_at number marks ≡ given → IsSome (entry_of marks found given) → IsDrawnBy last number
  number_in number (Some file) given is other some =
      let there : Has files file × ((file.job.number == number) ≡ true) =
      found_has (λ (f : JobFile). f.job.number == number) files file is in
      let whole = (neither_first _ (starts_damage marks files 0 marks) scanned.whole).0 in
      subst (IsDrawnBy last) (eqb-true file.job.number number there.1)
      ((scanned.named file there.0).drawn, (fine_is_whole last [] files file (no_damage_is_fine last [] files whole) there.0).drawn)
  number_in number None (Some fate) is other some =
      number_drawn last marks number scanned.writable scanned.drawn (remembered_is marks number fate other).0
  number_in number None None is other some = let impossible : false ≡ true = some in cc

  -- what the table has under a number
  under : (number : ℕ) → entry_at (without_scripts (table_shown last marks files)) number
      ≡ entry_of marks (file_of number files) (remembered_at number marks)
  under number = at_shown last marks files number ∙ ap (option_map entry_without_script) (found_shown number marks files)

  -- what was seen is what a store keeps
  pub is_stored : (table : JobTable) → IsTableShown last marks files table → (free : ℕ) (old_form : List ℕ) → AreInOldForm old_form
      → IsStored (record { table = table; journal = record { marks = marks; free = free }; old_form = old_form })
  unfolding without_scripts
  is_stored table shown free old_form are_old_form = subst (λ one.
      IsStored (record { table = one; journal = record { marks = marks; free = free }; old_form = old_form })) (sym shown.1) stored
    where
      stored : IsStored (record {
        table = without_scripts (table_shown last marks files);
        journal = record { marks = marks; free = free };
        old_form = old_form;
      })
      stored = record {
        sound = record {
          few = scanned.few;
          each = λ number some.
              let drawn =
              number_in number (file_of number files) (remembered_at number marks) refl refl (subst IsSome (under number) some) in
              record { some = drawn.0; drawn = drawn.1 };
        };
        drawn = scanned.drawn;
        entries = λ number. subst (IsEntryBy marks number) (sym (under number))
            (entry_by number (file_of number files) (remembered_at number marks) refl refl);
        batch = last_batch_in_range marks scanned.writable;
        old_form = are_old_form;
      }
