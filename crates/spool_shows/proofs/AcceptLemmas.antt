-- A directory in which a job was placed under the next number shows the table with that job.
use Rattle.std.proofs.Common.{◌≡◌, ◌⊎◌, ◌≤◌, ◌+◌, ℕ, Bool, true, false, Some, List, [], ◌∷◌, sym, ap, subst, ◌∙◌, refl, arith, inl, inr}
use Rattle.std.specs.Prelude.{IsSome, MatchBool}
use Rattle.std.specs.FinMap as map
use Rattle.std.proofs.lemmas.Bool.Decides.{eqb_tells}
use Rattle.host_calls.specs.Directory.{Files}
use Rattle.job_script.specs.HeaderIn.{header_in}
use Rattle.sequence_file.specs.Sequence.{sequence_file}
use Rattle.whole_file.specs.Temporary.{temporary_file}
use Rattle.spool_model.specs.declared.entry.Entry.TheVariants.{Live}
use Rattle.spool_model.specs.declared.job.Job.{Job}
use Rattle.spool_model.specs.declared.state.State.TheVariants.{Pending}
use Rattle.spool_model.specs.declared.step.Step.TheVariants.{Draw, Accept}
use Rattle.spool_model.specs.JobTable.{JobEntries, JobTable}
use Rattle.spool_model.specs.Steps.{after_steps}
use Rattle.spool_model.proofs.TableLemmas.{get-put_other, get-put_same}
use Rattle.start_journal.specs.declared.mark.Mark.{Mark}
use Rattle.start_journal.specs.Journals.{are_drawn, journal_file, journal_in}
use Rattle.start_journal.specs.Marks.{is_decided}
use Rattle.whole_file.proofs.OthersLemmas.{one_or_other}
use Rattle.spool_shows.specs.ByName.{AreSound, HasFile, IsJobFile, IsWholeFile, ShowsByName, ShowsDone, ShowsEntry, ShowsLive}
use Rattle.spool_shows.specs.JobFiles.{JobFile}
use Rattle.job_name.specs.JobName.{NamedJob, job_named}
use Rattle.spool_shows.specs.Laws.{HasAccepted}
use Rattle.spool_shows.specs.Shown.{job_of, live_entry, state_since, user_of}
use Rattle.sequence_file.proofs.LastNumbers.{last_spelled}
use Rattle.spool_shows.proofs.ByNameReads.{journal_read, read_gives_journal}
use Rattle.spool_shows.proofs.FreshNumbers.{fresh_not_started, fresh_undecided}
use Rattle.start_journal.proofs.JournalReads.{journal_drawn, journal_more}
use Rattle.spool_shows.proofs.NameLemmas.{KeepFiles, entry_kept, is_there, job_name_apart, job_name_differs, journal_apart, journal_no_job, sequence_no_job, temporary_no_job, whole_more}

-- the file of the job
abbrev placed_file : List ℕ → ℕ → Job → JobFile
placed_file name number job =
    record { name = name; job = record { queue = job.queue; number = number; minute = job.minute; new_form = true }; bytes = job.script }

-- a file of these three
file_is : (file other : JobFile) → file.name ≡ other.name → file.job ≡ other.job → file.bytes ≡ other.bytes → file ≡ other
file_is file other same_name same_job same_bytes =
    ap (λ name. record { name = name; job = file.job; bytes = file.bytes }) same_name
    ∙ ap (λ job. record { name = other.name; job = job; bytes = file.bytes }) same_job
    ∙ ap (λ bytes. record { name = other.name; job = other.job; bytes = bytes }) same_bytes

-- One more file: that of a number above the last one, of which no mark says anything.
record HasOneMore (last : ℕ) (marks : List Mark) (name : List ℕ) (job : Job) (before after : Files) : Type 0 where
  drawn : are_drawn last marks ≡ true
  sound : AreSound last marks before
  named : job_named name ≡ Some (placed_file name (last + 1) job).job
  header : IsSome (header_in job.script)
  placed : map.get after name ≡ Some job.script
  others : (other : List ℕ) (named : NamedJob) → job_named other ≡ Some named → ¬ (other ≡ name)
      → map.get after other ≡ map.get before other

module _ (last : ℕ) (marks : List Mark) (name : List ℕ) (job : Job) (before after : Files)
    (more : HasOneMore last marks name job before after) where
  undecided : is_decided (last + 1) marks ≡ false
  undecided = fresh_undecided last (last + 1) marks (omega arith) more.drawn

  -- the file exists
  placed_is : IsJobFile marks after (placed_file name (last + 1) job)
  placed_is = record { held = more.placed; named = more.named; undecided = undecided }

  -- a file that was there has another number
  was_drawn : (file : JobFile) → IsJobFile marks before file → file.job.number ≤ last
  was_drawn file is = (more.sound.each file is).drawn

  -- so it has another name
  was_other : (file : JobFile) → IsJobFile marks before file → ¬ (file.name ≡ name)
  was_other file is same =
      let drawn : file.job.number ≤ last = was_drawn file is in
      let job_is : Some file.job ≡ Some (placed_file name (last + 1) job).job = sym is.named ∙ ap job_named same ∙ more.named in
      let number_is : file.job.number ≡ last + 1 = cc in
      omega arith

  -- and is there still
  still_there : (file : JobFile) → IsJobFile marks before file → IsJobFile marks after file
  still_there file is = is_there marks before after file (more.others file.name file.job is.named (was_other file is)) is

  -- a file that exists was there, or it is that of the job
  was_there : (file : JobFile) → IsJobFile marks after file → IsJobFile marks before file ⊎ (file ≡ placed_file name (last + 1) job)
  was_there file is = elim (one_or_other file.name name) [
    | inl same ↦ inr (file_is file (placed_file name (last + 1) job) same (job_is same) (bytes_are same))
    | inr apart ↦ inl (is_there marks after before file (sym (more.others file.name file.job is.named apart)) is)
  ] where
    job_is : file.name ≡ name → file.job ≡ (placed_file name (last + 1) job).job
    job_is same =
        let found : Some file.job ≡ Some (placed_file name (last + 1) job).job = sym is.named ∙ ap job_named same ∙ more.named in
        cc

    bytes_are : file.name ≡ name → file.bytes ≡ job.script
    bytes_are same = let found : Some file.bytes ≡ Some job.script = sym is.held ∙ ap (map.get after) same ∙ more.placed in cc

  -- files of other numbers are the same
  keeps : (number : ℕ) → ¬ (number ≡ last + 1) → KeepFiles marks before after number
  keeps number differs =
      record { forward = λ file number_is is. still_there file is; backward = λ file number_is is. back file number_is (was_there file is) }
    where
      back : (file : JobFile) → file.job.number ≡ number → IsJobFile marks before file ⊎ (file ≡ placed_file name (last + 1) job)
          → IsJobFile marks before file
      back file number_is (inl was) = was
      back file number_is (inr new) = absurd (differs (sym number_is ∙ ap (λ (other : JobFile). other.job.number) new))

  placed_whole : IsWholeFile (last + 1) (placed_file name (last + 1) job)
  placed_whole = record { drawn = omega arith; header = more.header }

  -- each file is whole
  each_whole : (file : JobFile) → IsJobFile marks after file → IsWholeFile (last + 1) file
  each_whole file is = elim (was_there file is) [
    | inl was ↦ whole_more last (last + 1) file (omega arith) (more.sound.each file was)
    | inr new ↦ subst (IsWholeFile (last + 1)) (sym new) placed_whole
  ]

  -- files of one number are one
  new_number : (file : JobFile) → file ≡ placed_file name (last + 1) job → file.job.number ≡ last + 1
  new_number file new = ap (λ (other : JobFile). other.job.number) new

  one_name : (first second : JobFile) → IsJobFile marks before first ⊎ (first ≡ placed_file name (last + 1) job) → IsJobFile marks before
      second ⊎ (second ≡ placed_file name (last + 1) job) → first.job.number ≡ second.job.number → first.name ≡ second.name
  one_name first second (inl was_first) (inl was_second) same = more.sound.once first second was_first was_second same
  one_name first second (inl was_first) (inr new) same = absurd (omega (arith, was_drawn first was_first, new_number second new))
  one_name first second (inr new) (inl was_second) same = absurd (omega (arith, was_drawn second was_second, new_number first new))
  one_name first second (inr new_first) (inr new_second) same = ap (λ (file : JobFile). file.name) (new_first ∙ sym new_second)

  -- the files are sound
  sound_after : AreSound (last + 1) marks after
  sound_after = record {
    each = each_whole;
    once = λ first second is_first is_second same. one_name first second (was_there first is_first) (was_there second is_second) same;
    started = λ number queue second started undecided. started_kept number queue (more.sound.started number queue second started undecided);
  } where
    started_kept : (number queue : ℕ) → HasFile marks before number queue → HasFile marks after number queue
    started_kept number queue has =
        record { file = has.file; is = still_there has.file has.is; number_is = has.number_is; queue_is = has.queue_is }

  -- the entry of the file
  live_placed : (mail : Bool) → header_in job.script ≡ Some (job.user, mail)
      → live_entry marks (placed_file name (last + 1) job) ≡ (last + 1, Live job Pending)
  live_placed mail header =
      ap (λ since. (last + 1, Live (job_of (placed_file name (last + 1) job)) (state_since since)))
      (fresh_not_started last (last + 1) marks (omega arith) more.drawn)
      ∙ ap (λ found.
      (last + 1, Live (record { queue = job.queue; minute = job.minute; user = user_of found; script = job.script }) Pending)) header

  -- the number shows the job
  entry_placed : (mail : Bool) → header_in job.script ≡ Some (job.user, mail) → ShowsEntry marks after (last + 1) (Some (Live job Pending))
  entry_placed mail header =
      subst (λ decided. MatchBool decided (ShowsDone marks (last + 1) (Some (Live job Pending)))
      (ShowsLive marks after (last + 1) (Some (Live job Pending)))) (sym undecided)
      (placed_file name (last + 1) job, placed_is, live_placed mail header)

  -- each number shows its entry of the table
  entries_after_it : (mail : Bool) → header_in job.script ≡ Some (job.user, mail) → (entries : JobEntries)
      → ((number : ℕ) → ShowsEntry marks before number (map.get entries number)) → (number : ℕ)
      → ShowsEntry marks after number (map.get (map.insert entries (last + 1) (Live job Pending)) number)
  entries_after_it mail header entries shown number = elim (eqb_tells number (last + 1)) [
    | inl same ↦
        subst (λ (other : ℕ). ShowsEntry marks after other (map.get (map.insert entries (last + 1) (Live job Pending)) other)) (sym same.1)
        (subst (ShowsEntry marks after (last + 1)) (sym (get-put_same entries (last + 1) (Live job Pending))) (entry_placed mail header))
    | inr apart ↦ subst (ShowsEntry marks after number) (sym (get-put_other entries (last + 1) number (Live job Pending) apart.1))
        (entry_kept marks before after number (map.get entries number) (keeps number apart.1) (shown number))
  ]

pub accepted_by_name : (before after : Files) (table : JobTable) (job : Job) → ShowsByName before table → HasAccepted table job before after
    → ShowsByName after (after_steps table (Draw ∷ Accept (table.last + 1) job ∷ []))
accepted_by_name before after table job shows has =
    let marks : List Mark = shows.read.marks in
    let least : table.last ≤ table.last + 1 = omega arith in
    let same_journal : map.get after journal_file ≡ map.get before journal_file =
    has.others journal_file journal_apart (λ same. job_name_differs has.name journal_file _ has.named journal_no_job (sym same)) in
    let more : HasOneMore table.last marks has.name job before after = record {
      drawn = journal_drawn table.last (map.get before journal_file) shows.read (journal_read before table shows);
      sound = shows.sound;
      named = has.named;
      header = subst IsSome (sym has.header) refl;
      placed = has.placed;
      others = λ other named is apart.
          has.others other (job_name_apart temporary_file sequence_file other named temporary_no_job sequence_no_job is) apart;
    } in
    record {
      read = shows.read;
      last = last_spelled (map.get after sequence_file) (table.last + 1) has.number;
      journal = read_gives_journal (table.last + 1) (map.get after journal_file) shows.read (ap (journal_in (table.last + 1)) same_journal
          ∙ journal_more table.last (table.last + 1) (map.get before journal_file) shows.read least (journal_read before table shows));
      sound = sound_after table.last marks has.name job before after more;
      batch = shows.batch;
      entries = entries_after_it table.last marks has.name job before after more has.mail has.header table.entries shows.entries;
    }
