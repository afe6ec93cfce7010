-- The file of a live job holds its script.
use Rattle.std.proofs.Common.{◌≡◌, ◌<◌, ◌^◌, ℕ, Bool, true, false, List, length, take, drop, sym, ap, subst, ◌∙◌, refl, arith}
use Rattle.std.specs.Prelude.{Option, Some, None, IfSome, IsSome, MatchBool, option_map}
use Rattle.std.specs.FinMap as finite
use Rattle.std.proofs.lemmas.List.{take_all}
use Rattle.host_calls.specs.Directory.{Files, Directory, reading_of}
use Rattle.host_calls.specs.World.{bytes_from, size_of}
use Rattle.host_calls.proofs.DirectoryLemmas.{reading_is_image}
use Rattle.job_name.specs.JobName.{SpellsJobName, NamedJob, job_named}
use Rattle.spool_model.specs.declared.entry.Entry.TheVariants.{Live, Done}
use Rattle.spool_model.specs.declared.fate.Fate.{Fate}
use Rattle.spool_model.specs.declared.job.Job.{Job}
use Rattle.spool_model.specs.declared.row.Row.{Row}
use Rattle.spool_model.specs.JobTable.{JobEntry, JobState, JobTable, entry_at}
use Rattle.start_journal.specs.declared.mark.Mark.{Mark}
use Rattle.start_journal.specs.Marks.{is_decided}
use Rattle.step_runs.specs.WithoutScripts.{entry_without_script, job_without_script}
use Rattle.step_runs.specs.Current.{IsCurrent, Kept, is_new_form}
use Rattle.step_runs.proofs.WithoutScriptsLemmas.{entries_are_without_scripts}
use Rattle.spool_shows.specs.ByName.{IsJobFile, ShowsByName, ShowsDone, ShowsLive}
use Rattle.spool_shows.specs.JobFiles.{JobFile}
use Rattle.spool_shows.specs.Shown.{job_of, live_entry}
use Rattle.spool_shows.proofs.ShownEntries.{entry_left}
use Rattle.job_name.proofs.NamedJobs.{name_given, one_job_name}
use Rattle.spool_shows.proofs.StepLaws.{by_name}
use Rattle.spool_model.specs.Numbers.{number_digits}
use Rattle.spool_store.specs.Stored.{AreInOldForm}
use Rattle.spool_store.specs.Rows.{row_entry}
use Rattle.spool_store.specs.Scripts.{HoldsScript, IsLiveFileName, IsScriptOf}

-- a number has as many digits as the form of its name
pub fits_form : (old_form : List ℕ) (number : ℕ) (new_form : Bool) → AreInOldForm old_form → number < 2 ^ 32
    → new_form ≡ is_new_form old_form number → number < 16 ^ number_digits new_form
fits_form old_form number true old_form_are few form = omega (arith, few)
fits_form old_form number false old_form_are few form = old_form_are number (sym form)

-- the name that is spelled after a row is that of its file
pub row_is_file : (table : JobTable) (old_form : List ℕ) (number : ℕ) (row : Row) (name : List ℕ)
    → entry_at table number ≡ Some (row_entry row).1 → SpellsJobName name row.queue number row.minute (is_new_form old_form number)
    → IsLiveFileName table old_form number name
row_is_file table old_form number row name found spelled = record { job = _; state = row.state; lives = found; spelled = spelled }

-- The file of a number is there, and it shows this entry.
pub record HasEntryFile (marks : List Mark) (files : Files) (number : ℕ) (entry : JobEntry) : Type 0 where
  pub file : JobFile
  pub is : IsJobFile marks files file
  pub shows : live_entry marks file ≡ (number, entry)

-- a live job has its file
pub live_has_file : (files : Files) (table : JobTable) (shows : ShowsByName files table) (number : ℕ) (job : Job) (state : JobState)
    → entry_at table number ≡ Some (Live job state) → HasEntryFile shows.read.marks files number (Live job state)
live_has_file files table shows number job state lives =
    by_decided (is_decided number shows.read.marks)
    (subst (λ entry. MatchBool (is_decided number shows.read.marks) (ShowsDone shows.read.marks number entry)
    (ShowsLive shows.read.marks files number entry)) lives (shows.entries number)) where
      by_decided : (decided : Bool) → MatchBool decided (ShowsDone shows.read.marks number (Some (Live job state)))
          (ShowsLive shows.read.marks files number (Some (Live job state))) → HasEntryFile shows.read.marks files number (Live job state)
      by_decided true done =
          let left : (fate : Fate) × (Live job state ≡ Done fate) =
          (entry_left shows.read.marks number (Live job state) done.0 done.2).done in
          let impossible : Live job state ≡ Done left.0 = left.1 in
          cc
      by_decided false live = record { file = live.0; is = live.1; shows = live.2 }

-- The job under a number of a table whose scripts are left out.
record IsWholeOf (found : Option JobEntry) (job : Job) (state : JobState) : Type 0 where
  whole : Job
  is : found ≡ Some (Live whole state)
  without_scripts_is : job_without_script whole ≡ job

whole_of : (found : Option JobEntry) (job : Job) (state : JobState) → option_map entry_without_script found ≡ Some (Live job state)
    → IsWholeOf found job state
whole_of None job state is = let impossible : ◌≡◌ {A = Option JobEntry} None (Some (Live job state)) = is in cc
whole_of (Some (Done fate)) job state is = let impossible : ◌≡◌ {A = Option JobEntry} (Some (Done fate)) (Some (Live job state)) = is in cc
whole_of (Some (Live whole other)) job state is =
    let same : ◌≡◌ {A = Option JobEntry} (Some (Live (job_without_script whole) other)) (Some (Live job state)) = is in
    let states : other ≡ state = cc in
    record { whole = whole; is = ap (λ s. Some (Live whole s)) states; without_scripts_is = cc }

-- the file that shows a job has the name that is spelled after it
same_name : (file : JobFile) (name : List ℕ) (number : ℕ) (job : Job) (new_form : Bool) → job_named file.name ≡ Some file.job
    → file.job.number ≡ number → file.job.new_form ≡ new_form → job_without_script (job_of file) ≡ job
    → SpellsJobName name job.queue number job.minute new_form → name ≡ file.name
same_name file name number job new_form named number_is new_form_is without_scripts_is spelled =
    let given : NamedJob = record { queue = job.queue; number = number; minute = job.minute; new_form = new_form } in
    let queue_is : file.job.queue ≡ job.queue = ap (λ (of : Job). of.queue) without_scripts_is in
    let minute_is : file.job.minute ≡ job.minute = ap (λ (of : Job). of.minute) without_scripts_is in
    let job_is : file.job ≡ given =
    λ i. record { queue = queue_is i; number = number_is i; minute = minute_is i; new_form = new_form_is i } in
    one_job_name name file.name given (name_given name job.queue number job.minute new_form spelled) (named ∙ ap Some job_is)

-- where what is kept is current, the file of a live job holds its script
pub file_holds : (kept : Kept) (directory : Directory) (table : JobTable) (number : ℕ) (name : List ℕ) → IsCurrent kept directory table
    → IsLiveFileName kept.table kept.old_form number name → HoldsScript table directory number name
file_holds kept directory table number name current is_file =
    let shows : ShowsByName (reading_of directory) table =
    by_name (reading_of directory) table (current.shows (reading_of directory) (reading_is_image directory)) in
    let whole : IsWholeOf (entry_at table number) is_file.job is_file.state =
    whole_of (entry_at table number) is_file.job is_file.state (sym (entries_are_without_scripts table number)
    ∙ ap (λ at. entry_at at number) (sym current.without_scripts_is) ∙ is_file.lives) in
    let has : HasEntryFile shows.read.marks (reading_of directory) number (Live whole.whole is_file.state) =
    live_has_file (reading_of directory) table shows number whole.whole is_file.state whole.is in
    let number_is : has.file.job.number ≡ number = ap (λ (pair : ℕ × JobEntry). pair.0) has.shows in
    let entry_is : Live (job_of has.file) _ ≡ Live whole.whole is_file.state = ap (λ (pair : ℕ × JobEntry). pair.1) has.shows in
    let job_is : job_of has.file ≡ whole.whole = cc in
    let new_form_is : has.file.job.new_form ≡ is_new_form kept.old_form number =
    current.forms.each has.file.name has.file.job has.is.named (subst IsSome (sym has.is.held) refl)
    ∙ ap (is_new_form kept.old_form) number_is in
    let name_is : name ≡ has.file.name = same_name has.file name number is_file.job (is_new_form kept.old_form number) has.is.named
    number_is new_form_is (ap job_without_script job_is ∙ whole.without_scripts_is) is_file.spelled in
    record {
      bytes = has.file.bytes;
      held = ap (finite.get (reading_of directory)) name_is ∙ has.is.held;
      script = record { job = whole.whole; state = is_file.state; lives = whole.is; script = ap (λ (of : Job). of.script) job_is };
    }

-- what was read of that file, as long as it is, is the script
pub script_read : (table : JobTable) (directory : Directory) (number : ℕ) (name : List ℕ) (count : ℕ) (bytes : List ℕ)
    → HoldsScript table directory number name → size_of (reading_of directory) name ≡ Some count
    → bytes_from (reading_of directory) name 0 count ≡ Some bytes → IsScriptOf table number bytes
script_read table directory number name count bytes holds counted read =
    let long : Some (length holds.bytes) ≡ Some count = sym (ap (option_map length) holds.held) ∙ counted in
    let count_is : length holds.bytes ≡ count = cc in
    let part : Some (take count holds.bytes) ≡ Some bytes = sym (ap (option_map (λ whole. take count (drop 0 whole))) holds.held) ∙ read in
    let part_is : take count holds.bytes ≡ bytes = cc in
    let whole : holds.bytes ≡ bytes = sym (take_all count holds.bytes (omega arith)) ∙ part_is in
    subst (IsScriptOf table number) whole holds.script

-- a name that was found is that of such a file
pub found_holds : (table : JobTable) (directory : Directory) (number : ℕ) (found : Option (List ℕ)) (name : List ℕ) → found ≡ Some name
    → IfSome found (HoldsScript table directory number) → HoldsScript table directory number name
found_holds table directory number found name is holds = subst (λ given. IfSome given (HoldsScript table directory number)) is holds

pub file_is_there : (table : JobTable) (directory : Directory) (number : ℕ) (name : List ℕ) → HoldsScript table directory number name
    → IsSome (finite.get (reading_of directory) name)
file_is_there table directory number name holds = subst IsSome (sym holds.held) refl
