-- What a directory shows of one number, as its entry says, and kept where the marks of the number and
-- the files of jobs are the same.
use Rattle.std.proofs.Common.{◌≡◌, ℕ, Bool, true, false, cond, List, Option, Some, None, sym, ap, subst, ◌∙◌, refl, arith, inl, inr}
use Rattle.std.specs.Prelude.{◌==◌, MatchBool}
use Rattle.std.specs.FinMap as map
use Rattle.std.proofs.lemmas.Bool.Decides.{nat_tests}
use Rattle.host_calls.specs.Directory.{Files}
use Rattle.whole_file.specs.Temporary.{temporary_file}
use Rattle.spool_model.specs.declared.entry.Entry.TheVariants.{Live, Done}
use Rattle.spool_model.specs.declared.fate.Fate.{Fate}
use Rattle.spool_model.specs.declared.fate.Fate.TheVariants as fate
use Rattle.spool_model.specs.JobTable.{JobEntry}
use Rattle.start_journal.specs.declared.mark.Mark.{Mark}
use Rattle.start_journal.specs.declared.mark.Mark.TheVariants.{Removed, Started, Ended, Interrupted, Forgotten, Batch}
use Rattle.start_journal.specs.Journals.{journal_file}
use Rattle.start_journal.specs.Marks.{decides, is_decided, is_forgotten, started_at}
use Rattle.start_journal.proofs.MarkLemmas.{decides_names}
use Rattle.whole_file.specs.Others.{IsEither}
use Rattle.spool_shows.specs.ByName.{IsJobFile, ShowsDone, ShowsEntry, ShowsLive}
use Rattle.spool_shows.specs.JobFiles.{JobFile}
use Rattle.job_name.specs.JobName.{NamedJob, job_named}
use Rattle.spool_shows.specs.Laws.{AgreeElsewhere}
use Rattle.spool_shows.specs.Shown.{done_as, done_entry, job_of, live_entry, state_since}
use Rattle.spool_shows.proofs.MarkTests.{TellSame}

-- what is the same under Some is the same
pub some_same : {X : Type 0} {one other : X} → Some one ≡ Some other → one ≡ other
some_same same = cc

-- equal numbers pass the test
pub passes_same : (one other : ℕ) → one ≡ other → (one == other) ≡ true
passes_same one other same = grind (arith, nat_tests)

-- different ones do not
pub fails_other : (one other : ℕ) → ¬ (one ≡ other) → (one == other) ≡ false
fails_other one other differ = grind (arith, nat_tests)

-- The files of jobs.

-- under each name of a job the directories have the same
abbrev pub SameJobs : Files → Files → Type 0
SameJobs one other = (name : List ℕ) (job : NamedJob) → job_named name ≡ Some job → map.get other name ≡ map.get one name

pub same_back : (one other : Files) → SameJobs one other → SameJobs other one
same_back one other same name job named = sym (same name job named)

-- neither the journal nor a file that is being made has the name of a job
job_elsewhere : (name : List ℕ) (job : NamedJob) → job_named name ≡ Some job → ¬ (IsEither temporary_file journal_file name)
job_elsewhere name job named (inl same) = let impossible : None ≡ Some job = sym (ap job_named same) ∙ named in cc
job_elsewhere name job named (inr same) = let impossible : None ≡ Some job = sym (ap job_named same) ∙ named in cc

pub same_jobs : (one other : Files) → AgreeElsewhere temporary_file journal_file one other → SameJobs one other
same_jobs one other others name job named = others name (job_elsewhere name job named)

-- a file of a job is one in the other directory too, where its number is not finished there
pub file_moves : (marks later : List Mark) (one other : Files) → SameJobs one other → (file : JobFile) → IsJobFile marks one file
    → is_decided file.job.number later ≡ false → IsJobFile later other file
file_moves marks later one other same file is undecided = record {
  held = same file.name file.job is.named ∙ is.held;
  named = is.named;
  undecided = undecided;
}

-- The entry of a number that is finished.

-- the mark decides the number, which is not forgotten, and leaves its entry
pub record LeavesEntry (marks : List Mark) (number : ℕ) (entry : JobEntry) (mark : Mark) : Type 0 where
  pub decides : decides number mark ≡ true
  pub remembered : is_forgotten number marks ≡ false
  pub done : (fate : Fate) × (entry ≡ Done fate)
  pub always : (list : List Mark) → is_forgotten number list ≡ false → done_entry list mark ≡ Some (number, entry)

-- what a mark of the number leaves by its fate
pub leaves_as : (list : List Mark) (other number : ℕ) (fate : Fate) → other ≡ number → is_forgotten number list ≡ false
    → done_as list other fate ≡ Some (number, Done fate)
leaves_as list other number fate same remembered =
    ap (λ b. cond b None (Some (other, Done fate))) (ap (λ n. is_forgotten n list) same ∙ remembered) ∙ ap (λ n. Some (n, Done fate)) same

-- what is known by an entry that a mark leaves
record LeavesAs (marks : List Mark) (other number : ℕ) (entry : JobEntry) (fate : Fate) : Type 0 where
  same : other ≡ number
  remembered : is_forgotten number marks ≡ false
  is : entry ≡ Done fate

known_as : (marks : List Mark) (other number : ℕ) (fate : Fate) (entry : JobEntry) → done_as marks other fate ≡ Some (number, entry)
    → LeavesAs marks other number entry fate
known_as marks other number fate entry leaves = by_test (is_forgotten other marks) refl leaves where
  by_test : (forgotten : Bool) → is_forgotten other marks ≡ forgotten → cond {A = Option (ℕ × JobEntry)} forgotten None
      (Some (other, Done fate)) ≡ Some (number, entry) → LeavesAs marks other number entry fate
  by_test true is leaves = cc
  by_test false is leaves =
      let same : other ≡ number = ap (λ (row : ℕ × JobEntry). row.0) (some_same leaves) in
      record {
        same = same;
        remembered = ap (λ n. is_forgotten n marks) (sym same) ∙ is;
        is = sym (ap (λ (row : ℕ × JobEntry). row.1) (some_same leaves));
      }

-- the entry of a number says this of the mark that left it
pub entry_left : (marks : List Mark) (number : ℕ) (entry : JobEntry) (mark : Mark) → done_entry marks mark ≡ Some (number, entry)
    → LeavesEntry marks number entry mark
entry_left marks number entry (Removed other) leaves =
    let known = known_as marks other number fate.Removed entry leaves in
    record {
      decides = passes_same other number known.same;
      remembered = known.remembered;
      done = (fate.Removed, known.is);
      always = λ list remembered. leaves_as list other number fate.Removed known.same remembered
          ∙ ap (λ e. Some (number, e)) (sym known.is);
    }
entry_left marks number entry (Ended other ending) leaves =
    let known = known_as marks other number (fate.Finished ending) entry leaves in
    record {
      decides = passes_same other number known.same;
      remembered = known.remembered;
      done = (fate.Finished ending, known.is);
      always = λ list remembered. leaves_as list other number (fate.Finished ending) known.same remembered
          ∙ ap (λ e. Some (number, e)) (sym known.is);
    }
entry_left marks number entry (Interrupted other) leaves =
    let known = known_as marks other number fate.Interrupted entry leaves in
    record {
      decides = passes_same other number known.same;
      remembered = known.remembered;
      done = (fate.Interrupted, known.is);
      always = λ list remembered. leaves_as list other number fate.Interrupted known.same remembered
          ∙ ap (λ e. Some (number, e)) (sym known.is);
    }
entry_left marks number entry (Started other queue second) leaves = cc
entry_left marks number entry (Forgotten other) leaves = cc
entry_left marks number entry (Batch second) leaves = cc

pub done_moves : (number : ℕ) (marks later : List Mark) (entry : Option JobEntry) → TellSame number marks later
    → ShowsDone marks number entry → ShowsDone later number entry
done_moves number marks later None same shows = same.forgotten ∙ shows
done_moves number marks later (Some entry) same (mark, there, leaves) =
    let left = entry_left marks number entry mark leaves in
    (mark, same.contained mark (decides_names number mark left.decides) there, left.always later (same.forgotten ∙ left.remembered))

-- The entry of a number that is not finished.

live_same : (marks later : List Mark) (file : JobFile) (number : ℕ) → file.job.number ≡ number
    → started_at number later ≡ started_at number marks → live_entry later file ≡ live_entry marks file
live_same marks later file number is same =
    ap (λ since. (file.job.number, Live (job_of file) (state_since since))) (ap (λ n. started_at n later) is ∙ same
    ∙ sym (ap (λ n. started_at n marks) is))

pub live_moves : (number : ℕ) (marks later : List Mark) (one other : Files) (entry : Option JobEntry) → SameJobs one other
    → TellSame number marks later → is_decided number marks ≡ false → ShowsLive marks one number entry → ShowsLive later other number entry
live_moves number marks later one other None files same undecided none =
    λ file is number_is. none file
    (file_moves later marks other one (same_back one other files) file is (ap (λ n. is_decided n marks) number_is ∙ undecided)) number_is
live_moves number marks later one other (Some entry) files same undecided (file, is, shows) =
    let number_is : file.job.number ≡ number = ap (λ row. row.0) shows in (
      file,
      file_moves marks later one other files file is (ap (λ n. is_decided n later) number_is ∙ same.decided ∙ undecided),
      live_same marks later file number number_is same.started ∙ shows,
    )

-- The entry of a number.

pub shows_done : (marks : List Mark) (files : Files) (number : ℕ) (entry : Option JobEntry) → is_decided number marks ≡ true
    → ShowsDone marks number entry → ShowsEntry marks files number entry
shows_done marks files number entry is shows =
    subst (λ b. MatchBool b (ShowsDone marks number entry) (ShowsLive marks files number entry)) (sym is) shows

pub shows_live : (marks : List Mark) (files : Files) (number : ℕ) (entry : Option JobEntry) → is_decided number marks ≡ false
    → ShowsLive marks files number entry → ShowsEntry marks files number entry
shows_live marks files number entry is shows =
    subst (λ b. MatchBool b (ShowsDone marks number entry) (ShowsLive marks files number entry)) (sym is) shows
