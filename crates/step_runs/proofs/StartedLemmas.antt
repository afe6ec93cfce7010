-- A start that the store made, and the host's call after it.
use Rattle.std.proofs.Common.{◌≡◌, ◌⊎◌, ℕ, ℤ, Bool, true, false, List, [], ◌∷◌, ◌++◌, append-nil, sym, ap, subst, ◌∙◌, refl, inl, inr}
use Rattle.std.specs.Prelude.{Option, Some, Ok, Err}
use Rattle.std.specs.FinMap as finite
use Rattle.host_calls.specs.declared.child.Handed.{Handed}
use Rattle.host_calls.specs.declared.fault.StartFault.TheVariants.{Failed, Memory}
use Rattle.host_calls.specs.Directory.{Files, Directory, IsImage}
use Rattle.host_calls.specs.World.{HandsOver, LeavesOnly, World, reading}
use Rattle.host_calls.proofs.WorldLemmas.{leaves_then, leaves_weaker}
use Rattle.queue_rules.specs.Queues.{niceness_of}
use Rattle.spool_model.specs.declared.entry.Entry.TheVariants.{Live}
use Rattle.spool_model.specs.declared.job.Job.{Job}
use Rattle.spool_model.specs.declared.state.State.TheVariants.{Running}
use Rattle.spool_model.specs.declared.step.Step.TheVariants.{Start}
use Rattle.spool_model.specs.JobTable.{JobEntry, JobState, JobTable, entry_at}
use Rattle.spool_model.specs.Steps.{IsLegal, after_step, with_state}
use Rattle.spool_model.proofs.TableLemmas.{get-put_same}
use Rattle.whole_file.specs.Others.{ChangesFiles}
use Rattle.step_runs.specs.Calls.{IsSteppingOn, KeepsOthers}
use Rattle.step_runs.specs.Current.{EachShows, IsCurrent, Kept}
use Rattle.step_runs.specs.Hands.{Hands, IsStartOf}
use Rattle.step_runs.specs.Made.{AreStopped, IsScriptFile, IsStarted}
use Rattle.step_runs.specs.MadeLaws.{StartsEnd}
use Rattle.step_runs.specs.Runs.{IsAlong, Runs}
use Rattle.step_runs.proofs.HandsLemmas.{one_by_now}
use Rattle.step_runs.proofs.MadeLemmas.{calls_stop_at_their_step, prefixes_changed, prefixes_then}
use Rattle.step_runs.proofs.RunLemmas.{one_step_is_a_run}

-- the job that runs since the start was pending before it
started_entry : (table : JobTable) (number : ℕ) (second : ℤ) (legal : IsLegal table (Start number second)) →
    entry_at (after_step table (Start number second)) number ≡ Some (Live legal.0 (Running second))
started_entry table number second legal =
    ap (λ found. finite.get (with_state number (Running second) found table.entries) number) legal.1
    ∙ get-put_same table.entries number (Live legal.0 (Running second))

same_job : (one other : Job) (state since : JobState)
    → ◌≡◌ {A = Option JobEntry} (Some (Live one state)) (Some (Live other since)) → one ≡ other
same_job one other state since is = cc

module _ (table : JobTable) (number : ℕ) (second : ℤ) (name : List ℕ) (nice : ℕ) (kept : Kept)
    (old middle new : World) (legal : IsLegal table (Start number second)) (shows : EachShows old.now.directory table)
    (call : ChangesFiles (IsSteppingOn table (Start number second ∷ []) old.now.directory) old middle) (current : IsCurrent kept
    middle.now.directory (after_step table (Start number second))) (others : KeepsOthers old.now.directory middle.now.directory)
    (file : IsScriptFile (after_step table (Start number second)) (reading middle) number name nice) where
  -- the run of the start alone
  run_of_start : Runs table (Start number second ∷ []) old middle
  run_of_start = one_step_is_a_run table (Start number second) old middle shows call

  job_is : file.job ≡ legal.0
  job_is = same_job file.job legal.0 file.state (Running second) (sym file.lives ∙ started_entry table number second legal)

  -- what is started is for this start
  is_start : (flag : Bool) (script : List ℕ) → finite.get (reading middle) name ≡ Some script →
      IsStartOf table number (record { number = number; script = script; nice = nice; started = flag })
  is_start flag script read =
      let same : Some script ≡ Some file.job.script = sym read ∙ file.held in
      let script_is : script ≡ file.job.script = cc in
      record {
        job = legal.0;
        pending = legal.1;
        number_is = refl;
        script = script_is ∙ ap (λ (job : Job). job.script) job_is;
        nice = file.nice_is ∙ ap (λ (job : Job). niceness_of job.queue) job_is;
      }

  -- the start is in each image of the directory
  abbrev holds : (image : Files) → IsImage middle.now.directory image
      → IsSteppingOn table (Start number second ∷ []) old.now.directory image
  holds image is = record {
    prefix = Start number second ∷ [];
    is_prefix = ([], refl);
    shows = current.shows image is;
    others = (run_of_start.now image is).stepping.others;
  }

  module _ (flag : Bool) (over : HandsOver number name nice flag middle.now new.now) where
    abbrev given : Handed
    given = record { number = number; script = over.script; nice = nice; started = flag }

    hands_it : Hands table (Start number second ∷ []) (given ∷ [])
    hands_it = (given ∷ [], [], (given, is_start flag over.script over.read, refl), refl, refl)

    grown : new.now.handed ≡ old.now.handed ++ given ∷ []
    grown = over.handed ∙ ap (λ (l : List Handed). l ++ given ∷ []) call.handed

    along : (image : Files) (handed : List Handed) → IsImage middle.now.directory image
        × ((handed ≡ middle.now.handed) ⊎ (handed ≡ new.now.handed)) →
        IsAlong table (Start number second ∷ []) old.now image handed
    along image handed (is, inl before) = record {
      stepping = holds image is;
      given = [];
      grown = before ∙ call.handed ∙ sym (append-nil old.now.handed);
      hands = one_by_now table (Start number second);
    }
    along image handed (is, inr after) =
        record { stepping = holds image is; given = given ∷ []; grown = after ∙ grown; hands = inl hands_it }

    at_moment : (image : Files) (handed : List Handed) → IsImage middle.now.directory image
        × ((handed ≡ middle.now.handed) ⊎ (handed ≡ new.now.handed)) →
        (rest : List Handed) × (new.now.handed ≡ handed ++ rest)
    at_moment image handed (is, inl before) = (given ∷ [], over.handed ∙ ap (λ (l : List Handed). l ++ given ∷ []) (sym before))
    at_moment image handed (is, inr after) = ([], sym after ∙ sym (append-nil handed))

    handed_over : new.now.directory ≡ middle.now.directory → new.asked ≡ middle.asked →
        LeavesOnly (λ image handed. IsImage middle.now.directory image
        × ((handed ≡ middle.now.handed) ⊎ (handed ≡ new.now.handed))) middle new →
        IsStarted table number second flag kept old new
    handed_over same asked leaves = record {
      handed = given;
      is = is_start flag over.script over.read;
      flagged = refl;
      made = record {
        through = record {
          run = record {
            leaves = leaves_then _ old middle new run_of_start.leaves (leaves_weaker _ _ middle new along leaves);
            now = λ image is. along image new.now.handed (subst (λ (of : Directory). IsImage of image) same is, inr refl);
          };
          whole = λ image is. current.shows image (subst (λ (of : Directory). IsImage of image) same is);
          handed = grown;
          hands = hands_it;
        };
        current = subst (λ (of : Directory). IsCurrent kept of (after_step table (Start number second))) (sym same) current;
        others = subst (KeepsOthers old.now.directory) (sym same) others;
        legal = (legal, tt);
        prefixes = prefixes_then old middle new (given ∷ [])
            (prefixes_changed (IsSteppingOn table (Start number second ∷ []) old.now.directory) old middle call)
            (leaves_weaker _ _ middle new at_moment leaves) over.handed;
        asked = asked ∙ call.asked ∙ sym (append-nil old.asked);
      };
    }

pub starts_end : StartsEnd
starts_end table number second name nice kept old middle new (Ok child) legal shows call current others file is =
    handed_over table number second name nice kept old middle new legal shows call current others file true is.outcome
    is.directory is.asked is.leaves
starts_end table number second name nice kept old middle new (Err Failed) legal shows call current others file is =
    handed_over table number second name nice kept old middle new legal shows call current others file false is.outcome
    is.directory is.asked is.leaves
starts_end table number second name nice kept old middle new (Err Memory) legal shows call current others file is =
    subst (AreStopped table [] (Start number second ∷ []) [] [] old) (sym is.outcome)
    (calls_stop_at_their_step table (Start number second) old middle legal shows call)
