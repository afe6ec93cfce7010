-- What steps that do one thing start is for jobs.
use Rattle.std.proofs.Common.{◌≡◌, ◌++◌, ℕ, ℤ, true, false, List, [], ◌∷◌, sym, ap, subst, ◌∙◌, inl, inr, All}
use Rattle.std.specs.Prelude.{is_some}
use Rattle.std.proofs.lemmas.List.Elements.{All-cons, All-contains, All-contains_itself, All-nil, All-weaker}
use Rattle.host_calls.specs.declared.child.Handed.{Handed}
use Rattle.host_calls.specs.Directory.{Files}
use Rattle.job_script.specs.HeaderIn.{header_in}
use Rattle.spool_model.specs.declared.state.State.TheVariants.{Pending}
use Rattle.spool_model.specs.declared.step.Step.{Step}
use Rattle.spool_model.specs.declared.step.Step.TheVariants.{Draw, Accept, Remove, Start, End, Interrupt, Forget}
use Rattle.spool_model.specs.JobTable.{JobTable}
use Rattle.spool_model.specs.Steps.{AreLegal, FollowDraws, IsPrefix, after_step, after_steps}
use Rattle.spool_shows.specs.Laws.{HasItsHeader}
use Rattle.spool_shows.specs.Shown.{Shows}
use Rattle.spool_shows.proofs.ShownHeaders.{shown_jobs_have_headers}
use Rattle.spool_shows.proofs.SoundTables.{shown_tables_are_sound}
use Rattle.step_runs.specs.Hands.{Hands, HandsByNow, StartNothing}
use Rattle.headline.specs.Headline.{IsScriptOfJob}
use Rattle.headline.proofs.GoodMoments.{good_prefix}
use Rattle.headline.proofs.GoodTables.{IsGood, good_opening}
use Rattle.later_day.specs.LaterEffects.{AcceptNothing, DoOneThing, is_of_job, of_jobs}
use Rattle.later_day.proofs.OnlyJobs.{jobs_stay}

-- Steps that start no job.

-- the first of steps that start nothing start nothing
first_start_nothing : (prefix rest : List Step) → StartNothing (prefix ++ rest) → StartNothing prefix
first_start_nothing [] rest quiet = tt
first_start_nothing (Draw ∷ later) rest quiet = first_start_nothing later rest quiet
first_start_nothing (Accept number job ∷ later) rest quiet = first_start_nothing later rest quiet
first_start_nothing (Remove number ∷ later) rest quiet = first_start_nothing later rest quiet
first_start_nothing (Start number second ∷ later) rest quiet = absurd quiet
first_start_nothing (End number ending ∷ later) rest quiet = first_start_nothing later rest quiet
first_start_nothing (Interrupt number ∷ later) rest quiet = first_start_nothing later rest quiet
first_start_nothing (Forget number ∷ later) rest quiet = first_start_nothing later rest quiet

-- the last of them is no start
last_starts_nothing : (earlier : List Step) (number : ℕ) (second : ℤ) → StartNothing (earlier ++ Start number second ∷ []) → ⊥
last_starts_nothing [] number second quiet = quiet
last_starts_nothing (Draw ∷ later) number second quiet = last_starts_nothing later number second quiet
last_starts_nothing (Accept other job ∷ later) number second quiet = last_starts_nothing later number second quiet
last_starts_nothing (Remove other ∷ later) number second quiet = last_starts_nothing later number second quiet
last_starts_nothing (Start other at ∷ later) number second quiet = quiet
last_starts_nothing (End other ending ∷ later) number second quiet = last_starts_nothing later number second quiet
last_starts_nothing (Interrupt other ∷ later) number second quiet = last_starts_nothing later number second quiet
last_starts_nothing (Forget other ∷ later) number second quiet = last_starts_nothing later number second quiet

-- and they start nothing
hand_nothing : (table : JobTable) (steps : List Step) (given : List Handed) → StartNothing steps → Hands table steps given → given ≡ []
hand_nothing table [] given quiet hands = hands
hand_nothing table (Draw ∷ later) given quiet (first, rest, one, hands, both) =
    both ∙ ap (λ (l : List Handed). l ++ rest) one ∙ hand_nothing (after_step table Draw) later rest quiet hands
hand_nothing table (Accept number job ∷ later) given quiet (first, rest, one, hands, both) =
    both ∙ ap (λ (l : List Handed). l ++ rest) one ∙ hand_nothing (after_step table (Accept number job)) later rest quiet hands
hand_nothing table (Remove number ∷ later) given quiet (first, rest, one, hands, both) =
    both ∙ ap (λ (l : List Handed). l ++ rest) one ∙ hand_nothing (after_step table (Remove number)) later rest quiet hands
hand_nothing table (Start number second ∷ later) given quiet hands = absurd quiet
hand_nothing table (End number ending ∷ later) given quiet (first, rest, one, hands, both) =
    both ∙ ap (λ (l : List Handed). l ++ rest) one ∙ hand_nothing (after_step table (End number ending)) later rest quiet hands
hand_nothing table (Interrupt number ∷ later) given quiet (first, rest, one, hands, both) =
    both ∙ ap (λ (l : List Handed). l ++ rest) one ∙ hand_nothing (after_step table (Interrupt number)) later rest quiet hands
hand_nothing table (Forget number ∷ later) given quiet (first, rest, one, hands, both) =
    both ∙ ap (λ (l : List Handed). l ++ rest) one ∙ hand_nothing (after_step table (Forget number)) later rest quiet hands

hand_nothing_by_now : (table : JobTable) (steps : List Step) (given : List Handed) → StartNothing steps → HandsByNow table steps given →
    given ≡ []
hand_nothing_by_now table steps given quiet by_now = elim by_now [
  | inl all ↦ hand_nothing table steps given quiet all
  | inr lacks ↦ absurd (last_starts_nothing lacks.earlier lacks.number lacks.second (subst StartNothing lacks.ends quiet))
]

-- Steps that accept no job.

-- the step is no accept
abbrev IsNoAccept : Step → Type 0
IsNoAccept (Accept number job) = ⊥
IsNoAccept Draw = Unit {0}
IsNoAccept (Remove number) = Unit {0}
IsNoAccept (Start number second) = Unit {0}
IsNoAccept (End number ending) = Unit {0}
IsNoAccept (Interrupt number) = Unit {0}
IsNoAccept (Forget number) = Unit {0}

none_accepts : (steps : List Step) → AcceptNothing steps → All IsNoAccept steps
none_accepts [] quiet = All-nil IsNoAccept
none_accepts (Draw ∷ later) quiet = All-cons IsNoAccept Draw later tt (none_accepts later quiet)
none_accepts (Accept number job ∷ later) quiet = absurd quiet
none_accepts (Remove number ∷ later) quiet = All-cons IsNoAccept (Remove number) later tt (none_accepts later quiet)
none_accepts (Start number second ∷ later) quiet = All-cons IsNoAccept (Start number second) later tt (none_accepts later quiet)
none_accepts (End number ending ∷ later) quiet = All-cons IsNoAccept (End number ending) later tt (none_accepts later quiet)
none_accepts (Interrupt number ∷ later) quiet = All-cons IsNoAccept (Interrupt number) later tt (none_accepts later quiet)
none_accepts (Forget number ∷ later) quiet = All-cons IsNoAccept (Forget number) later tt (none_accepts later quiet)

-- the script of a job that was pending begins with its header
of_shown_job : (files : Files) (table : JobTable) (steps : List Step) (handed : Handed) → Shows files table → AcceptNothing steps →
    IsScriptOfJob table steps handed → is_of_job handed ≡ true
of_shown_job files table steps handed shows quiet is = elim is.of_job [
  | inl pending ↦
      let header : HasItsHeader is.job = shown_jobs_have_headers files table handed.number is.job Pending shows pending in
      ap (λ (script : List ℕ). is_some (header_in script)) is.script ∙ ap is_some header.1
  | inr accepted ↦ absurd (All-contains IsNoAccept steps (Accept handed.number is.job) (none_accepts steps quiet) accepted)
]

-- Both.

-- what a prefix of the steps starts is for jobs
pub given_are_of_jobs : (files : Files) (table : JobTable) (steps prefix : List Step) (given : List Handed) → Shows files table →
    AreLegal table steps → FollowDraws false steps → DoOneThing steps → IsPrefix prefix steps → HandsByNow table prefix given →
    of_jobs given ≡ given
given_are_of_jobs files table steps prefix given shows legal follow one is by_now = elim one [
  | inl starts ↦
      let none : given ≡ [] =
      hand_nothing_by_now table prefix given (first_start_nothing prefix is.0 (subst StartNothing is.1 starts)) by_now in
      ap of_jobs none ∙ sym none
  | inr accepts ↦
      let good : IsGood table steps false given (after_steps table prefix) =
      good_prefix table steps [] given table steps prefix legal follow (All-contains_itself steps) is by_now
      (good_opening table steps (shown_tables_are_sound files table shows)) in
      jobs_stay given (All-weaker (IsScriptOfJob table steps) (λ handed. is_of_job handed ≡ true)
      (λ handed of_job. of_shown_job files table steps handed shows accepts of_job) given good.of_jobs)
]
