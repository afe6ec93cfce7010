-- A session of a crontab: the session of the host, and the work within it.
use Rattle.std.proofs.Common.{◌≡◌, ◌∙◌, ℕ, true, List, [], inl, refl, sym, subst, arith}
use Rattle.std.specs.Prelude.{IsTrue, Result, Ok, Err}
use Rattle.std.specs.Fn.{CalledAtMut}
use Rattle.at_words.specs.Numbers.{are_distinct}
use Rattle.host_calls.specs.Causes.{Rose}
use Rattle.host_calls.specs.declared.fault.EnterFault.{EnterFault}
use Rattle.host_calls.specs.declared.fault.EnterFault.TheVariants as entry
use Rattle.host_calls.specs.declared.host.Host.{Ghosts}
use Rattle.host_calls.specs.Session.{Session}
use Rattle.host_calls.specs.World.{World}
use Rattle.host_calls.specs.SessionWork.{Calls, EndsSession, IsWorkUndone}
use Rattle.host_calls.proofs.SessionLemmas.{counts_on}
use Rattle.host_calls.specs.declared.store_fault.StoreFault.{StoreFault}
use Rattle.host_calls.specs.declared.store_fault.StoreFault.TheVariants as fault
use Rattle.whole_file.proofs.OthersLemmas.{changes_none}
use Rattle.cron_session.specs.declared.report.CronEnd.{CronEnd}
use Rattle.cron_session.specs.declared.report.CronEnd.TheVariants.{Busy, FileFault, Memory}
use Rattle.cron_session.specs.SessionOutcome.{CronAt, CronLeaves, CronsTo, IsCronIdle, IsUnmarked}
use Rattle.cron_session.specs.Steps.{Cron}
use Rattle.cron_session.specs.inside.SessionWork.{CronWorks, cron_end_after, end_of_cron_session}

abbrev stand : Session → World → CronAt
stand session world = record { session = session; world = world }

-- where nothing changed, nothing was submitted
idle_same : (old new : World) → new ≡ old → IsCronIdle [] old new
idle_same old new same =
    subst (IsCronIdle [] old) (sym same) (record { none = refl; unmarked = changes_none (IsUnmarked old.now.directory) old })

not_busy : (result : Result (Unit {0}) StoreFault) → cron_end_after result ≡ Busy → ⊥
not_busy (Ok done) is = cc
not_busy (Err fault.FileFault) is = cc
not_busy (Err (fault.Damaged damage)) is = cc
not_busy (Err fault.Memory) is = cc
not_busy (Err fault.QueueFull) is = cc
not_busy (Err fault.NumbersUsedUp) is = cc

is_fault : (result : Result (Unit {0}) StoreFault) → cron_end_after result ≡ FileFault → result ≡ Err fault.FileFault
is_fault (Ok done) is = cc
is_fault (Err fault.FileFault) is = refl
is_fault (Err (fault.Damaged damage)) is = cc
is_fault (Err fault.Memory) is = cc
is_fault (Err fault.QueueFull) is = cc
is_fault (Err fault.NumbersUsedUp) is = cc

-- What came of the session: it could not begin, or the work was done in it.
module _ {H F : Type 0} (g : Ghosts H) (calls : Calls H F (Result (Unit {0}) StoreFault)) (work left : F) (old new : H)
    (cron : Cron) (numbers : List ℕ)
    (still : left ≡ work → numbers ≡ [])
    (within : (first last : H) (done : Result (Unit {0}) StoreFault) → CalledAtMut calls work first done left last →
    CronWorks g.tells cron (stand (g.session first) (g.world first)) (stand (g.session last) (g.world last)) numbers done) where
  abbrev Ended : List ℕ → CronEnd → Type 0
  Ended of end = CronsTo g.tells g.alone cron (stand (g.session old) (g.world old)) (stand (g.session new) (g.world new)) end of

  -- it could not begin
  module _ (of : EnterFault) (undone : IsWorkUndone g work left old new of) where
    none : numbers ≡ []
    none = still undone.same

    at_none : (end : CronEnd) → Ended [] end → Ended numbers end
    at_none end ended = subst (λ (l : List ℕ). Ended l end) (sym none) ended

    same : g.tells ≡ true → g.alone ≡ true → g.world new ≡ g.world old
    same = undone.refused.quiet.alone

  pub cron_of_session : (result : Result (Result (Unit {0}) StoreFault) EnterFault) → EndsSession g calls work left old new result
      → Ended numbers (end_of_cron_session result)
  cron_of_session (Ok done) ends =
      let works : CronWorks g.tells cron (stand (g.session ends.first) (g.world ends.first))
      (stand (g.session ends.last) (g.world ends.last)) numbers done =
      within ends.first ends.last done ends.did in
      record {
        left = record {
          outside = ends.over.outside;
          children = ends.over.children ∙ works.inside.stays.children ∙ ends.begun.children;
          counts = counts_on (g.session old) (g.session ends.first) (g.session new) ends.begun.counts
              (counts_on (g.session ends.first) (g.session ends.last) (g.session new) works.inside.stays.counts ends.over.counts);
        };
        busy = λ bad. absurd (not_busy done bad);
        fault = λ bad.
            let rose : Rose (g.session ends.first).file_faults (g.session ends.last).file_faults =
            works.inside.cause.rose (is_fault done bad) in
            omega (arith, ends.begun.counts.file_faults, rose, ends.over.counts.file_faults);
        unread = works.unread;
        leaves = λ known is_alone.
            subst (λ (world : World). CronLeaves cron numbers world (g.world new) (cron_end_after done))
            (ends.begun.quiet.alone known is_alone)
            (subst (λ (world : World). CronLeaves cron numbers (g.world ends.first) world (cron_end_after done))
            (sym (ends.quiet.alone known is_alone)) (works.leaves known));
      }
  cron_of_session (Err entry.Taken) undone = at_none entry.Taken undone Busy (record {
    left = undone.refused.left;
    busy = λ bad. undone.refused.taken refl;
    fault = λ bad. absurd (let impossible : Busy ≡ FileFault = bad in cc);
    unread = refl;
    leaves = λ known is_alone. (refl, undone.refused.quiet.alone known is_alone);
  })
  cron_of_session (Err entry.Failed) undone = at_none entry.Failed undone FileFault (record {
    left = undone.refused.left;
    busy = λ bad. absurd (let impossible : FileFault ≡ Busy = bad in cc);
    fault = λ bad. undone.refused.failed refl;
    unread = tt;
    leaves = λ known is_alone. inl (idle_same (g.world old) (g.world new) (undone.refused.quiet.alone known is_alone));
  })
  cron_of_session (Err entry.Memory) undone = at_none entry.Memory undone Memory (record {
    left = undone.refused.left;
    busy = λ bad. absurd (let impossible : Memory ≡ Busy = bad in cc);
    fault = λ bad. absurd (let impossible : Memory ≡ FileFault = bad in cc);
    unread = tt;
    leaves = λ known is_alone. inl (idle_same (g.world old) (g.world new) (undone.refused.quiet.alone known is_alone));
  })

  -- the numbers are distinct
  pub distinct_of_session : (result : Result (Result (Unit {0}) StoreFault) EnterFault) → EndsSession g calls work left old new result
      → IsTrue (are_distinct numbers)
  distinct_of_session (Ok done) ends = (within ends.first ends.last done ends.did).distinct
  distinct_of_session (Err of) undone = subst (λ (l : List ℕ). are_distinct l ≡ true) (sym (still undone.same)) refl
