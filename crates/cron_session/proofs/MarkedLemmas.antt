-- The minute is marked, and then its jobs are submitted: what came of it.
use Rattle.std.proofs.Common.{◌≡◌, ◌∙◌, ℕ, Bool, true, List, [], append-nil, refl, sym, subst, arith}
use Rattle.std.specs.Prelude.{IfErr, IsErrAnd, Result, Ok, Err}
use Rattle.host_calls.specs.declared.fault.HostFault.{HostFault}
use Rattle.host_calls.specs.declared.fault.HostFault.TheVariants as host
use Rattle.host_calls.specs.Session.{CallsInside, Session}
use Rattle.host_calls.specs.World.{World}
use Rattle.host_calls.proofs.SessionLemmas.{counts_on}
use Rattle.spool_model.specs.declared.job.Job.{Job}
use Rattle.host_calls.specs.declared.store_fault.StoreFault.{StoreFault}
use Rattle.host_calls.specs.declared.store_fault.StoreFault.TheVariants.{FileFault, Memory}
use Rattle.host_calls.specs.StoreFaults.{IsOfStep, store_fault_of}
use Rattle.step_runs.specs.Current.{Kept}
use Rattle.whole_file.specs.Others.{ChangesFiles}
use Rattle.whole_file.specs.Placement.{IsPlaced}
use Rattle.cron_session.specs.Mark.{cron_mark_text}
use Rattle.cron_session.specs.MarkNames.{mark_file, mark_temp}
use Rattle.cron_session.specs.inside.MarkThenSubmit.{MarksAndSubmits}
use Rattle.cron_session.specs.inside.Submissions.{SubmitsAll}
use Rattle.cron_session.proofs.CauseLemmas.{memory_is_none}
use Rattle.cron_session.proofs.MarkLemmas.{IsMarking, current_then, mark_failed, submitted_marked}

-- a fault that is handed on
pub marks_at : (tells : Bool) (before after : Session) (old new : World) (kept : Kept) (minute : ℕ) (jobs : List Job) (was is : List ℕ)
    (fault : StoreFault) (result : Result (Unit {0}) StoreFault) → IsErrAnd result (λ other. other ≡ fault) →
    MarksAndSubmits tells before after old new kept minute jobs was is (Err fault)
    → MarksAndSubmits tells before after old new kept minute jobs was is result
marks_at tells before after old new kept minute jobs was is fault (Ok done) same marks = absurd same
marks_at tells before after old new kept minute jobs was is fault (Err other) same marks =
    subst (λ (of : StoreFault). MarksAndSubmits tells before after old new kept minute jobs was is (Err of)) (sym same) marks

module _ (tells : Bool) (before between : Session) (old middle : World) (kept : Kept) (minute : ℕ) (jobs : List Job) (was : List ℕ)
    (marks : tells ≡ true → ChangesFiles (IsMarking minute old.now.directory) old middle) where
  -- the mark could not be placed
  not_marked : (fault : StoreFault) → CallsInside {T = Unit {0}} FileFault before between (Err fault)
      → IfErr {T = Unit {0}} (Err fault) IsOfStep →
      MarksAndSubmits tells before between old middle kept minute jobs was was (Err fault)
  not_marked fault inside faults = record {
    inside = inside;
    faults = faults;
    part = record { made = []; next = []; later = jobs };
    is_part = record { are = refl; few = omega arith; all = tt };
    written = sym (append-nil was);
    leaves = λ known table current durable. mark_failed minute table jobs old middle fault current.shows (marks known);
  }

  pub marks_failed : (fault : HostFault) → CallsInside {T = Unit {0}} host.Failed before between (Err fault) →
      MarksAndSubmits tells before between old middle kept minute jobs was was (Err (store_fault_of fault))
  marks_failed host.Failed inside =
      not_marked FileFault
      (record { stays = inside.stays; cause = record { later = inside.cause.later; rose = λ bad. inside.cause.rose refl } }) tt
  marks_failed host.Memory inside =
      not_marked Memory
      (record { stays = inside.stays; cause = record { later = inside.cause.later; rose = λ bad. absurd (memory_is_none bad) } }) tt

  -- it was placed
  pub marks_submitted : (after : Session) (new : World) (is : List ℕ) (result : Result (Unit {0}) StoreFault)
      → CallsInside {T = Unit {0}} host.Failed before between (Ok tt) →
      (tells ≡ true → IsPlaced mark_temp mark_file (cron_mark_text minute) old.now.directory middle.now.directory)
      → SubmitsAll tells between after middle new kept jobs was is result →
      MarksAndSubmits tells before after old new kept minute jobs was is result
  marks_submitted after new is result inside mark submits = record {
    inside = record {
      stays = record {
        inside = submits.inside.stays.inside;
        children = submits.inside.stays.children ∙ inside.stays.children;
        counts = counts_on before between after inside.stays.counts submits.inside.stays.counts;
      };
      cause = record {
        later = omega (arith, inside.stays.counts.file_faults, submits.inside.cause.later);
        rose = λ bad. omega (arith, inside.stays.counts.file_faults, submits.inside.cause.rose bad);
      };
    };
    faults = submits.faults;
    part = submits.part;
    is_part = submits.is_part;
    written = submits.written;
    leaves = λ known table current durable.
        submitted_marked minute table kept old middle current (marks known) (mark known) jobs submits.part new result submits.is_part
        (submits.leaves known table (current_then minute table kept old middle current (marks known) (mark known)));
  }
