use Rattle.host_calls.specs.StoreFaults.{store_fault_of}
use Rattle.cron_session.specs.inside.Due.{cron_jobs}
use Rattle.cron_session.proofs.MarkLemmas.{current_then}
use Rattle.cron_session.proofs.MarkedLemmas.{marks_at, marks_failed, marks_submitted}
use Rattle.cron_session.proofs.mark.mark_and_submit.Goals as goal

pub returns-in_err-place_mark : goal.returns-in_err-place_mark
returns-in_err-place_mark g c =
    marks_at _ _ _ _ _ _ _ _ _ _ (store_fault_of c.in_err-place_mark.field-0.0) c.from_residual.result c.from_residual.ensures.1
    (marks_failed g.H.Host.tells (g.H.Host.session c.args.host.now) (g.H.Host.session c.place_mark.new.host)
    (g.H.Host.world c.args.host.now) (g.H.Host.world c.place_mark.new.host)
    c.args.store c.args.minute (cron_jobs c.args.context.now c.args.minute c.args.due.now) c.args.numbers.now.items
    (λ known. c.in_err-place_mark.ensures.files known)
    c.in_err-place_mark.field-0.0 c.in_err-place_mark.ensures.inside)

pub submit_all-requires-clause-current : goal.submit_all-requires-clause-current
submit_all-requires-clause-current g c = λ known. (
  (c.requires.current known).0,
  current_then c.args.minute (c.requires.current known).0 c.args.store (g.H.Host.world c.args.host.now)
      (g.H.Host.world c.place_mark.new.host)
      (c.requires.current known).1 (c.in_ok-place_mark.ensures.files known) (c.in_ok-place_mark.ensures.placed known),
)

pub returns : goal.returns
returns g c =
    marks_submitted g.H.Host.tells (g.H.Host.session c.args.host.now) (g.H.Host.session c.place_mark.new.host)
    (g.H.Host.world c.args.host.now) (g.H.Host.world c.place_mark.new.host)
    c.args.store c.args.minute (cron_jobs c.args.context.now c.args.minute c.args.due.now) c.args.numbers.now.items
    (λ known. c.in_ok-place_mark.ensures.files known)
    (g.H.Host.session c.submit_all.new.host) (g.H.Host.world c.submit_all.new.host) c.submit_all.new.numbers.items c.submit_all.result
    c.in_ok-place_mark.ensures.inside (λ known. c.in_ok-place_mark.ensures.placed known) c.submit_all.ensures
