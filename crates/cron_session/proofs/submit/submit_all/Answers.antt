use Rattle.std.proofs.Common.{◌≡◌, ◌+◌, ◌≤◌, ℕ, List, append-nil, arith, length, subst, sym}
use Rattle.std.specs.Prelude.{Ok, Err}
use Rattle.spool_model.specs.declared.job.Job.{Job}
use Rattle.cron_session.specs.inside.Submissions.{SubmitsOne}
use Rattle.spool_model.specs.Lists.{live_count}
use Rattle.host_calls.proofs.SessionLemmas.{stays_inside}
use Rattle.cron_session.specs.inside.Due.{cron_job, cron_jobs}
use Rattle.cron_session.proofs.SubmitLemmas.{none_so_far}
use Rattle.cron_session.proofs.LoopLemmas.{all_submitted, last_more, live_more, stays_on, stopped_submitting, submits_at, submitted_more, written_more}
use Rattle.cron_session.proofs.submit.submit_all.Goals as goal

pub loop-commands-init : goal.loop-commands-init
loop-commands-init g c = record {
  inside = stays_inside (g.H.Host.session c.args.host.now) c.requires.inside;
  last = omega arith;
  live = c.requires.room.room;
  written = sym (append-nil c.args.numbers.now.items);
  room = omega (arith, c.requires.numbers);
  so_far = λ known table current.
      none_so_far table (cron_jobs c.args.context.now c.args.minute c.args.due.now) c.args.store (g.H.Host.world c.args.host.now) current;
}

pub submit_entry-requires-clause-current : goal.submit_entry-requires-clause-current
submit_entry-requires-clause-current g c = λ known.
    (_, (c.loop-commands.invariant.so_far known (c.requires.current known).0 (c.requires.current known).1).current)

pub returns-in_err-next : goal.returns-in_err-next
returns-in_err-next g c =
    submits_at g.H.Host.tells (g.H.Host.session c.args.host.now) (g.H.Host.session c.submit_entry.new.host) (g.H.Host.world c.args.host.now)
    (g.H.Host.world c.submit_entry.new.host)
    c.args.store (cron_jobs c.args.context.now c.args.minute c.args.due.now) c.args.numbers.now.items c.loop-commands.numbers.items
    c.in_err-next.field-0.0 c.from_residual.result
    c.from_residual.ensures.1
    (stopped_submitting g.H.Host.tells (g.H.Host.session c.args.host.now) (g.H.Host.session c.loop-commands.host)
    (g.H.Host.world c.args.host.now) (g.H.Host.world c.loop-commands.host)
    c.args.store c.loop-commands.store c.args.context.now c.args.minute c.args.due.now c.loop-commands.commands-index c.commands-item.result
    c.loop-commands-test.true c.commands-item.is
    (g.H.Host.session c.submit_entry.new.host) (g.H.Host.world c.submit_entry.new.host) c.args.numbers.now.items
    c.loop-commands.numbers.items c.in_err-next.field-0.0
    c.loop-commands.invariant.inside c.loop-commands.invariant.written c.loop-commands.invariant.so_far
    (subst (λ (of : List ℕ). SubmitsOne g.H.Host.tells (g.H.Host.session c.loop-commands.host) (g.H.Host.session c.submit_entry.new.host)
    (g.H.Host.world c.loop-commands.host) (g.H.Host.world c.submit_entry.new.host)
    c.loop-commands.store (cron_job c.args.context.now c.args.minute of) (Err c.in_err-next.field-0.0))
    c.as_slice.ensures c.in_err-next.ensures))

pub loop-commands-preserved : goal.loop-commands-preserved
loop-commands-preserved g c =
    let job : Job = cron_job c.args.context.now c.args.minute c.as_slice.result.now in
    let last : c.in_ok-next.next.table.last ≡ c.loop-commands.store.table.last + 1 =
    last_more c.loop-commands.store c.in_ok-next.next job c.in_ok-next.ensures.table_is in
    let live : live_count c.in_ok-next.next.table ≤ live_count c.loop-commands.store.table + 1 =
    live_more c.loop-commands.store c.in_ok-next.next job c.in_ok-next.ensures.table_is in
    record {
      inside = stays_on (g.H.Host.session c.args.host.now) (g.H.Host.session c.loop-commands.host)
          (g.H.Host.session c.submit_entry.new.host) c.loop-commands.invariant.inside c.in_ok-next.ensures.inside.stays;
      last = omega (arith, last, c.loop-commands.invariant.last);
      live = omega (arith, live, c.loop-commands.invariant.live);
      written = written_more c.args.store.table.last c.loop-commands.commands-index c.in_ok-next.number c.loop-commands.store.table.last
          c.args.numbers.now.items c.loop-commands.numbers.items
          c.push_reserved.new.self.items c.loop-commands.invariant.last c.loop-commands.invariant.written c.in_ok-next.ensures.number
          c.push_reserved.ensures.items;
      room = omega (arith, c.loop-commands.invariant.room, c.push_reserved.ensures.len, c.push_reserved.ensures.capacity);
      so_far = submitted_more g.H.Host.tells (g.H.Host.session c.args.host.now) (g.H.Host.session c.loop-commands.host)
          (g.H.Host.world c.args.host.now) (g.H.Host.world c.loop-commands.host)
          c.args.store c.loop-commands.store c.args.context.now c.args.minute c.args.due.now c.loop-commands.commands-index
          c.commands-item.result c.loop-commands-test.true c.commands-item.is
          (g.H.Host.session c.submit_entry.new.host) (g.H.Host.world c.submit_entry.new.host) c.in_ok-next.next c.in_ok-next.number
          c.loop-commands.invariant.so_far
          (subst (λ (of : List ℕ). SubmitsOne g.H.Host.tells (g.H.Host.session c.loop-commands.host)
          (g.H.Host.session c.submit_entry.new.host) (g.H.Host.world c.loop-commands.host) (g.H.Host.world c.submit_entry.new.host)
          c.loop-commands.store (cron_job c.args.context.now c.args.minute of) (Ok (c.in_ok-next.next, c.in_ok-next.number)))
          c.as_slice.ensures c.in_ok-next.ensures);
    }

pub returns : goal.returns
returns g c =
    let whole : c.loop-commands.commands-index ≡ length c.args.due.now = omega arith in
    all_submitted g.H.Host.tells (g.H.Host.session c.args.host.now) (g.H.Host.session c.loop-commands.host) (g.H.Host.world c.args.host.now)
    (g.H.Host.world c.loop-commands.host)
    c.args.store c.loop-commands.store c.args.context.now c.args.minute c.args.due.now c.loop-commands.commands-index
    c.args.numbers.now.items c.loop-commands.numbers.items whole
    c.loop-commands.invariant.inside c.loop-commands.invariant.inside.counts.file_faults c.loop-commands.invariant.written
    c.loop-commands.invariant.so_far
