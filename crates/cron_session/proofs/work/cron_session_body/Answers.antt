use Rattle.std.proofs.Common.{◌∙◌, ℕ, subst, sym}
use Rattle.host_calls.specs.World.{World}
use Rattle.step_runs.specs.Current.{IsCurrent}
use Rattle.cron_session.specs.MarkNames.{mark_temp}
use Rattle.whole_file.specs.TempFiles.{IsDurableAt}
use Rattle.cron_session.proofs.WorkLemmas.{temp_durable}
use Rattle.cron_session.specs.Steps.{Cron, IsMarkedBefore}
use Rattle.cron_session.proofs.WorksLemmas.{due_worked, late_enough, marked_already, marked_before, not_read, not_recovered, works_at}
use Rattle.cron_session.proofs.work.cron_session_body.Goals as goal

pub returns-in_err-store : goal.returns-in_err-store
returns-in_err-store g c = λ now same.
    let cron : Cron = record { context = c.args.context.now; zone = c.args.zone.now; entries = c.args.entries.now; now = now } in
    works_at g.H.Host.tells cron _ _ c.args.numbers.now.items c.in_err-store.field-0.0 c.from_residual.result c.from_residual.ensures.1
    (not_recovered g.H.Host.tells cron (g.H.Host.session c.args.host.now) (g.H.Host.session c.recover.new.host)
    (g.H.Host.world c.args.host.now) (g.H.Host.world c.recover.new.host)
    c.args.numbers.now.items c.requires.none c.in_err-store.field-0.0 c.in_err-store.ensures.of_reading c.in_err-store.ensures.inside
    (λ known. c.in_err-store.ensures.files known) (λ known. c.in_err-store.ensures.recovered known))

pub returns-in_err-marked : goal.returns-in_err-marked
returns-in_err-marked g c = λ now same.
    let cron : Cron = record { context = c.args.context.now; zone = c.args.zone.now; entries = c.args.entries.now; now = now } in
    works_at g.H.Host.tells cron _ _ c.args.numbers.now.items c.in_err-marked.field-0.0 c.from_residual-in_err-marked.result
    c.from_residual-in_err-marked.ensures.1
    (not_read g.H.Host.tells cron (g.H.Host.session c.args.host.now) (g.H.Host.session c.recover.new.host) (g.H.Host.world c.args.host.now)
    (g.H.Host.world c.recover.new.host)
    c.args.numbers.now.items c.requires.none c.in_ok-store.store c.in_ok-store.ensures.inside (λ known. c.in_ok-store.ensures.files known)
    (λ known. c.in_ok-store.ensures.recovered known)
    (g.H.Host.session c.read_cron_mark.new.host) (g.H.Host.world c.read_cron_mark.new.host) (λ known. c.in_err-marked.ensures.looks known)
    c.in_err-marked.field-0.0 c.in_err-marked.ensures.of_reading c.in_err-marked.ensures.inside
    (λ known. c.in_err-marked.ensures.damaged known))

pub returns-then-is_since : goal.returns-then-is_since
returns-then-is_since g c = λ now same.
    let cron : Cron = record { context = c.args.context.now; zone = c.args.zone.now; entries = c.args.entries.now; now = now } in
    let late = late_enough c.args.minute now c.in_ok-marked.marked same (sym c.is_since.ensures ∙ c.if-is_since.true) in
    marked_already g.H.Host.tells cron (g.H.Host.session c.args.host.now) (g.H.Host.session c.recover.new.host)
    (g.H.Host.world c.args.host.now) (g.H.Host.world c.recover.new.host)
    c.args.numbers.now.items c.requires.none c.in_ok-store.store c.in_ok-store.ensures.inside (λ known. c.in_ok-store.ensures.files known)
    (λ known. c.in_ok-store.ensures.recovered known)
    (g.H.Host.session c.read_cron_mark.new.host) (g.H.Host.world c.read_cron_mark.new.host) (λ known. c.in_ok-marked.ensures.looks known)
    c.in_ok-marked.marked c.in_ok-marked.ensures.inside (λ known. c.in_ok-marked.ensures.mark known) late.0 late.1 late.2

pub submit_due-requires-clause-current : goal.submit_due-requires-clause-current
submit_due-requires-clause-current g c = λ known. (
  (c.in_ok-store.ensures.recovered known).table,
  subst (λ (world : World). IsCurrent c.in_ok-store.store world.now.directory (c.in_ok-store.ensures.recovered known).table)
      (sym (c.in_ok-marked.ensures.looks known))
      (c.in_ok-store.ensures.recovered known).current,
)

pub submit_due-requires-clause-durable : goal.submit_due-requires-clause-durable
submit_due-requires-clause-durable g c = λ known.
    subst (λ (world : World). IsDurableAt mark_temp world.now.directory) (sym (c.in_ok-marked.ensures.looks known))
    (temp_durable (g.H.Host.world c.args.host.now) (g.H.Host.world c.recover.new.host) c.in_ok-store.store
    (c.in_ok-store.ensures.recovered known))

pub returns : goal.returns
returns g c = λ now same.
    let cron : Cron = record { context = c.args.context.now; zone = c.args.zone.now; entries = c.args.entries.now; now = now } in
    due_worked g.H.Host.tells cron (g.H.Host.session c.args.host.now) (g.H.Host.session c.recover.new.host) (g.H.Host.world c.args.host.now)
    (g.H.Host.world c.recover.new.host)
    c.args.numbers.now.items c.requires.none c.in_ok-store.store c.in_ok-store.ensures.inside (λ known. c.in_ok-store.ensures.files known)
    (λ known. c.in_ok-store.ensures.recovered known)
    (g.H.Host.session c.read_cron_mark.new.host) (g.H.Host.world c.read_cron_mark.new.host) (λ known. c.in_ok-marked.ensures.looks known)
    c.in_ok-marked.marked c.in_ok-marked.ensures.inside (λ known. c.in_ok-marked.ensures.mark known)
    (g.H.Host.session c.submit_due.new.host) (g.H.Host.world c.submit_due.new.host) c.submit_due.new.numbers.items c.submit_due.result
    (subst (λ (at : ℕ). IsMarkedBefore at c.in_ok-marked.marked) same
    (marked_before c.args.minute c.in_ok-marked.marked (sym c.is_since.ensures ∙ c.if-is_since.false)))
    (c.submit_due.ensures now same)
