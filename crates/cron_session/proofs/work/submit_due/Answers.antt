use Rattle.std.proofs.Common.{◌∙◌, ◌≤◌, All, List, ℕ, length, sym, subst}
use Rattle.job_script.specs.declared.writer.TheConstants.{MAX_COMMANDS}
use Rattle.host_calls.specs.declared.store_fault.StoreFault.TheVariants.{Memory}
use Rattle.cron_session.specs.Steps.{Cron}
use Rattle.cron_session.specs.inside.Due.{cron_jobs}
use Rattle.cron_session.specs.inside.MarkThenSubmit.{MarksAndSubmits}
use Rattle.cron_session.proofs.DueLemmas.{due_are_short}
use Rattle.cron_session.proofs.WorkLemmas.{due_at_now, due_submitted, due_wants, room_refused, submits_due_at}
use Rattle.cron_session.proofs.work.submit_due.Goals as goal

pub returns-in_err-found : goal.returns-in_err-found
returns-in_err-found g c = λ now same.
    let cron : Cron = record { context = c.args.context.now; zone = c.args.zone.now; entries = c.args.entries.now; now = now } in
    submits_due_at g.H.Host.tells _ _ _ _ c.args.store cron c.args.numbers.now.items Memory c.from_residual.result c.from_residual.ensures.1
    (due_wants g.H.Host.tells (g.H.Host.session c.args.host.now) (g.H.Host.world c.args.host.now) c.args.store cron c.requires.inside
    c.args.numbers.now.items c.requires.none)

pub returns-in_err-check_room_and_numbers : goal.returns-in_err-check_room_and_numbers
returns-in_err-check_room_and_numbers g c = λ now same.
    let cron : Cron = record { context = c.args.context.now; zone = c.args.zone.now; entries = c.args.entries.now; now = now } in
    submits_due_at g.H.Host.tells _ _ _ _ c.args.store cron c.check_room_and_numbers.new.numbers.items
    c.in_err-check_room_and_numbers.field-0.0 c.from_residual-in_err-check_room_and_numbers.result
    c.from_residual-in_err-check_room_and_numbers.ensures.1
    (room_refused g.H.Host.tells (g.H.Host.session c.args.host.now) (g.H.Host.world c.args.host.now) c.args.store cron c.requires.inside
    c.check_room_and_numbers.new.numbers.items
    (c.in_err-check_room_and_numbers.ensures.items ∙ c.requires.none) c.as_slice-due.result.now
    (due_at_now c.args.entries.now c.args.minute now c.args.zone.now c.in_ok-found.found.items c.as_slice-due.result.now same
    c.as_slice-due.ensures.value c.in_ok-found.ensures)
    c.in_err-check_room_and_numbers.field-0.0 c.in_err-check_room_and_numbers.ensures.refused)

pub mark_and_submit-requires-clause-short : goal.mark_and_submit-requires-clause-short
mark_and_submit-requires-clause-short g c =
    subst (All (λ (of : List ℕ). length of ≤ MAX_COMMANDS)) (sym (c.as_slice-due.ensures.value ∙ c.in_ok-found.ensures.are))
    (due_are_short c.args.entries.now c.in_ok-found.ensures.civil c.requires.commands)

pub returns : goal.returns
returns g c = λ now same.
    let cron : Cron = record { context = c.args.context.now; zone = c.args.zone.now; entries = c.args.entries.now; now = now } in
    due_submitted g.H.Host.tells (g.H.Host.session c.args.host.now) (g.H.Host.session c.mark_and_submit.new.host)
    (g.H.Host.world c.args.host.now) (g.H.Host.world c.mark_and_submit.new.host)
    c.args.store cron c.as_slice-due.result.now
    (due_at_now c.args.entries.now c.args.minute now c.args.zone.now c.in_ok-found.found.items c.as_slice-due.result.now same
    c.as_slice-due.ensures.value c.in_ok-found.ensures)
    c.in_ok-check_room_and_numbers.ensures.room c.check_room_and_numbers.new.numbers.items c.mark_and_submit.new.numbers.items
    (c.in_ok-check_room_and_numbers.ensures.items ∙ c.requires.none) c.mark_and_submit.result
    (subst (λ (at : ℕ). MarksAndSubmits g.H.Host.tells (g.H.Host.session c.args.host.now) (g.H.Host.session c.mark_and_submit.new.host)
    (g.H.Host.world c.args.host.now)
    (g.H.Host.world c.mark_and_submit.new.host) c.args.store at (cron_jobs c.args.context.now at c.as_slice-due.result.now)
    c.check_room_and_numbers.new.numbers.items c.mark_and_submit.new.numbers.items
    c.mark_and_submit.result) same c.mark_and_submit.ensures)
