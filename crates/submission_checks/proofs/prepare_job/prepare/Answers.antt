use Rattle.std.proofs.Common.{◌∙◌, FitsSigned, refl, rules, sym, w64}
use Rattle.std.proofs.lemmas.Int.{to_z-of_z}
use Rattle.std.proofs.lemmas.Result.{err_from_is_err_and}
use Rattle.host_calls.specs.declared.bytes.Bytes.{Bytes}
use Rattle.submission_checks.proofs.ContextLemmas.{context_passes}
use Rattle.submission_checks.proofs.PreparingLemmas.{clock_stops, context_stops, input_stops, meant_at, meant_stops_at, prepared, read_once, same_second, script_stops_at, unread, zone_stops}
use Rattle.submission_checks.proofs.prepare_job.prepare.Goals as goal

pub returns-in_err-check-clause-prepares : goal.returns-in_err-check-clause-prepares
returns-in_err-check-clause-prepares g c =
    let p = err_from_is_err_and c.from_residual.result c.from_residual.ensures.1 in
    rw (p.1, p.2) (context_stops _ _ _ _ _ _ _ _ _ c.in_err-check.field-0.0 c.in_err-check.ensures.first refl)

pub returns-then-not-is_clock_second-clause-prepares : goal.returns-then-not-is_clock_second-clause-prepares
returns-then-not-is_clock_second-clause-prepares g c =
    let fits : FitsSigned w64 c.now-now.result = search rules in
    rw c.refused.ensures
    (clock_stops _ _ _ _ _ _ _ _ _ (context_passes c.args.caller.now.context c.in_ok-check.ensures.first)
    c.now-now.result c.now-now.ensures.known
    (same_second c.now-now.result c.is_clock_second.result fits c.is_clock_second.ensures.value ∙ c.if-not-is_clock_second.true))

pub returns-then-is_unreadable-clause-prepares : goal.returns-then-is_unreadable-clause-prepares
returns-then-is_unreadable-clause-prepares g c =
    let fits : FitsSigned w64 c.now-now.result = search rules in
    rw c.refused-then-is_unreadable.ensures
    (zone_stops _ _ _ _ _ _ _ _ _ (context_passes c.args.caller.now.context c.in_ok-check.ensures.first)
    c.now-now.result c.now-now.ensures.known
    (same_second c.now-now.result c.is_clock_second.result fits c.is_clock_second.ensures.value ∙ c.if-not-is_clock_second.false)
    (sym c.is_unreadable.ensures ∙ c.if-is_unreadable.true))

pub returns-in_err-minute-clause-prepares : goal.returns-in_err-minute-clause-prepares
returns-in_err-minute-clause-prepares g c =
    let fits : FitsSigned w64 c.now-now.result = search rules in
    let p = err_from_is_err_and c.from_residual-in_err-minute.result c.from_residual-in_err-minute.ensures.1 in
    rw (p.1, p.2)
    (meant_stops_at _ _ _ _ _ _ _ _ _ (context_passes c.args.caller.now.context c.in_ok-check.ensures.first)
    c.now-now.result c.now-now.ensures.known
    (same_second c.now-now.result c.is_clock_second.result fits c.is_clock_second.ensures.value ∙ c.if-not-is_clock_second.false)
    (sym c.is_unreadable.ensures ∙ c.if-is_unreadable.false) _ c.in_err-minute.field-0.0.cause (to_z-of_z w64 c.now-now.result fits)
    c.in_err-minute.ensures.meant)

pub returns-in_err-commands-clause-prepares : goal.returns-in_err-commands-clause-prepares
returns-in_err-commands-clause-prepares g c =
    let fits : FitsSigned w64 c.now-now.result = search rules in
    let p = err_from_is_err_and c.from_residual-in_err-commands.result c.from_residual-in_err-commands.ensures.1 in
    rw (p.1, p.2)
    (input_stops _ _ _ _ _ _ _ _ _ (context_passes c.args.caller.now.context c.in_ok-check.ensures.first)
    c.now-now.result c.now-now.ensures.known
    (same_second c.now-now.result c.is_clock_second.result fits c.is_clock_second.ensures.value ∙ c.if-not-is_clock_second.false)
    (sym c.is_unreadable.ensures ∙ c.if-is_unreadable.false) c.in_ok-minute.minute
    (meant_at _ _ c.now-now.result _ _ (to_z-of_z w64 c.now-now.result fits) c.in_ok-minute.ensures.meant)
    c.in_err-commands.field-0.0.cause c.in_err-commands.ensures.comes)

pub returns-in_err-script-clause-prepares : goal.returns-in_err-script-clause-prepares
returns-in_err-script-clause-prepares g c =
    let fits : FitsSigned w64 c.now-now.result = search rules in
    let p = err_from_is_err_and c.from_residual-in_err-script.result c.from_residual-in_err-script.ensures.1 in
    rw (p.1, p.2)
    (script_stops_at _ _ _ _ _ _ _ _ _ (context_passes c.args.caller.now.context c.in_ok-check.ensures.first)
    c.now-now.result c.now-now.ensures.known
    (same_second c.now-now.result c.is_clock_second.result fits c.is_clock_second.ensures.value ∙ c.if-not-is_clock_second.false)
    (sym c.is_unreadable.ensures ∙ c.if-is_unreadable.false) c.in_ok-minute.minute
    (meant_at _ _ c.now-now.result _ _ (to_z-of_z w64 c.now-now.result fits) c.in_ok-minute.ensures.meant)
    c.in_ok-commands.commands c.in_ok-commands.ensures.read Bytes c.as_slice.result.now c.in_err-script.field-0.0 c.as_slice.ensures
    c.in_ok-check.ensures.refused c.in_err-script.ensures.refused)

pub returns-clause-prepares : goal.returns-clause-prepares
returns-clause-prepares g c =
    let fits : FitsSigned w64 c.now-now.result = search rules in
    prepared _ _ _ _ _ _ _ _ _ (context_passes c.args.caller.now.context c.in_ok-check.ensures.first)
    c.now-now.result c.now-now.ensures.known
    (same_second c.now-now.result c.is_clock_second.result fits c.is_clock_second.ensures.value ∙ c.if-not-is_clock_second.false)
    (sym c.is_unreadable.ensures ∙ c.if-is_unreadable.false) c.in_ok-minute.minute
    (meant_at _ _ c.now-now.result _ _ (to_z-of_z w64 c.now-now.result fits) c.in_ok-minute.ensures.meant)
    c.in_ok-commands.commands c.in_ok-commands.ensures.read _ (rw c.as_slice.ensures at c.in_ok-script.ensures.refused).1 refl
    (rw c.as_slice.ensures at c.in_ok-script.ensures.text)

pub returns-in_err-check-clause-at_most_once : goal.returns-in_err-check-clause-at_most_once
returns-in_err-check-clause-at_most_once g c = unread _

pub returns-then-not-is_clock_second-clause-at_most_once : goal.returns-then-not-is_clock_second-clause-at_most_once
returns-then-not-is_clock_second-clause-at_most_once g c = unread _

pub returns-then-is_unreadable-clause-at_most_once : goal.returns-then-is_unreadable-clause-at_most_once
returns-then-is_unreadable-clause-at_most_once g c = unread _

pub returns-in_err-minute-clause-at_most_once : goal.returns-in_err-minute-clause-at_most_once
returns-in_err-minute-clause-at_most_once g c = unread _

pub returns-in_err-commands-clause-at_most_once : goal.returns-in_err-commands-clause-at_most_once
returns-in_err-commands-clause-at_most_once g c = read_once _ _ c.in_err-commands.ensures.once

pub returns-in_err-script-clause-at_most_once : goal.returns-in_err-script-clause-at_most_once
returns-in_err-script-clause-at_most_once g c = read_once _ _ c.in_ok-commands.ensures.once

pub returns-clause-at_most_once : goal.returns-clause-at_most_once
returns-clause-at_most_once g c = read_once _ _ c.in_ok-commands.ensures.once
