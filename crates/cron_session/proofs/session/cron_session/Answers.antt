use Rattle.std.proofs.Common.{◌≡◌, ◌∙◌, List, ap, rules, subst, sym, w64, ℕ, ℤ}
use Rattle.std.proofs.lemmas.Int.{to_z-of_z}
use Rattle.host_calls.specs.ClockRange.{minute_at}
use Rattle.cron_text.specs.declared.entry.CronEntry.{CronEntry}
use Rattle.cron_session.specs.SessionOutcome.{CronsTo}
use Rattle.cron_session.specs.declared.report.CronEnd.{CronEnd}
use Rattle.cron_session.specs.inside.SessionWork.{CronWorks, end_of_cron_session}
use Rattle.cron_session.proofs.SessionLemmas.{cron_of_session, distinct_of_session}
use Rattle.cron_session.proofs.session.cron_session.Goals as goal

pub of_distinct-requires : goal.of_distinct-requires
of_distinct-requires g c =
    distinct_of_session g.H.Host _ _ _ _ _
    (record { context = c.args.context.now; zone = c.args.zone.now; entries = c.as_slice-entries.result.now; now = c.args.now })
    c.numbers-2-1.given.0.items (λ same. search (rules, same, c.new-numbers.ensures.items))
    (λ first last done did.
    (let works : (now : ℤ) → c.minute_at-minute.result ≡ minute_at now →
    CronWorks g.H.Host.tells
    (record { context = c.args.context.now; zone = c.args.zone.now; entries = c.as_slice-entries.result.now; now = now })
    (record { session = g.H.Host.session first; world = g.H.Host.world first })
    (record { session = g.H.Host.session last; world = g.H.Host.world last })
    c.numbers-2-1.given.0.items done = search (rules, did) in
    works c.args.now (c.minute_at-minute.ensures.value ∙ ap minute_at (to_z-of_z w64 c.args.now c.ranges.now)))) c.in_session-worked.result
    c.in_session-worked.ensures.ends

pub returns : goal.returns
returns g c =
    let ended : CronsTo g.H.Host.tells g.H.Host.alone
    (record { context = c.args.context.now; zone = c.args.zone.now; entries = c.as_slice-entries.result.now; now = c.args.now })
    (record { session = g.H.Host.session c.args.host.now; world = g.H.Host.world c.args.host.now })
    (record { session = g.H.Host.session c.in_session-worked.new.host; world = g.H.Host.world c.in_session-worked.new.host })
    (end_of_cron_session c.in_session-worked.result) c.numbers-2-1.given.0.items =
    cron_of_session g.H.Host _ _ _ _ _
    (record { context = c.args.context.now; zone = c.args.zone.now; entries = c.as_slice-entries.result.now; now = c.args.now })
    c.numbers-2-1.given.0.items (λ same. search (rules, same, c.new-numbers.ensures.items))
    (λ first last done did.
    (let works : (now : ℤ) → c.minute_at-minute.result ≡ minute_at now →
    CronWorks g.H.Host.tells
    (record { context = c.args.context.now; zone = c.args.zone.now; entries = c.as_slice-entries.result.now; now = now })
    (record { session = g.H.Host.session first; world = g.H.Host.world first })
    (record { session = g.H.Host.session last; world = g.H.Host.world last })
    c.numbers-2-1.given.0.items done = search (rules, did) in
    works c.args.now (c.minute_at-minute.ensures.value ∙ ap minute_at (to_z-of_z w64 c.args.now c.ranges.now)))) c.in_session-worked.result
    c.in_session-worked.ensures.ends in
    subst (λ (entries : List CronEntry). CronsTo g.H.Host.tells g.H.Host.alone
    (record { context = c.args.context.now; zone = c.args.zone.now; entries = entries; now = c.args.now })
    (record { session = g.H.Host.session c.args.host.now; world = g.H.Host.world c.args.host.now })
    (record { session = g.H.Host.session c.in_session-worked.new.host; world = g.H.Host.world c.in_session-worked.new.host })
    c.end_of.result c.of_distinct.result) c.as_slice-entries.ensures
    (subst (λ (end : CronEnd). CronsTo g.H.Host.tells g.H.Host.alone
    (record { context = c.args.context.now; zone = c.args.zone.now; entries = c.as_slice-entries.result.now; now = c.args.now })
    (record { session = g.H.Host.session c.args.host.now; world = g.H.Host.world c.args.host.now })
    (record { session = g.H.Host.session c.in_session-worked.new.host; world = g.H.Host.world c.in_session-worked.new.host }) end
    c.of_distinct.result) (sym c.end_of.ensures)
    (subst (λ (numbers : List ℕ). CronsTo g.H.Host.tells g.H.Host.alone
    (record { context = c.args.context.now; zone = c.args.zone.now; entries = c.as_slice-entries.result.now; now = c.args.now })
    (record { session = g.H.Host.session c.args.host.now; world = g.H.Host.world c.args.host.now })
    (record { session = g.H.Host.session c.in_session-worked.new.host; world = g.H.Host.world c.in_session-worked.new.host })
    (end_of_cron_session c.in_session-worked.result) numbers)
    (sym c.of_distinct.ensures) ended))
