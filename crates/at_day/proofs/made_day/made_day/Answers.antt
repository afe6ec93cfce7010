use Rattle.std.proofs.Common.{◌≡◌, ◌∙◌, true, List, ap, subst, sym}
use Rattle.std.specs.List.{list_all, list_any}
use Rattle.at_day.specs.EventsDays.{is_day_event}
use Rattle.at_day.specs.declared.event.Event.{Event}
use Rattle.at_day.specs.declared.events_report.EventReport.{EventReport}
use Rattle.at_day.specs.Made.{made_events}
use Rattle.at_day.specs.Plans.{made_plan}
use Rattle.at_day.specs.declared.made.Made.{Made}
use Rattle.memory_host.specs.Host.{IsNew}
use Rattle.memory_host.specs.declared.plan.Plan.{Plan}
use Rattle.at_day.specs.Days.{IsDay}
use Rattle.at_day.specs.MadeDays.{deny_alone, lacks_memory}
use Rattle.at_day.proofs.MadeLemmas.{made_events_of_day}
use Rattle.at_day.proofs.SoundLemmas.{comes_to, counts_are_sound}
use Rattle.at_day.proofs.made_day.made_day.Goals as goal

pub day-requires-clause-of_day : goal.day-requires-clause-of_day
day-requires-clause-of_day c =
    let made : c.in_ok-events.field-0.events ≡ made_events c.args.count = ap (λ (of : Made). of.events) c.in_ok-events.ensures in
    let is : c.as_slice.result.now ≡ made_events c.args.count = cc in
    subst (λ (events : List Event). list_all is_day_event events ≡ true) (sym is) (made_events_of_day c.args.count c.requires)

pub sound_counts-requires : goal.sound_counts-requires
sound_counts-requires c =
    let made : c.in_ok-events.field-0.events ≡ made_events c.args.count = ap (λ (of : Made). of.events) c.in_ok-events.ensures in
    let planned : c.in_ok-events.field-0.plan ≡ made_plan c.args.count = ap (λ (of : Made). of.plan) c.in_ok-events.ensures in
    let is : c.as_slice.result.now ≡ made_events c.args.count = cc in
    counts_are_sound c.args.count c.in_ok-host.host c.day.new.host c.in_ok-report.report
    (subst (λ (plan : Plan). IsNew deny_alone plan c.in_ok-host.host) planned c.in_ok-host.ensures)
    (subst (λ (events : List Event). IsDay events c.in_ok-host.host c.day.new.host c.in_ok-report.report) is c.in_ok-report.ensures.day)

pub returns : goal.returns
returns c =
    let made : c.in_ok-events.field-0.events ≡ made_events c.args.count = ap (λ (of : Made). of.events) c.in_ok-events.ensures in
    let planned : c.in_ok-events.field-0.plan ≡ made_plan c.args.count = ap (λ (of : Made). of.plan) c.in_ok-events.ensures in
    let is : c.as_slice.result.now ≡ made_events c.args.count = cc in
    comes_to c.args.count c.in_ok-host.host c.day.new.host c.in_ok-report.report c.in_ok-counts.counts
    (subst (λ (plan : Plan). IsNew deny_alone plan c.in_ok-host.host) planned c.in_ok-host.ensures)
    (subst (λ (events : List Event). IsDay events c.in_ok-host.host c.day.new.host c.in_ok-report.report) is c.in_ok-report.ensures.day)
    c.in_ok-counts.ensures
    (ap (λ (reports : List EventReport). list_any lacks_memory reports) (sym c.as_slice-2.ensures)
    ∙ (sym c.lack_memory.ensures ∙ c.if-lack_memory.false))
