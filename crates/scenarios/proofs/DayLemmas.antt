-- A day without events leaves the children of the host.
use Rattle.std.proofs.Common.{◌≡◌, ◌++◌, [], ◌∷◌, List, sym, ap, subst, ◌∙◌, refl}
use Rattle.std.specs.Prelude.{IfOk, OnErr, Result, Ok, Err}
use Rattle.std.specs.declared.alloc.AllocError.{AllocError}
use Rattle.at_day.specs.declared.report.DayReport.{DayReport}
use Rattle.at_day.specs.Days.{IsDay, IsDayCut, IsDayOf, first_machine}
use Rattle.at_day.specs.EventOutcomes.{EventOutcome, events_of, machine_after}
use Rattle.at_day.specs.declared.event.Event.{Event}
use Rattle.at_day.specs.declared.events_report.EventReport.{EventReport}
use Rattle.daemon_turn.specs.declared.kid.Kid.{Kid}
use Rattle.host_calls.specs.declared.child.Child.{Child}
use Rattle.host_calls.specs.Session.{Session}
use Rattle.memory_host.specs.Host.{memory_session}
use Rattle.memory_host.specs.declared.memory_host.MemoryHost.{MemoryHost}
use Rattle.scenarios.specs.Machine.{HaveChildren}

no_outcomes : (outcomes : List EventOutcome) → events_of outcomes ≡ [] → outcomes ≡ []
no_outcomes [] none = refl
no_outcomes (outcome ∷ later) none = cc

no_prefix : (prefix later : List Event) → prefix ++ later ≡ [] → prefix ≡ []
no_prefix [] later none = refl
no_prefix (event ∷ prefix) later none = cc

host_left : (old : MemoryHost) (outcomes : List EventOutcome) → events_of outcomes ≡ []
    → (machine_after (first_machine old) outcomes).host ≡ old
host_left old outcomes none = ap (λ (of : List EventOutcome). (machine_after (first_machine old) of).host) (no_outcomes outcomes none)

children_of_day : (old new : MemoryHost) (report : DayReport) → IsDay [] old new report →
    (memory_session new).children ≡ (memory_session old).children
children_of_day old new report day =
    day.counted.left.children
    ∙ ap (λ (host : MemoryHost). (memory_session host).children) (sym day.day.last_is ∙ host_left old day.day.outcomes day.day.events_are)

children_of_cut : (old new : MemoryHost) → IsDayCut [] (first_machine old) new →
    (memory_session new).children ≡ (memory_session old).children
children_of_cut old new cut =
    ap (λ (session : Session). session.children) cut.as_left.session
    ∙ ap (λ (host : MemoryHost). (memory_session host).children)
    (host_left old cut.outcomes (no_prefix (events_of cut.outcomes) cut.later cut.events_are))

have_after_day : (old new : MemoryHost) (report : DayReport) (kids : List Kid) → IsDay [] old new report →
    HaveChildren (memory_session old).children kids → HaveChildren (memory_session new).children kids
have_after_day old new report kids day have =
    subst (λ (children : List Child). HaveChildren children kids) (sym (children_of_day old new report day)) have

have_after_cut : (old new : MemoryHost) (kids : List Kid) → IsDayCut [] (first_machine old) new →
    HaveChildren (memory_session old).children kids → HaveChildren (memory_session new).children kids
have_after_cut old new kids cut have =
    subst (λ (children : List Child). HaveChildren children kids) (sym (children_of_cut old new cut)) have

-- each child of a daemon still has one of them
pub have_after_days : (old new : MemoryHost) (kids : List Kid) (result : Result DayReport AllocError) →
    IfOk result (IsDay [] old new) → OnErr result (IsDayCut [] (first_machine old) new) →
    HaveChildren (memory_session old).children kids → HaveChildren (memory_session new).children kids
have_after_days old new kids (Ok report) day cut have = have_after_day old new report kids day have
have_after_days old new kids (Err wanting) day cut have = have_after_cut old new kids cut have
