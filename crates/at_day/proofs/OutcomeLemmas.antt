-- Outcomes one after another.
use Rattle.std.proofs.Common.{true, ◌≡◌, ◌+◌, ◌<◌, ◌++◌, [], ◌∷◌, ℕ, List, sym, ap, subst, ◌∙◌, refl, inl, inr, arith, length, get_or, take, drop}
use Rattle.std.specs.Prelude.{Result, Ok, Err, OnErr}
use Rattle.std.specs.List.{list_all}
use Rattle.std.proofs.lemmas.List.Sums.{AllPass-from_list_all}
use Rattle.std.proofs.lemmas.List.{map_push, take-append-drop, take_more}
use Rattle.daemon_turn.specs.declared.kid.Kid.{Kid}
use Rattle.daemon_turn.specs.Daemons.{DaemonState, new_daemon}
use Rattle.daemon_turn.specs.Kids.{AreChildren}
use Rattle.at_day.specs.EventsDays.{is_day_event}
use Rattle.at_day.specs.declared.event.Event.{Event}
use Rattle.at_day.specs.declared.event.Event.TheVariants.{Command, Turn, Reboot}
use Rattle.at_day.specs.declared.events_report.EventReport.{EventReport}
use Rattle.at_day.specs.declared.events_report.EventReport.TheVariants as known
use Rattle.headline.specs.Laws.{EventsHandOnce}
use Rattle.headline.specs.Effects.{PassFrom}
use Rattle.host_calls.specs.declared.child.Child.{Child}
use Rattle.host_calls.specs.Session.{IsOutside}
use Rattle.memory_host.specs.Host.{IsUnchanged, memory_session}
use Rattle.memory_host.specs.declared.memory_host.MemoryHost.{MemoryHost}
use Rattle.at_day.specs.Days.{IsDayCut, IsDayOf, IsMachineReady, first_machine}
use Rattle.at_day.specs.declared.days.TheConstants.{LIMIT, INTERVAL}
use Rattle.at_day.specs.EventOutcomes.{AreDoneOn, EventOutcome, IsDoneOn, events_of, machine_after, passed_events, reports_of}
use Rattle.at_day.specs.EventEffects.{Happens, IsUnreported}
use Rattle.at_day.specs.Machines.{Machine, machine, machine_session, spool_of}
use Rattle.at_day.specs.Promise.{KeepsPromise}
use Rattle.at_day.proofs.EffectLemmas.{happens_takes_effect}

-- one outcome more

done_more : (from : Machine) (outcomes : List EventOutcome) (outcome : EventOutcome) → AreDoneOn from outcomes
    → IsDoneOn (machine_after from outcomes) outcome →
    AreDoneOn from (outcomes ++ outcome ∷ [])
done_more from [] outcome done one = (one, tt)
done_more from (earlier ∷ later) outcome done one = (done.0, done_more earlier.left later outcome done.1 one)

after_more : (from : Machine) (outcomes : List EventOutcome) (outcome : EventOutcome)
    → machine_after from (outcomes ++ outcome ∷ []) ≡ outcome.left
after_more from [] outcome = refl
after_more from (earlier ∷ later) outcome = after_more earlier.left later outcome

-- the promise, by the law of all events

pass_from : (first : Machine) (outcomes : List EventOutcome) → AreDoneOn first outcomes → PassFrom (spool_of first) (passed_events outcomes)
pass_from first [] done = tt
pass_from first (outcome ∷ later) done = (done.0.moved, pass_from outcome.left later done.1)

pub keeps_promise : EventsHandOnce → (first : Machine) (outcomes : List EventOutcome) → AreDoneOn first outcomes
    → KeepsPromise first outcomes
keeps_promise law first outcomes done opening shows =
    law opening (passed_events outcomes) (spool_of first) shows (pass_from first outcomes done)

-- no child is watched at first, and a watched child stays a child

pub no_kids : (children : List Child) → AreChildren children []
no_kids children = record { each = λ kid has. absurd (let inside : has.0 < 0 = has.1 in omega arith) }

kept_kids : (old new : List Child) (kids watched : List Kid) → new ≡ old → watched ≡ kids → AreChildren old kids → AreChildren new watched
kept_kids old new kids watched same kept are =
    subst (λ (children : List Child). AreChildren children watched) (sym same)
    (subst (AreChildren old) (sym kept) are)

pub ready_after : (event : Event) (answer : EventReport) (old new : Machine) → Happens event answer old new
    → IsMachineReady old → IsMachineReady new
ready_after (Command words caller input now) (known.Command status out err) old new given ready = record {
  outside = given.host.left.outside;
  children =
      kept_kids (machine_session old).children (machine_session new).children old.daemon.kids new.daemon.kids given.host.left.children
      (ap (λ (daemon : DaemonState). daemon.kids) given.daemon) ready.children;
}
ready_after (Turn now load) (known.Turn turned) old new turns ready = record { outside = turns.outside; children = turns.children }
ready_after (Reboot pick fuse) known.Rebooted old new up ready = record {
  outside = up.host.outside;
  children = subst (AreChildren (machine_session new).children) (sym (ap (λ (daemon : DaemonState). daemon.kids) up.daemon))
      (no_kids (machine_session new).children);
}
ready_after (Command words caller input now) (known.Turn turned) old new happens ready = absurd happens
ready_after (Command words caller input now) known.Rebooted old new happens ready = absurd happens
ready_after (Turn now load) (known.Command status out err) old new happens ready = absurd happens
ready_after (Turn now load) known.Rebooted old new happens ready = absurd happens
ready_after (Reboot pick fuse) (known.Command status out err) old new happens ready = absurd happens
ready_after (Reboot pick fuse) (known.Turn turned) old new happens ready = absurd happens

-- the events so far: so many of them have outcomes, and the machine is as they left it
pub record IsSoFar (events : List Event) (count : ℕ) (reports : List EventReport) (first now : Machine) : Type 0 where
  pub ready : IsMachineReady now
  pub outcomes : List EventOutcome
  pub done : AreDoneOn first outcomes
  pub events_are : events_of outcomes ≡ take count events
  pub reports_are : reports_of outcomes ≡ reports
  pub now_is : machine_after first outcomes ≡ now

pub none_so_far : (events : List Event) (first : Machine) → IsMachineReady first → IsSoFar events 0 [] first first
none_so_far events first ready = record {
  ready = ready;
  outcomes = [];
  done = tt;
  events_are = refl;
  reports_are = refl;
  now_is = refl;
}

-- the outcome of an event that happened, after those so far
abbrev outcome_of : (event : Event) (answer : EventReport) (now after : Machine) → Happens event answer now after → EventOutcome
outcome_of event answer now after happens =
    record { event = event; report = answer; effect = (happens_takes_effect event answer now after happens).0; left = after }

outcome_is_done : (event : Event) (answer : EventReport) (now after : Machine) (happens : Happens event answer now after) →
    IsDoneOn now (outcome_of event answer now after happens)
outcome_is_done event answer now after happens = record {
  happens = happens;
  by_its_steps = (happens_takes_effect event answer now after happens).1;
  moved = (happens_takes_effect event answer now after happens).2;
}

-- the outcomes of the events so far and of the next one
pub one_more_done : (events : List Event) (count : ℕ) (reports : List EventReport) (first now : Machine)
    (so : IsSoFar events count reports first now) (event : Event) (answer : EventReport) (after : Machine)
    (happens : Happens event answer now after) → AreDoneOn first (so.outcomes ++ outcome_of event answer now after happens ∷ [])
one_more_done events count reports first now so event answer after happens =
    done_more first so.outcomes (outcome_of event answer now after happens) so.done
    (subst (λ (at : Machine). IsDoneOn at (outcome_of event answer now after happens)) (sym so.now_is)
    (outcome_is_done event answer now after happens))

one_more_event : (events : List Event) (count : ℕ) (outcomes : List EventOutcome) (outcome : EventOutcome) → count < length events →
    outcome.event ≡ get_or events count outcome.event → events_of outcomes ≡ take count events →
    events_of (outcomes ++ outcome ∷ []) ≡ take (count + 1) events
one_more_event events count outcomes outcome inside is so =
    map_push (λ (one : EventOutcome). one.event) outcomes outcome
    ∙ (ap (λ (list : List Event). list ++ outcome.event ∷ []) so
    ∙ (ap (λ (one : Event). take count events ++ one ∷ []) is
    ∙ sym (take_more events count outcome.event inside)))

pub one_more : (events : List Event) (count : ℕ) (reports : List EventReport) (first now : Machine) →
    IsSoFar events count reports first now → (event : Event) → count < length events → event ≡ get_or events count event →
    (answer : EventReport) (after : Machine) → Happens event answer now after →
    IsSoFar events (count + 1) (reports ++ answer ∷ []) first after
one_more events count reports first now so event inside is answer after happens =
    record {
      ready = ready_after event answer now after happens so.ready;
      outcomes = so.outcomes ++ outcome_of event answer now after happens ∷ [];
      done = one_more_done events count reports first now so event answer after happens;
      events_are = one_more_event events count so.outcomes (outcome_of event answer now after happens) inside is so.events_are;
      reports_are = map_push (λ (one : EventOutcome). one.report) so.outcomes (outcome_of event answer now after happens)
          ∙ ap (λ (list : List EventReport). list ++ answer ∷ []) so.reports_are;
      now_is = after_more first so.outcomes (outcome_of event answer now after happens);
    }

-- all events were made
pub day_of : EventsHandOnce → (events : List Event) (count : ℕ) (reports : List EventReport) (first now : Machine) →
    IsSoFar events count reports first now → take count events ≡ events → IsDayOf events reports first now.host
day_of law events count reports first now so all = record {
  outcomes = so.outcomes;
  done = so.done;
  events_are = so.events_are ∙ all;
  reports_are = so.reports_are;
  last_is = ap (λ (at : Machine). at.host) so.now_is;
  keeps = keeps_promise law first so.outcomes so.done;
}

-- memory ran out after them
pub cut_after : EventsHandOnce → (events : List Event) (count : ℕ) (reports : List EventReport) (first now : Machine) →
    IsSoFar events count reports first now → (left : MemoryHost) → IsUnchanged now.host left → IsDayCut events first left
cut_after law events count reports first now so left same = record {
  outcomes = so.outcomes;
  done = so.done;
  later = drop count events;
  events_are = ap (λ (list : List Event). list ++ drop count events) so.events_are ∙ take-append-drop count events;
  as_left = subst (λ (at : Machine). IsUnchanged at.host left) (sym so.now_is) same;
  keeps = keeps_promise law first so.outcomes so.done;
}

pub unchanged_same : (host : MemoryHost) → IsUnchanged host host
unchanged_same host = record { world = refl; session = refl; progress = refl }

-- nor for the next one
pub cut_at : EventsHandOnce → (events : List Event) (count : ℕ) (reports : List EventReport) (first now : Machine) →
    IsSoFar events count reports first now → (event : Event) → count < length events → event ≡ get_or events count event →
    (after : Machine) → IsUnreported event now after → IsDayCut events first after.host
cut_at law events count reports first now so event inside is after (inl same) =
    cut_after law events count reports first now so after.host same.host
cut_at law events count reports first now so event inside is after (inr happened) =
    cut_after law events (count + 1) (reports ++ happened.0 ∷ []) first after
    (one_more events count reports first now so event inside is happened.0 after happened.1) after.host (unchanged_same after.host)

-- each event is one that a day can have
pub day_event_at : (events : List Event) → list_all is_day_event events ≡ true → (count : ℕ) (event : Event) →
    count < length events → event ≡ get_or events count event → is_day_event event ≡ true
day_event_at events all count event inside is =
    subst (λ (one : Event). is_day_event one ≡ true) (sym is) (AllPass-from_list_all is_day_event events all count event inside)

-- what is so anyway is so where the result is an error
pub on_err : {T E : Type 0} (result : Result T E) {P : Type 0} → P → OnErr result P
on_err (Ok made) is = tt
on_err (Err fault) is = is

-- the loop of a day

pub so_far_at_first : (events : List Event) (host : MemoryHost) (reports : List EventReport) (daemon : DaemonState) → reports ≡ [] →
    daemon ≡ new_daemon LIMIT INTERVAL → IsOutside (memory_session host) →
    IsSoFar events 0 reports (first_machine host) (machine host daemon)
so_far_at_first events host reports daemon none is outside =
    subst (λ (of : List EventReport). IsSoFar events 0 of (first_machine host) (machine host daemon)) (sym none)
    (subst (λ (of : DaemonState). IsSoFar events 0 [] (first_machine host) (machine host of)) (sym is)
    (none_so_far events (first_machine host) (record { outside = outside; children = no_kids (memory_session host).children })))

pub so_far_more : (events : List Event) (count : ℕ) (reports beyond : List EventReport) (first now : Machine) →
    IsSoFar events count reports first now → (event : Event) → count < length events → event ≡ get_or events count event →
    (answer : EventReport) (after : Machine) → Happens event answer now after → beyond ≡ reports ++ answer ∷ [] →
    IsSoFar events (count + 1) beyond first after
so_far_more events count reports beyond first now so event inside is answer after happens after_is =
    subst (λ (of : List EventReport). IsSoFar events (count + 1) of first after) (sym after_is)
    (one_more events count reports first now so event inside is answer after happens)

-- no session is on where the event was not reported
pub outside_after : (event : Event) (now after : Machine) → IsMachineReady now → IsUnreported event now after
    → IsOutside (machine_session after)
outside_after event now after ready (inl same) = subst IsOutside (sym same.host.session) ready.outside
outside_after event now after ready (inr happened) = (ready_after event happened.0 now after happened.1 ready).outside
