-- Outcomes one after another, as the events are made.
use Rattle.std.proofs.Common.{◌≡◌, ◌+◌, ◌<◌, ◌++◌, ◌∙◌, [], ◌∷◌, ℕ, List, ap, sym, subst, refl, length, get_or, take, drop, inl, inr}
use Rattle.std.proofs.lemmas.List.{map_push, take-append-drop, take_more}
use Rattle.at_day.proofs.OutcomeLemmas.{no_kids, unchanged_same}
use Rattle.daemon_turn.specs.Daemons.{DaemonState, new_daemon}
use Rattle.host_calls.specs.Session.{IsOutside}
use Rattle.mail_session.specs.PostState.{PostState, new_post}
use Rattle.memory_host.specs.Host.{IsUnchanged, memory_session}
use Rattle.memory_host.specs.declared.memory_host.MemoryHost.{MemoryHost}
use Rattle.at_day.specs.declared.days.TheConstants.{LIMIT, INTERVAL}
use Rattle.later_day.specs.declared.entry.LaterEntry.{LaterEntry}
use Rattle.later_day.specs.declared.entry.LaterEntry.TheVariants as known
use Rattle.later_day.specs.declared.later.Later.{Later}
use Rattle.later_day.specs.declared.later.Later.TheVariants.{Day, Post, Cron}
use Rattle.later_day.specs.LaterDays.{IsLaterDay, IsLaterDayCut}
use Rattle.later_day.specs.LaterEventEffects.{IsLaterEvent, IsLaterUnreported, LaterHappens}
use Rattle.later_day.specs.LaterMachines.{LaterMachine, first_later_machine, later_machine}
use Rattle.later_day.specs.LaterOutcomes.{AreLaterDoneOn, IsLaterDoneOn, LaterOutcome, entries_of, later_events_of, later_machine_after}
use Rattle.later_day.specs.Laws.{LaterOutcomesKeepTheirPromise}
use Rattle.later_day.proofs.ReadyLemmas.{IsLaterReady, later_ready_after}
use Rattle.later_day.proofs.TakenLemmas.{LaterEffects, later_happens_takes_effect}

-- one outcome more

done_more : (from : LaterMachine) (outcomes : List LaterOutcome) (outcome : LaterOutcome) → AreLaterDoneOn from outcomes →
    IsLaterDoneOn (later_machine_after from outcomes) outcome → AreLaterDoneOn from (outcomes ++ outcome ∷ [])
done_more from [] outcome done one = (one, tt)
done_more from (earlier ∷ later) outcome done one = (done.0, done_more earlier.left later outcome done.1 one)

after_more : (from : LaterMachine) (outcomes : List LaterOutcome) (outcome : LaterOutcome) →
    later_machine_after from (outcomes ++ outcome ∷ []) ≡ outcome.left
after_more from [] outcome = refl
after_more from (earlier ∷ later) outcome = after_more earlier.left later outcome

-- the events so far: so many of them have outcomes, and the machine is as they left it
pub record IsLaterSoFar (program : List ℕ) (events : List Later) (count : ℕ) (entries : List LaterEntry) (first now : LaterMachine)
    : Type 0 where
  pub ready : IsLaterReady program now
  pub outcomes : List LaterOutcome
  pub done : AreLaterDoneOn first outcomes
  pub events_are : later_events_of outcomes ≡ take count events
  pub entries_are : entries_of outcomes ≡ entries
  pub now_is : later_machine_after first outcomes ≡ now

-- the outcome of an event that happened
abbrev outcome_of : (event : Later) (entry : LaterEntry) (now after : LaterMachine) → LaterHappens event entry now after → LaterOutcome
outcome_of event entry now after happens =
    record { event = event; entry = entry; effect = (later_happens_takes_effect event entry now after happens).0; left = after }

outcome_is_done : (event : Later) (entry : LaterEntry) (now after : LaterMachine) (happens : LaterHappens event entry now after) →
    IsLaterEvent event → IsLaterDoneOn now (outcome_of event entry now after happens)
outcome_is_done event entry now after happens may =
    let found : LaterEffects event entry now after = later_happens_takes_effect event entry now after happens in
    record { may_come = may; happens = happens; does = found.1; passes = found.2 }

one_more_event : (events : List Later) (count : ℕ) (outcomes : List LaterOutcome) (outcome : LaterOutcome) → count < length events →
    outcome.event ≡ get_or events count outcome.event → later_events_of outcomes ≡ take count events →
    later_events_of (outcomes ++ outcome ∷ []) ≡ take (count + 1) events
one_more_event events count outcomes outcome inside is so =
    map_push (λ (one : LaterOutcome). one.event) outcomes outcome
    ∙ (ap (λ (list : List Later). list ++ outcome.event ∷ []) so
    ∙ (ap (λ (one : Later). take count events ++ one ∷ []) is
    ∙ sym (take_more events count outcome.event inside)))

module _ (program : List ℕ) (events : List Later) (count : ℕ) (entries : List LaterEntry) (first now : LaterMachine)
    (so : IsLaterSoFar program events count entries first now) where
  pub one_more : (event : Later) → count < length events → event ≡ get_or events count event → IsLaterEvent event →
      (entry : LaterEntry) (after : LaterMachine) → LaterHappens event entry now after →
      IsLaterSoFar program events (count + 1) (entries ++ entry ∷ []) first after
  one_more event inside is may entry after happens = record {
    ready = later_ready_after program now after so.ready event entry happens;
    outcomes = so.outcomes ++ outcome_of event entry now after happens ∷ [];
    done = done_more first so.outcomes (outcome_of event entry now after happens) so.done
        (subst (λ (at : LaterMachine). IsLaterDoneOn at (outcome_of event entry now after happens)) (sym so.now_is)
        (outcome_is_done event entry now after happens may));
    events_are = one_more_event events count so.outcomes (outcome_of event entry now after happens) inside is so.events_are;
    entries_are = map_push (λ (one : LaterOutcome). one.entry) so.outcomes (outcome_of event entry now after happens)
        ∙ ap (λ (list : List LaterEntry). list ++ entry ∷ []) so.entries_are;
    now_is = after_more first so.outcomes (outcome_of event entry now after happens);
  }

  -- all events were made
  pub later_day_of : LaterOutcomesKeepTheirPromise → take count events ≡ events → IsLaterDay events entries first now.at.host
  later_day_of law all = record {
    outcomes = so.outcomes;
    done = so.done;
    events_are = so.events_are ∙ all;
    entries_are = so.entries_are;
    last_is = ap (λ (of : LaterMachine). of.at.host) so.now_is;
    keeps = law first so.outcomes so.done;
  }

  -- memory ran out after them
  pub later_cut_after : LaterOutcomesKeepTheirPromise → (left : MemoryHost) → IsUnchanged now.at.host left → IsLaterDayCut events first left
  later_cut_after law left same = record {
    outcomes = so.outcomes;
    done = so.done;
    later = drop count events;
    events_are = ap (λ (list : List Later). list ++ drop count events) so.events_are ∙ take-append-drop count events;
    as_left = subst (λ (at : LaterMachine). IsUnchanged at.at.host left) (sym so.now_is) same;
    keeps = law first so.outcomes so.done;
  }

-- nor for the next one
pub later_cut_at : LaterOutcomesKeepTheirPromise → (program : List ℕ) (events : List Later) (count : ℕ) (entries : List LaterEntry)
    (first now : LaterMachine) → IsLaterSoFar program events count entries first now → (event : Later) → count < length events →
    event ≡ get_or events count event → IsLaterEvent event → (left : MemoryHost) → IsLaterUnreported event now left →
    IsLaterDayCut events first left
later_cut_at law program events count entries first now so (Day event) inside is may left (inl same) =
    later_cut_after program events count entries first now so law left same
later_cut_at law program events count entries first now so (Day event) inside is may left (inr happened) =
    later_cut_after program events (count + 1) (entries ++ known.Day happened.0 ∷ []) first happened.1
    (one_more program events count entries first now so (Day event) inside is may (known.Day happened.0) happened.1 happened.2) law left
    (subst (λ (host : MemoryHost). IsUnchanged happened.1.at.host host) happened.3 (unchanged_same happened.1.at.host))
later_cut_at law program events count entries first now so Post inside is may left unreported = absurd unreported
later_cut_at law program events count entries first now so (Cron context zone entered at) inside is may left unreported = absurd unreported

-- nor for the first one
pub later_cut_at_first : LaterOutcomesKeepTheirPromise → (program : List ℕ) (events : List Later) (host : MemoryHost) →
    IsLaterDayCut events (first_later_machine host program) host
later_cut_at_first law program events host = record {
  outcomes = [];
  done = tt;
  later = events;
  events_are = refl;
  as_left = unchanged_same host;
  keeps = law (first_later_machine host program) [] tt;
}

-- no session is on where memory ran out
pub outside_unreported : (program : List ℕ) (event : Later) (now : LaterMachine) (left : MemoryHost) → IsLaterReady program now →
    IsLaterUnreported event now left → IsOutside (memory_session left)
outside_unreported program (Day event) now left ready (inl same) = subst IsOutside (sym same.session) ready.day.outside
outside_unreported program (Day event) now left ready (inr happened) =
    subst (λ (host : MemoryHost). IsOutside (memory_session host)) happened.3
    (later_ready_after program now happened.1 ready (Day event) (known.Day happened.0) happened.2).day.outside
outside_unreported program Post now left ready unreported = absurd unreported
outside_unreported program (Cron context zone entered at) now left ready unreported = absurd unreported

-- the loop of a day

pub later_so_far_at_first : (program : List ℕ) (events : List Later) (host : MemoryHost) (entries : List LaterEntry)
    (daemon : DaemonState) (post : PostState) → entries ≡ [] → daemon ≡ new_daemon LIMIT INTERVAL → post ≡ new_post program →
    IsOutside (memory_session host) →
    IsLaterSoFar program events 0 entries (first_later_machine host program) (later_machine host daemon post)
later_so_far_at_first program events host entries daemon post none is posts outside =
    let first = first_later_machine host program in
    subst (λ (of : List LaterEntry). IsLaterSoFar program events 0 of first (later_machine host daemon post)) (sym none)
    (subst (λ (of : DaemonState). IsLaterSoFar program events 0 [] first (later_machine host of post)) (sym is)
    (subst (λ (of : PostState). IsLaterSoFar program events 0 [] first (later_machine host (new_daemon LIMIT INTERVAL) of)) (sym posts)
    (record {
      ready = record {
        day = record { outside = outside; children = no_kids (memory_session host).children };
        notices = no_kids (memory_session host).children;
        of_program = refl;
      };
      outcomes = [];
      done = tt;
      events_are = refl;
      entries_are = refl;
      now_is = refl;
    })))

pub later_so_far_more : (program : List ℕ) (events : List Later) (count : ℕ) (entries beyond : List LaterEntry)
    (first now : LaterMachine) → IsLaterSoFar program events count entries first now → (event : Later) → count < length events →
    event ≡ get_or events count event → IsLaterEvent event → (entry : LaterEntry) (after : LaterMachine) →
    LaterHappens event entry now after → beyond ≡ entries ++ entry ∷ [] →
    IsLaterSoFar program events (count + 1) beyond first after
later_so_far_more program events count entries beyond first now so event inside is may entry after happens after_is =
    subst (λ (of : List LaterEntry). IsLaterSoFar program events (count + 1) of first after) (sym after_is)
    (one_more program events count entries first now so event inside is may entry after happens)
