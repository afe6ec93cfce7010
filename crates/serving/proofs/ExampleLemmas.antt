-- Small servings, made turn by turn.
use Rattle.std.proofs.Common.{◌≡◌, ◌<◌, ℕ, zero, suc, ℤ, Bool, true, false, List, [], ◌∷◌, ◌++◌, refl, sym, ap, subst, inl, arith, lit≤, lit<}
use Rattle.std.specs.Fmt.{digits}
use Rattle.std.specs.Prelude.{Contains, Option, Some, None, codes, slice_index_or}
use Rattle.host_calls.specs.ClockRange.{IsClockSecond}
use Rattle.host_calls.proofs.ClockRangeLemmas.{second_is}
use Rattle.host_calls.specs.declared.child.Child.{Child}
use Rattle.host_calls.specs.declared.child.Ending.TheVariants.{Exit}
use Rattle.host_calls.specs.Clock.{Readers, with_load, with_now, with_rest}
use Rattle.host_calls.specs.World.{World}
use Rattle.tool_output.specs.Outside.{ClockAt}
use Rattle.tool_output.specs.Sinks.{IsSilent}
use Rattle.listing_text.specs.declared.cause.Cause.{Cause}
use Rattle.listing_text.specs.declared.cause.Cause.TheVariants as cause
use Rattle.daemon_turn.specs.declared.kid.Kid.{Kid}
use Rattle.host_calls.specs.declared.turn_end.TurnEnd.{TurnEnd}
use Rattle.host_calls.specs.declared.turn_end.TurnEnd.TheVariants.{Done, Busy, FileFault}
use Rattle.daemon_turn.specs.declared.turn_input.TurnInput.{TurnInput}
use Rattle.spool_model.specs.declared.turn_step.TurnStep.{TurnStep}
use Rattle.spool_model.specs.declared.turn_step.TurnStep.TheVariants.{Ended, HandedOver}
use Rattle.daemon_turn.specs.Kids.{AreKidsByNumber, AreChildren}
use Rattle.daemon_turn.specs.TurnOutcome.{DaemonAt, TurnsTo}
use Rattle.serving.specs.Examples.{ServesTwice, SmallServings, daemon_with, first_child, first_kid, host_with, midnight, minute_later, second_later, served_with, sink, known}
use Rattle.serving.specs.Items.{TurnItem, ends_after, next_rest}
use Rattle.tool_output.specs.Ends.{SaysEnd}
use Rattle.serving.specs.Lines.{SaysEnds, daemon_name, turn_lines}
use Rattle.serving.specs.Outcomes.{at_the_end, serve_outcome}
use Rattle.serving.specs.Serves.{AnswersTurn, RestsAfter, ServeState, Served, Serves, next_turn, no_turn}
use Rattle.serving.specs.Serving.{SaysServeOutcome}

-- a moment of a host that doesn't exposes its files, with its daemon
abbrev standing : World → List Child → ℕ → List Kid → DaemonAt
standing world children taken kids = record { session = host_with children taken; world = world; daemon = daemon_with kids }

-- The children.

no_kids : (children : List Child) → AreChildren children []
no_kids children = record { each = λ kid has. absurd (omega (arith, has.1)) }

no_order : AreKidsByNumber []
no_order = λ i j kid earlier within. absurd (omega (arith, within))

one_kid : AreChildren (first_child ∷ []) (first_kid ∷ [])
one_kid = record { each = λ kid has. at kid has.0 has.1 has.2 } where
  at : (kid : Kid) (k : ℕ) → k < 1 → slice_index_or (first_kid ∷ []) k kid ≡ kid → Contains (first_child ∷ []) kid.child
  at kid zero low is = (0, lit< tt, ap (λ (one : Kid). one.child) is)
  at kid (suc k) low is = absurd (omega (arith, low))

one_order : AreKidsByNumber (first_kid ∷ [])
one_order = λ i j kid earlier within. absurd (let low : j < 1 = within in omega (arith, earlier, low))

-- The turns.

-- one that was made to its end
turned : (world : World) (at : TurnInput) (taken : ℕ) (children more : List Child) (kids left : List Kid) (steps : List TurnStep)
    → AreChildren (children ++ more) left → AreKidsByNumber left
    → TurnsTo false false at (standing world children taken kids) (standing world (children ++ more) taken left) Done steps
turned world at taken children more kids left steps are ordered = record {
  outside = refl;
  counts = record { made_as = refl; file_faults = lit≤ tt; start_faults = lit≤ tt; taken = omega arith };
  kept = (more, refl);
  children = are;
  ordered = ordered;
  limit = refl;
  interval = refl;
  busy = λ bad. absurd (let impossible : Done ≡ Busy = bad in cc);
  fault = λ bad. absurd (let impossible : Done ≡ FileFault = bad in cc);
  unread = tt;
  leaves = λ files. absurd (let impossible : false ≡ true = files in cc);
}

-- and one that found the spool taken
held : (world : World) (at : TurnInput) → TurnsTo false false at (standing world [] 0 []) (standing world [] 1 []) Busy []
held world at = record {
  outside = refl;
  counts = record { made_as = refl; file_faults = lit≤ tt; start_faults = lit≤ tt; taken = lit≤ tt };
  kept = ([], refl);
  children = no_kids [];
  ordered = no_order;
  limit = refl;
  interval = refl;
  busy = λ is. lit≤ tt;
  fault = λ bad. absurd (let impossible : Busy ≡ FileFault = bad in cc);
  unread = record { none = refl; kids = refl };
  leaves = λ files. absurd (let impossible : false ≡ true = files in cc);
}

-- one after the other
two_turns : (once : Bool) (one other : TurnItem) (start between rested end : ServeState) → Served known once [] one start between
    → ends_after once (Some one) between.spool.daemon.kids ≡ false
    → RestsAfter true once (Some one) between rested → Served known once (one ∷ []) other rested end
    → Serves known once start (one ∷ other ∷ []) end
two_turns once one other start between rested end first goes_on rests second =
    next_turn (one ∷ []) other between rested end
    (next_turn [] one start start between no_turn refl (record { clock = refl; spool = refl }) first) goes_on rests second

-- The readings.

at_midnight : IsClockSecond midnight
at_midnight = second_is midnight refl

a_second_later : IsClockSecond second_later
a_second_later = second_is second_later refl

a_minute_later : IsClockSecond minute_later
a_minute_later = second_is minute_later refl

-- the load was read
answered : (now : ℤ) (load : ℕ) (end : TurnEnd) (steps : List TurnStep) (old new : ClockAt)
    → new.answers ≡ with_load (Some load) (with_now now old.answers) → new.readers ≡ old.readers
    → AnswersTurn true (record { now = now; load = Some load; end = end; steps = steps }) old new
answered now load end steps old new answers readers = record {
  known = λ tells. answers;
  made_as = ap (λ (of : Readers). of.made_as) readers;
  later = let same : new.readers.load_faults ≡ old.readers.load_faults = ap (λ (of : Readers). of.load_faults) readers in
      omega (arith, same);
  unread = λ none. absurd (let impossible : ◌≡◌ {A = Option ℕ} (Some load) None = none in cc);
}

-- The sinks.

unchecked : (content : List ℕ) → IsSilent (sink content) (sink content)
unchecked content = record { content = refl; later = lit≤ tt }

done_silent : (one other : TurnItem) → one.end ≡ Done → other.end ≡ Done → SaysEnds (one ∷ other ∷ []) (sink []) (sink [])
done_silent one other first second = (
  sink [],
  subst (λ (end : TurnEnd). SaysEnd daemon_name end (sink []) (sink [])) (sym first) (unchecked []),
  (sink [], subst (λ (end : TurnEnd). SaysEnd daemon_name end (sink []) (sink [])) (sym second) (unchecked []), unchecked []),
)

-- What two turns come to.

module _ (world : World) (once : Bool) (one other : TurnItem) (end : ServeState)
    (serves : Serves known once (served_with world [] 0 [] [] [] 0 0) (one ∷ other ∷ []) end) where
  serves_twice : (printed between said : List ℕ) (of : Cause) → printed ≡ turn_lines (one ∷ other ∷ [])
      → SaysEnds (one ∷ other ∷ []) (sink []) (sink between)
      → SaysServeOutcome true (serve_outcome at_the_end once (one ∷ other ∷ []) end.spool.daemon.kids false) (sink between) (sink said) of
      → ServesTwice world once end printed said of
  serves_twice printed between said of lines says outcome = record {
    items = one ∷ other ∷ [];
    last = end;
    stop = at_the_end;
    output_failed = false;
    few = lit≤ tt;
    serves = serves;
    stops = (inl refl, refl);
    prints = record {
      later = lit≤ tt;
      rose = λ output_failed. absurd (let impossible : false ≡ true = output_failed in cc);
      puts = λ tells. record { content = lines; later = lit≤ tt };
    };
    between = sink between;
    says = λ tells. says;
    outcome = outcome;
  }

-- The four.

abbrev opening : World → ServeState
opening world = served_with world [] 0 [] [] [] 0 0

-- a job started, and after that turn
abbrev handed_at : ℤ → TurnItem
handed_at now = record { now = now; load = Some 42; end = Done; steps = HandedOver 1 now ∷ [] }

abbrev handed : World → ℕ → ServeState
handed world rested = served_with world (first_child ∷ []) 0 (first_kid ∷ []) (midnight ∷ []) (Some 42 ∷ []) rested 0

hands_over : (world : World) (once : Bool) → Served known once [] (handed_at midnight) (opening world) (handed world 0)
hands_over world once = record {
  now = at_midnight;
  read = answered midnight 42 Done _ (opening world).clock (handed world 0).clock refl refl;
  turn = turned world _ 0 [] (first_child ∷ []) [] (first_kid ∷ []) _ one_kid one_order;
}

-- its child exited with 3, or with 0
abbrev ended_with : ℤ → Option ℕ → ℕ → TurnItem
ended_with now load code = record { now = now; load = load; end = Done; steps = Ended 1 (Exit code) ∷ [] }

rests : (once : Bool) (item : TurnItem) (seconds : ℕ) (old new : ServeState) → next_rest once item.end item.now ≡ seconds
    → new.clock.answers ≡ with_rest seconds old.clock.answers → new.clock.readers ≡ old.clock.readers
    → new.spool ≡ old.spool → RestsAfter true once (Some item) old new
rests once item seconds old new is answers readers spool = record {
  clock = record {
    known = λ tells. subst (λ (count : ℕ). new.clock.answers ≡ with_rest count old.clock.answers) (sym is) answers;
    readers = readers;
  };
  spool = spool;
}

minutes : (world : World) → ServesTwice world false
    (served_with world (first_child ∷ []) 0 [] (midnight ∷ minute_later ∷ []) (Some 42 ∷ None ∷ []) 60 1)
    (codes "job 1 handed over\njob 1 exit 3\n") [] cause.Done
unfolding digits
minutes world =
    let end : ServeState = served_with world (first_child ∷ []) 0 [] (midnight ∷ minute_later ∷ []) (Some 42 ∷ None ∷ []) 60 1 in
    let second : Served known false (handed_at midnight ∷ []) (ended_with minute_later None 3) (handed world 60) end = record {
      now = a_minute_later;
      read = record { known = λ tells. refl; made_as = refl; later = lit≤ tt; unread = λ none. lit≤ tt };
      turn = turned world _ 0 (first_child ∷ []) [] (first_kid ∷ []) [] _ (no_kids (first_child ∷ [])) no_order;
    } in
    serves_twice world false (handed_at midnight) (ended_with minute_later None 3) end
    (two_turns false (handed_at midnight) (ended_with minute_later None 3) (opening world) (handed world 0) (handed world 60) end
    (hands_over world false) refl
    (rests false (handed_at midnight) 60 (handed world 0) (handed world 60) refl refl refl refl) second)
    (codes "job 1 handed over\njob 1 exit 3\n") [] [] cause.Done refl
    (done_silent (handed_at midnight) (ended_with minute_later None 3) refl refl) (inl (refl, λ tells. refl))

until_alone : (world : World) → ServesTwice world true
    (served_with world (first_child ∷ []) 0 [] (midnight ∷ second_later ∷ []) (Some 42 ∷ Some 42 ∷ []) 1 0)
    (codes "job 1 handed over\njob 1 exit 0\n") [] cause.Done
unfolding digits
until_alone world =
    let end : ServeState = served_with world (first_child ∷ []) 0 [] (midnight ∷ second_later ∷ []) (Some 42 ∷ Some 42 ∷ []) 1 0 in
    let second : Served known true (handed_at midnight ∷ []) (ended_with second_later (Some 42) 0) (handed world 1) end = record {
      now = a_second_later;
      read = answered second_later 42 Done _ (handed world 1).clock end.clock refl refl;
      turn = turned world _ 0 (first_child ∷ []) [] (first_kid ∷ []) [] _ (no_kids (first_child ∷ [])) no_order;
    } in
    serves_twice world true (handed_at midnight) (ended_with second_later (Some 42) 0) end
    (two_turns true (handed_at midnight) (ended_with second_later (Some 42) 0) (opening world) (handed world 0) (handed world 1) end
    (hands_over world true) refl
    (rests true (handed_at midnight) 1 (handed world 0) (handed world 1) refl refl refl refl) second)
    (codes "job 1 handed over\njob 1 exit 0\n") [] [] cause.Done refl
    (done_silent (handed_at midnight) (ended_with second_later (Some 42) 0) refl refl) (inl (refl, λ tells. refl))

-- a turn that did nothing
abbrev idle : TurnItem
idle = record { now = second_later; load = Some 42; end = Done; steps = [] }

still_running : (world : World) → ServesTwice world true
    (served_with world (first_child ∷ []) 0 (first_kid ∷ []) (midnight ∷ second_later ∷ []) (Some 42 ∷ Some 42 ∷ []) 1 0)
    (codes "job 1 handed over\n") (codes "atd: jobs still running\n") cause.StillRunning
unfolding digits
still_running world =
    let end : ServeState =
    served_with world (first_child ∷ []) 0 (first_kid ∷ []) (midnight ∷ second_later ∷ []) (Some 42 ∷ Some 42 ∷ []) 1 0 in
    let second : Served known true (handed_at midnight ∷ []) idle (handed world 1) end = record {
      now = a_second_later;
      read = answered second_later 42 Done _ (handed world 1).clock end.clock refl refl;
      turn = turned world _ 0 (first_child ∷ []) [] (first_kid ∷ []) (first_kid ∷ []) _ one_kid one_order;
    } in
    serves_twice world true (handed_at midnight) idle end
    (two_turns true (handed_at midnight) idle (opening world) (handed world 0) (handed world 1) end (hands_over world true) refl
    (rests true (handed_at midnight) 1 (handed world 0) (handed world 1) refl refl refl refl) second)
    (codes "job 1 handed over\n") [] (codes "atd: jobs still running\n") cause.StillRunning refl
    (done_silent (handed_at midnight) idle refl refl)
    (inl (refl, λ tells. inl (record { content = refl; later = lit≤ tt })))

-- a turn that found the spool taken, and after it
abbrev taken : TurnItem
taken = record { now = midnight; load = Some 42; end = Busy; steps = [] }

abbrev refused : World → ℕ → ServeState
refused world rested = served_with world [] 1 [] (midnight ∷ []) (Some 42 ∷ []) rested 0

taken_first : (world : World) → ServesTwice world false
    (served_with world (first_child ∷ []) 1 (first_kid ∷ []) (midnight ∷ second_later ∷ []) (Some 42 ∷ Some 42 ∷ []) 1 0)
    (codes "job 1 handed over\n") (codes "atd: spool busy\n") cause.Done
unfolding digits
taken_first world =
    let end : ServeState =
    served_with world (first_child ∷ []) 1 (first_kid ∷ []) (midnight ∷ second_later ∷ []) (Some 42 ∷ Some 42 ∷ []) 1 0 in
    let first : Served known false [] taken (opening world) (refused world 0) =
    record {
      now = at_midnight;
      read = answered midnight 42 Busy _ (opening world).clock (refused world 0).clock refl refl;
      turn = held world _;
    } in
    let second : Served known false (taken ∷ []) (handed_at second_later) (refused world 1) end = record {
      now = a_second_later;
      read = answered second_later 42 Done _ (refused world 1).clock end.clock refl refl;
      turn = turned world _ 1 [] (first_child ∷ []) [] (first_kid ∷ []) _ one_kid one_order;
    } in
    serves_twice world false taken (handed_at second_later) end
    (two_turns false taken (handed_at second_later) (opening world) (refused world 0) (refused world 1) end first refl
    (rests false taken 1 (refused world 0) (refused world 1) refl refl refl refl) second)
    (codes "job 1 handed over\n") (codes "atd: spool busy\n") (codes "atd: spool busy\n") cause.Done refl (
      sink (codes "atd: spool busy\n"),
      inl (record { content = refl; later = lit≤ tt }),
      (sink (codes "atd: spool busy\n"), unchecked (codes "atd: spool busy\n"), unchecked (codes "atd: spool busy\n")),
    )
    (inl (refl, λ tells. refl))

pub small_servings : SmallServings
small_servings = record { minutes = minutes; until_alone = until_alone; still_running = still_running; taken_first = taken_first }
