-- One more turn, and the end of serving.
use Rattle.std.proofs.Common.{◌≡◌, ◌+◌, ◌<◌, ◌≤◌, ℕ, ℤ, Bool, true, false, List, [], ◌∷◌, ◌++◌, length, refl, sym, ap, subst, ◌∙◌, inl, inr, arith}
use Rattle.std.specs.Prelude.{Option, Some, None, if◌then◌else◌}
use Rattle.host_calls.specs.ClockRange.{IsClockSecond}
use Rattle.host_calls.specs.Causes.{Rose}
use Rattle.host_calls.specs.Clock.{Answers, Readers, with_load, with_now}
use Rattle.listing_text.specs.declared.cause.Cause.{Cause}
use Rattle.listing_text.specs.declared.cause.Cause.TheVariants as cause
use Rattle.listing_text.specs.declared.refusal.Refusal.TheVariants.{BadClock}
use Rattle.tool_output.specs.Sinks.{IsSilent, SinkAt}
use Rattle.daemon_turn.specs.TurnOutcome.{DaemonAt, TurnsTo}
use Rattle.daemon_turn.specs.declared.mode.Mode.{Mode}
use Rattle.host_calls.specs.declared.turn_end.TurnEnd.{TurnEnd}
use Rattle.serving.specs.Items.{TurnItem, ends_after, first_end, is_last_turn, last_item, mode_after, next_rest}
use Rattle.tool_output.specs.Ends.{SaysEnd}
use Rattle.tool_output.proofs.EndLemmas.{silent_same}
use Rattle.tool_output.proofs.PutLemmas.{nothing_put}
use Rattle.serving.specs.Lines.{SaysEnds, daemon_name, step_lines, turn_lines}
use Rattle.serving.specs.Outcomes.{at_a_line, at_the_clock, at_the_end, damage_outcome, last_turn_outcome, turns_outcome}
use Rattle.serving.specs.Serves.{AnswersTurn, RestsAfter, ServeState, Served, Serves, ServeStopsAtClock, next_turn, no_turn}
use Rattle.tool_output.specs.Outside.{Telling}
use Rattle.serving.specs.Serving.{TurnsPrint, SaysServeOutcome, Serving}
use Rattle.serving.specs.declared.outcome.ServeOutcome.{ServeOutcome}
use Rattle.serving.specs.declared.outcome.ServeOutcome.TheVariants.{Own}
use Rattle.serving.specs.declared.progress.Progress.{Progress}
use Rattle.serving.specs.inside.NextTurn.{HasEnded, HasServed, IsRest, PrintsMore, Proceeds, first_end_or, mode_by, outcome_if}
use Rattle.serving.proofs.OutcomeLemmas.{no_damage}
use Rattle.serving.proofs.ServeLemmas.{but_last_more, first_more, last_more, lines_more, mode_same, one_longer}
use Rattle.serving.proofs.SinkLemmas.{ends_more, ends_silent}

-- nothing was served yet
pub nothing_served : (tells : Telling) (once : Bool) (made : Progress) (at : ServeState) (out err : SinkAt)
    → made ≡ record { first = None; rest = 0; output_failed = false }
    → HasServed tells once [] made at at out out err err
nothing_served tells once made at out err same =
    subst (λ (of : Progress). HasServed tells once [] of at at out out err err) (sym same) (record {
      serves = no_turn;
      goes_on = refl;
      begun = refl;
      rest = tt;
      prints = record { later = omega arith; rose = λ one. absurd (cc); puts = λ known. nothing_put out };
      says = λ known. silent_same err err refl;
    })

module _ (tells : Telling) (once : Bool) (items : List TurnItem) (made : Progress) (first now : ServeState)
    (out_first out_now err_first err_now : SinkAt)
    (has : HasServed tells once items made first now out_first out_now err_first err_now) where
  -- the clock went out of range
  pub ended_at_clock : (after : ServeState) (turns : ℕ) → length items < turns
      → ServeStopsAtClock tells.clock once (last_item items) now after
      → HasEnded tells once turns first after out_first out_now err_first err_now (Own (cause.Refused BadClock))
  ended_at_clock after turns few stops = record {
    items = items;
    last = now;
    stop = at_the_clock;
    output_failed = made.output_failed;
    few = omega arith;
    serves = has.serves;
    stops = (few, has.goes_on, stops);
    prints = record { later = has.prints.later; rose = has.prints.rose; puts = has.prints.puts };
    says = has.says;
    comes = refl;
  }

  module _ (item : TurnItem) (rested after : ServeState) (rests : RestsAfter tells.clock once (last_item items) now rested)
      (served : Served tells once items item rested after) (out_new err_new : SinkAt) where
    serves_more : Serves tells once first (items ++ item ∷ []) after
    serves_more = next_turn items item now rested after has.serves has.goes_on rests served

    few_more : (turns : ℕ) → length items < turns → length (items ++ item ∷ []) ≤ turns
    few_more turns few = (let longer : length (items ++ item ∷ []) ≡ length items + 1 = one_longer items item in omega arith)

    -- a line ran out of memory
    pub ended_at_line : (output_failed : Bool) (turns : ℕ) → length items < turns
        → PrintsMore tells.output (step_lines item.steps) made.output_failed output_failed out_now out_new false
        → (tells.errors ≡ true → IsSilent err_now err_new)
        → HasEnded tells once turns first after out_first out_new err_first err_new (Own cause.Memory)
    ended_at_line output_failed turns few prints unchecked = record {
      items = items ++ item ∷ [];
      last = after;
      stop = at_a_line;
      output_failed = output_failed;
      few = few_more turns few;
      serves = serves_more;
      stops = refl;
      prints = subst (λ (text : List ℕ). TurnsPrint tells.output at_a_line output_failed text out_first out_new)
          (sym (lines_more items item)) (prints (turn_lines items) out_first has.prints);
      says = λ known. subst (λ (of : List TurnItem). SaysEnds of err_first err_new) (sym (but_last_more items item))
          (ends_silent items err_first err_now err_new (has.says known) (unchecked known));
      comes = refl;
    }

    module _ (next : Progress) (begins : next.first ≡ first_end_or made.first item.end)
        (prints : PrintsMore tells.output (step_lines item.steps) made.output_failed next.output_failed out_now out_new true)
        (says : tells.errors ≡ true → SaysEnd daemon_name item.end err_now err_new) where
      begun_more : next.first ≡ first_end (items ++ item ∷ [])
      begun_more = begins ∙ ap (λ (end : Option TurnEnd). first_end_or end item.end) has.begun ∙ sym (first_more items item)

      prints_more : TurnsPrint tells.output at_the_end next.output_failed (turn_lines (items ++ item ∷ [])) out_first out_new
      prints_more = subst (λ (text : List ℕ). TurnsPrint tells.output at_the_end next.output_failed text out_first out_new)
          (sym (lines_more items item)) (prints (turn_lines items) out_first has.prints)

      says_more : tells.errors ≡ true → SaysEnds (items ++ item ∷ []) err_first err_new
      says_more known = ends_more items item err_first err_now err_new (has.says known) (says known)

      -- the turn was the last
      ended_after : (outcome : ServeOutcome) (turns : ℕ) → length items < turns → is_last_turn once item.end after.spool.daemon.kids ≡ true
          → outcome ≡ damage_outcome item.end (turns_outcome once next.first after.spool.daemon.kids next.output_failed)
          → HasEnded tells once turns first after out_first out_new err_first err_new outcome
      ended_after outcome turns few last comes = record {
        items = items ++ item ∷ [];
        last = after;
        stop = at_the_end;
        output_failed = next.output_failed;
        few = few_more turns few;
        serves = serves_more;
        stops = (
          inr (subst (λ (of : Option TurnItem). ends_after once of after.spool.daemon.kids ≡ true) (sym (last_more items item)) last),
          refl,
        );
        prints = prints_more;
        says = says_more;
        comes =
            comes
            ∙ ap (λ (end : Option TurnEnd).
            damage_outcome item.end (turns_outcome once end after.spool.daemon.kids next.output_failed)) begun_more
            ∙ ap (λ (of : Option TurnItem). last_turn_outcome of
            (turns_outcome once (first_end (items ++ item ∷ [])) after.spool.daemon.kids next.output_failed)) (sym (last_more items item));
      }

      -- a further one is to come
      served_more : is_last_turn once item.end after.spool.daemon.kids ≡ false → next.rest ≡ next_rest once item.end item.now
          → HasServed tells once (items ++ item ∷ []) next first after out_first out_new err_first err_new
      served_more further rest = record {
        serves = serves_more;
        goes_on = subst (λ (of : Option TurnItem). ends_after once of after.spool.daemon.kids ≡ false) (sym (last_more items item)) further;
        begun = begun_more;
        rest = subst (λ (of : Option TurnItem). IsRest once of next.rest) (sym (last_more items item)) rest;
        prints = prints_more;
        says = says_more;
      }

      by_last : (last : Bool) (result : Option ServeOutcome) → is_last_turn once item.end after.spool.daemon.kids ≡ last
          → next.rest ≡ next_rest once item.end item.now
          → result ≡ (if last then Some
          (damage_outcome item.end (turns_outcome once next.first after.spool.daemon.kids next.output_failed)) else None)
          → Proceeds tells once items next first after out_first out_new err_first err_new result
      by_last true None is rest comes = absurd (cc)
      by_last true (Some outcome) is rest comes =
          λ turns few. (let same : outcome ≡ damage_outcome item.end
          (turns_outcome once next.first after.spool.daemon.kids next.output_failed) = cc in ended_after outcome turns few is same)
      by_last false None is rest comes = (item, served_more is rest)
      by_last false (Some outcome) is rest comes = absurd (cc)

      pub proceeds : (result : Option ServeOutcome) → next.rest ≡ next_rest once item.end item.now
          → result ≡ outcome_if once item.end next.first after.spool.daemon.kids next.output_failed
          → Proceeds tells once items next first after out_first out_new err_first err_new result
      proceeds result rest comes = by_last (is_last_turn once item.end after.spool.daemon.kids) result refl rest comes

  -- all turns were made
  pub ended_made : (turns : ℕ) (outcome : ServeOutcome) → length items ≡ turns
      → outcome ≡ turns_outcome once made.first now.spool.daemon.kids made.output_failed
      → HasEnded tells once turns first now out_first out_now err_first err_now outcome
  ended_made turns outcome all comes = record {
    items = items;
    last = now;
    stop = at_the_end;
    output_failed = made.output_failed;
    few = omega arith;
    serves = has.serves;
    stops = (inl all, refl);
    prints = has.prints;
    says = has.says;
    comes =
        comes
        ∙ ap (λ (end : Option TurnEnd). turns_outcome once end now.spool.daemon.kids made.output_failed) has.begun
        ∙ sym (no_damage once (last_item items) now.spool.daemon.kids
        (turns_outcome once (first_end items) now.spool.daemon.kids made.output_failed) has.goes_on);
  }

-- serving, with its last line
pub serving_of : (tells : Telling) (once : Bool) (turns : ℕ) (first now : ServeState) (out_first out_now err_first err_now err_end : SinkAt)
    (outcome : ServeOutcome) (final : Cause)
    → HasEnded tells once turns first now out_first out_now err_first err_now outcome
    → SaysServeOutcome tells.errors outcome err_now err_end final
    → Serving tells once turns first now out_first out_now err_first err_end final
serving_of tells once turns first now out_first out_now err_first err_now err_end outcome final ended says = record {
  items = ended.items;
  last = ended.last;
  stop = ended.stop;
  output_failed = ended.output_failed;
  few = ended.few;
  serves = ended.serves;
  stops = ended.stops;
  prints = ended.prints;
  between = err_now;
  says = ended.says;
  outcome = subst (λ (of : ServeOutcome). SaysServeOutcome tells.errors of err_now err_end final) ended.comes says;
}

-- a turn that was made, as its calls answered
pub answers_turn : (tells : Bool) (item : TurnItem) (was between is : Answers) (had next has : Readers)
    → (tells ≡ true → between ≡ with_now item.now was)
    → next ≡ had → (tells ≡ true → is ≡ with_load item.load between) → has.made_as ≡ next.made_as → next.load_faults ≤ has.load_faults
    → (item.load ≡ None → Rose next.load_faults has.load_faults)
    → AnswersTurn tells item (record { answers = was; readers = had }) (record { answers = is; readers = has })
answers_turn tells item was between is had next has now same load made later unread = record {
  known = λ known. load known ∙ ap (λ (answers : Answers). with_load item.load answers) (now known);
  made_as = made ∙ ap (λ (readers : Readers). readers.made_as) same;
  later = subst (λ (readers : Readers). readers.load_faults ≤ has.load_faults) same later;
  unread = λ none. subst (λ (readers : Readers). Rose readers.load_faults has.load_faults) same (unread none);
}

pub served_by : (tells : Telling) (once : Bool) (items : List TurnItem) (first : Option TurnEnd) (item : TurnItem) (old new : ServeState)
    (mode : Mode) (second : ℤ) → first ≡ first_end items
    → mode ≡ mode_by once first → second ≡ item.now → IsClockSecond item.now → AnswersTurn tells.clock item old.clock new.clock
    → TurnsTo tells.files tells.alone (record { now = second; load = item.load; mode = mode }) old.spool new.spool item.end item.steps
    → Served tells once items item old new
served_by tells once items first item old new mode second begun of_mode same range read turn = record {
  now = range;
  read = read;
  turn = subst (λ (now : ℤ). TurnsTo tells.files tells.alone (record { now = now; load = item.load; mode = mode_after once items })
      old.spool new.spool item.end item.steps) same
      (subst (λ (is : Mode).
      TurnsTo tells.files tells.alone (record { now = second; load = item.load; mode = is }) old.spool new.spool item.end item.steps)
      (of_mode ∙ mode_same once items first begun) turn);
}
