-- The events of a simulated run: a day can have each of them, and no reboot lights a fuse.
use Rattle.std.proofs.Common.{◌≡◌, ◌+◌, ◌*◌, ◌%◌, ◌==◌, ◌<◌, ◌≤◌, ◌++◌, [], ◌∷◌, ℕ, Bool, true, false, zero, suc, List, ◌∙◌, refl, arith, codes, if◌then◌else◌}
use Rattle.std.specs.Prelude.{Option, Some, None}
use Rattle.std.specs.List.{list_all}
use Rattle.std.proofs.lemmas.Bool.Decides.{nat_tests}
use Rattle.std.proofs.lemmas.List.Folds.{list_all-append}
use Rattle.at_words.specs.Tools.{tool_of_name}
use Rattle.at_day.specs.EventsDays.{is_day_event}
use Rattle.at_day.specs.declared.event.Event.{Event}
use Rattle.at_day.specs.declared.event.Event.TheVariants.{Command, Turn, Reboot}
use Rattle.at_day.specs.Made.{echo_of, made_command, made_event, made_events, removal_words, second_of}
use Rattle.at_words.specs.declared.atday.TheConstants.{MAX_EVENTS}

either : (P : Event → Type 0) (which : Bool) (one other : Event) → P one → P other → P (if which then one else other)
either P true one other has had = has
either P false one other has had = had

-- what is so of each kind of made event is so of the event of any number
made_so : (P : Event → Type 0) (number : ℕ) →
    P (made_command number (codes "at" ∷ codes "now" ∷ []) (echo_of number)) →
    P (made_command number (codes "at" ∷ codes "now" ∷ codes "+" ∷ codes "30" ∷ codes "minutes" ∷ []) (echo_of number)) →
    P (made_command number (codes "batch" ∷ []) (echo_of number)) →
    P (made_command number (codes "atq" ∷ []) []) →
    P (made_command number (removal_words number) []) →
    ((load : Option ℕ) → P (Turn (second_of number) load)) →
    P (Reboot number None) → P (made_event number)
unfolding made_event
made_so P number first second third fourth fifth turn reboot =
    either P (number % 8 == 0) _ _ first
    (either P (number % 8 == 1) _ _ second
    (either P (number % 8 == 2) _ _ third
    (either P (number % 8 == 3) _ _ (turn (Some 100))
    (either P (number % 8 == 4) _ _ fourth
    (either P (number % 8 == 5) _ _ (turn (Some (37 * number % 300)))
    (either P (number % 8 == 6) _ _ fifth
    (either P (number % 32 == 31) _ _ reboot (turn (Some 0)))))))))

-- a day can have each of them

turn_of_day : (number : ℕ) → number < MAX_EVENTS → (load : Option ℕ) → is_day_event (Turn (second_of number) load) ≡ true
turn_of_day number few load =
    let inside : 1735689600 + 60 * number ≤ 253370764799 = omega arith in grind (arith, nat_tests)

event_of_day : (number : ℕ) → number < MAX_EVENTS → is_day_event (made_event number) ≡ true
unfolding tool_of_name
event_of_day number few =
    made_so (λ event. is_day_event event ≡ true) number refl refl refl refl refl (turn_of_day number few) refl

pub made_events_of_day : (count : ℕ) → count ≤ MAX_EVENTS → list_all is_day_event (made_events count) ≡ true
unfolding made_events
made_events_of_day zero few = refl
made_events_of_day (suc number) few =
    let prefix : list_all is_day_event (made_events number) ≡ true = made_events_of_day number (omega arith) in
    let last : is_day_event (made_event number) ≡ true = event_of_day number (omega arith) in
    list_all-append is_day_event (made_events number) (made_event number ∷ []) ∙ rw (prefix, last) refl

-- no reboot of theirs lights a fuse

abbrev pub LightsNoFuse : Event → Type 0
LightsNoFuse (Command words caller input now) = Unit {0}
LightsNoFuse (Turn now load) = Unit {0}
LightsNoFuse (Reboot pick fuse) = fuse ≡ None

abbrev pub LightNoFuse : List Event → Type 0
LightNoFuse [] = Unit {0}
LightNoFuse (event ∷ later) = LightsNoFuse event × LightNoFuse later

none_lit : (prefix : List Event) (event : Event) → LightNoFuse prefix → LightsNoFuse event → LightNoFuse (prefix ++ event ∷ [])
none_lit [] event none one = (one, tt)
none_lit (earlier ∷ later) event none one = (none.0, none_lit later event none.1 one)

pub made_events_light_none : (count : ℕ) → LightNoFuse (made_events count)
unfolding made_events
made_events_light_none zero = tt
made_events_light_none (suc number) =
    none_lit (made_events number) (made_event number) (made_events_light_none number)
    (made_so LightsNoFuse number tt tt tt tt tt (λ load. tt) refl)
