-- One event and one more child.
use Rattle.std.proofs.Common.{◌≡◌, ◌+◌, ◌*◌, ◌%◌, ◌++◌, ◌∷◌, [], ℕ, List, Some, Result, IfOk, add-one, codes, refl, ap, sym, subst, ◌∙◌}
use Rattle.at_day.specs.declared.event.Event.{Event}
use Rattle.at_day.specs.declared.event.Event.TheVariants.{Turn}
use Rattle.memory_host.specs.declared.child_plans.ChildPlan.{ChildPlan}
use Rattle.at_day.specs.Made.{echo_of, last_of_eight, made_command, made_event, made_events, removal_words, second_of}
use Rattle.at_day.specs.Plans.{made_child, made_children}

pub made_events-more : (number : ℕ) → made_events (number + 1) ≡ made_events number ++ made_event number ∷ []
unfolding made_events
made_events-more number = rw add-one refl

pub made_children-more : (number : ℕ) → made_children (number + 1) ≡ made_children number ++ made_child number ∷ []
unfolding made_children
made_children-more number = rw add-one refl

pub events_more : (events after : List Event) (event : Event) (number : ℕ) → events ≡ made_events number →
    after ≡ events ++ event ∷ [] → event ≡ made_event number → after ≡ made_events (number + 1)
events_more events after event number so is made =
    is ∙ (ap (λ (list : List Event). list ++ event ∷ []) so
    ∙ (ap (λ (one : Event). made_events number ++ one ∷ []) made ∙ sym (made_events-more number)))

pub children_more : (plans after : List ChildPlan) (plan : ChildPlan) (number : ℕ) → plans ≡ made_children number →
    after ≡ plans ++ plan ∷ [] → plan ≡ made_child number → after ≡ made_children (number + 1)
children_more plans after plan number so is made =
    is ∙ (ap (λ (list : List ChildPlan). list ++ plan ∷ []) so
    ∙ (ap (λ (one : ChildPlan). made_children number ++ one ∷ []) made ∙ sym (made_children-more number)))

pub no_events : (events : List Event) → events ≡ [] → events ≡ made_events 0
unfolding made_events
no_events events none = none

pub no_children : (plans : List ChildPlan) → plans ≡ [] → plans ≡ made_children 0
unfolding made_children
no_children plans none = none

-- the event of a number, by its place in eight
module _ (number : ℕ) where
  pub made_now : number % 8 ≡ 0 → made_event number ≡ made_command number (codes "at" ∷ codes "now" ∷ []) (echo_of number)
  unfolding made_event
  made_now is = rw is refl

  pub made_later : number % 8 ≡ 1 → made_event number
      ≡ made_command number (codes "at" ∷ codes "now" ∷ codes "+" ∷ codes "30" ∷ codes "minutes" ∷ []) (echo_of number)
  unfolding made_event
  made_later is = rw is refl

  pub made_batch : number % 8 ≡ 2 → made_event number ≡ made_command number (codes "batch" ∷ []) (echo_of number)
  unfolding made_event
  made_batch is = rw is refl

  pub made_turn : number % 8 ≡ 3 → made_event number ≡ Turn (second_of number) (Some 100)
  unfolding made_event
  made_turn is = rw is refl

  pub made_listing : number % 8 ≡ 4 → made_event number ≡ made_command number (codes "atq" ∷ []) []
  unfolding made_event
  made_listing is = rw is refl

  pub made_loaded : number % 8 ≡ 5 → made_event number ≡ Turn (second_of number) (Some (37 * number % 300))
  unfolding made_event
  made_loaded is = rw is refl

  pub made_removal : number % 8 ≡ 6 → made_event number ≡ made_command number (removal_words number) []
  unfolding made_event
  made_removal is = rw is refl

  pub made_last : number % 8 ≡ 7 → made_event number ≡ last_of_eight number
  unfolding made_event
  made_last is = rw is refl

  -- a command by its words and its input
  pub command_is : (words others : List (List ℕ)) (input other : List ℕ) → words ≡ others → input ≡ other →
      made_command number words input ≡ made_command number others other
  command_is words others input other first second =
      ap (λ (of : List (List ℕ)). made_command number of input) first ∙ ap (λ (of : List ℕ). made_command number others of) second

pub as_made : {E : Type 0} (result : Result Event E) (one other : Event) → one ≡ other →
    IfOk result (λ event. event ≡ one) → IfOk result (λ event. event ≡ other)
as_made result one other is ok = subst (λ (of : Event). IfOk result (λ event. event ≡ of)) is ok
