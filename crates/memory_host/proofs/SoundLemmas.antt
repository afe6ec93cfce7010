-- In each choice of the pending changes no number occurs twice, and all are below the next one.
use Rattle.std.proofs.Common.{◌≡◌, ◌⊎◌, ◌+◌, ◌<◌, ℕ, Bool, true, false, List, [], ◌∷◌, cond, sym, ap, subst, ◌∙◌, refl, inl, inr, arith}
use Rattle.std.specs.Prelude.{Option, Some, None, length}
use Rattle.std.specs.Ordering.{eq_by_cmp}
use Rattle.std.specs.FinMap as finite
use Rattle.host_calls.specs.Directory.{Change, Made, Renamed, Removed, Names, AreAfterSome, name_cmp, changed_names}
use Rattle.memory_host.specs.Crash.{is_picked, picked_names}
use Rattle.memory_host.specs.inside.Table.{Holders, changed_at, moved_at, put_at}
use Rattle.memory_host.specs.inside.Known.{KeepsNumbersApart}
use Rattle.memory_host.proofs.NamedLemmas.{get-changed}
use Rattle.memory_host.proofs.TableLemmas.{same_name, same_name-refl}

-- No number is at two names, and all of them are below the next one.
record AreApart (holders : Holders) (next : ℕ) : Type 0 where
  below : (name : List ℕ) (number : ℕ) → holders name ≡ Some number → number < next
  apart : (first second : List ℕ) (number : ℕ) → holders first ≡ Some number → holders second ≡ Some number → first ≡ second

-- what is at a name after a put: the value itself, or what was there
put_cases : (name : List ℕ) (value : Option ℕ) (holders : Holders) (other : List ℕ) (number : ℕ)
    → put_at name value holders other ≡ Some number → ((name ≡ other) × (value ≡ Some number)) ⊎ (holders other ≡ Some number)
put_cases name value holders other number is = by_case (eq_by_cmp name_cmp name other) refl is where
  by_case : (b : Bool) → eq_by_cmp name_cmp name other ≡ b → cond b value (holders other) ≡ Some number
      → ((name ≡ other) × (value ≡ Some number)) ⊎ (holders other ≡ Some number)
  by_case true same is = inl (same_name name other same, is)
  by_case false same is = inr is

-- a number goes to a name where no other name has it
apart_put : (name : List ℕ) (body : ℕ) (holders : Holders) (next : ℕ) → AreApart holders next → body < next
    → ((other : List ℕ) → ¬ (holders other ≡ Some body)) → AreApart (put_at name (Some body) holders) next
apart_put name body holders next is small alone = record {
  below = λ other number at. elim (put_cases name (Some body) holders other number at) [
    | inl own ↦ let same : body ≡ number = cc in subst (λ n. n < next) same small
    | inr before ↦ is.below other number before
  ];
  apart = λ first second number at_first at_second. elim (put_cases name (Some body) holders first number at_first) [
    | inl own ↦ elim (put_cases name (Some body) holders second number at_second) [
      | inl also ↦ sym own.0 ∙ also.0
      | inr before ↦ let same : number ≡ body = cc in absurd (alone second (before ∙ ap Some same))
    ]
    | inr before ↦ elim (put_cases name (Some body) holders second number at_second) [
      | inl own ↦ let same : number ≡ body = cc in absurd (alone first (before ∙ ap Some same))
      | inr also ↦ is.apart first second number before also
    ]
  ];
}

-- a name holds nothing any more
apart_drop : (name : List ℕ) (holders : Holders) (next : ℕ) → AreApart holders next → AreApart (put_at name None holders) next
apart_drop name holders next is = record {
  below = λ other number at. elim (put_cases name None holders other number
      at) [ inl own ↦ absurd (none_some number own.1) | inr before ↦ is.below other number before ];
  apart = λ first second number at_first at_second. elim (put_cases name None holders first number at_first) [
    | inl own ↦ absurd (none_some number own.1)
    | inr before ↦ elim (put_cases name None holders second number
        at_second) [ inl own ↦ absurd (none_some number own.1) | inr also ↦ is.apart first second number before also ]
  ];
} where
  none_some : (number : ℕ) → ◌≡◌ {A = Option ℕ} None (Some number) → ⊥
  none_some number e = cc

-- the name that is dropped held the number, and so no other holds it
alone_after_drop : (name : List ℕ) (body : ℕ) (holders : Holders) (next : ℕ) → AreApart holders next → holders name ≡ Some body
    → (other : List ℕ) → ¬ (put_at name None holders other ≡ Some body)
alone_after_drop name body holders next is held other at = by_case (eq_by_cmp name_cmp name other) refl at where
  by_case : (b : Bool) → eq_by_cmp name_cmp name other ≡ b → cond b None (holders other) ≡ Some body → ⊥
  by_case true same found = cc
  by_case false same found =
      let own : eq_by_cmp name_cmp other other ≡ false =
      subst (λ n. eq_by_cmp name_cmp n other ≡ false) (is.apart name other body held found) same in
      let yes : eq_by_cmp name_cmp other other ≡ true = same_name-refl other in
      cc

apart_moved : (held : Option ℕ) (from to : List ℕ) (holders : Holders) (next : ℕ) → AreApart holders next → holders from ≡ held
    → AreApart (moved_at held from to holders) next
apart_moved None from to holders next is at = is
apart_moved (Some body) from to holders next is at =
    apart_put to body (put_at from None holders) next (apart_drop from holders next is) (is.below from body at)
    (alone_after_drop from body holders next is at)

-- a file is made under the next number
abbrev pub AllowsChange : Change → ℕ → Type 0
AllowsChange (Made name body) next = body ≡ next
AllowsChange (Renamed from to) next = Unit {0}
AllowsChange (Removed name) next = Unit {0}

-- the next number after a change
abbrev pub next_after : Change → ℕ → ℕ
next_after (Made name body) next = next + 1
next_after (Renamed from to) next = next
next_after (Removed name) next = next

self_below : (n : ℕ) → n < n → ⊥
self_below n h = absurd (omega arith)

apart_more : (holders : Holders) (next : ℕ) → AreApart holders next → AreApart holders (next + 1)
apart_more holders next is =
    record { below = λ name number at. let small : number < next = is.below name number at in omega arith; apart = is.apart }

apart_later : (holders : Holders) (change : Change) (next : ℕ) → AreApart holders next → AreApart holders (next_after change next)
apart_later holders (Made name body) next is = apart_more holders next is
apart_later holders (Renamed from to) next is = is
apart_later holders (Removed name) next is = is

-- a change keeps the numbers apart, where a new one is above all others
apart_changed : (change : Change) (holders : Holders) (next : ℕ) → AreApart holders next → AllowsChange change next
    → AreApart (changed_at change holders) (next_after change next)
apart_changed (Made name body) holders next is new = apart_put name body holders (next + 1) (apart_more holders next is) (subst (λ n. n
    < next + 1) (sym new) (omega arith)) (λ other at. self_below body (subst (λ n. body < n) (sym new) (is.below other body at)))
apart_changed (Renamed from to) holders next is new = apart_moved (holders from) from to holders next is refl
apart_changed (Removed name) holders next is new = apart_drop name holders next is

-- the same by the look-ups of a map
apart_same : (first second : Holders) (next : ℕ) → ((name : List ℕ) → first name ≡ second name) → AreApart first next → AreApart second next
apart_same first second next same is = record {
  below = λ name number at. is.below name number (same name ∙ at);
  apart = λ one other number at_one at_other. is.apart one other number (same one ∙ at_one) (same other ∙ at_other);
}

abbrev AreAllApart : Names → List Change → ℕ → Type 0
AreAllApart durable pending next = (names : Names) → AreAfterSome pending durable names → AreApart (finite.get names) next

all_apart : (durable : Names) (pending : List Change) (next : ℕ) → KeepsNumbersApart durable pending next → AreAllApart durable pending next
all_apart durable pending next is = λ names chosen. record { below = is.below names chosen; apart = is.apart names chosen }

sound_from : (durable : Names) (pending : List Change) (next : ℕ) → AreAllApart durable pending next
    → KeepsNumbersApart durable pending next
sound_from durable pending next all =
    record { below = λ names chosen. (all names chosen).below; apart = λ names chosen. (all names chosen).apart }

-- one change more
pub sound_change : (durable : Names) (pending : List Change) (next : ℕ) (change : Change) → AllowsChange change next
    → KeepsNumbersApart durable pending next → KeepsNumbersApart durable (change ∷ pending) (next_after change next)
sound_change durable pending next change new is = sound_from durable (change ∷ pending) (next_after change next)
    (λ names chosen. by_choice names chosen.0 (all_apart durable pending next is chosen.0 chosen.1) chosen.2)
  where
    by_choice : (names before : Names) → AreApart (finite.get before) next → (names ≡ before) ⊎ (names ≡ changed_names change before)
        → AreApart (finite.get names) (next_after change next)
    by_choice names before apart either = elim either [
      | inl same ↦
          subst (λ m. AreApart (finite.get m) (next_after change next)) (sym same) (apart_later (finite.get before) change next apart)
      | inr done ↦ subst (λ m. AreApart (finite.get m) (next_after change next)) (sym done)
          (apart_same (changed_at change (finite.get before)) (finite.get (changed_names change before)) (next_after change next)
          (λ name. sym (get-changed change before name)) (apart_changed change (finite.get before) next apart new))
    ]

-- one of the choices was taken
pub sound_chosen : (durable : Names) (pending : List Change) (next : ℕ) (names : Names) → AreAfterSome pending durable names
    → KeepsNumbersApart durable pending next → KeepsNumbersApart names [] next
sound_chosen durable pending next names chosen is = sound_from names [] next
    (λ taken same. subst (λ m. AreApart (finite.get m) next) (sym same) (all_apart durable pending next is names chosen))

-- the changes that are picked are a choice
pub picked_chosen : (pick : ℕ) (pending : List Change) (durable : Names) → AreAfterSome pending durable (picked_names pick pending durable)
picked_chosen pick [] durable = refl
picked_chosen pick (change ∷ older) durable =
    (picked_names pick older durable, picked_chosen pick older durable, by_pick (is_picked pick (length older)))
  where
    by_pick : (b : Bool) → (cond b (changed_names change (picked_names pick older durable)) (picked_names pick older durable)
        ≡ picked_names pick older durable) ⊎ (cond b (changed_names change (picked_names pick older durable))
        (picked_names pick older durable) ≡ changed_names change (picked_names pick older durable))
    by_pick true = inr refl
    by_pick false = inl refl
