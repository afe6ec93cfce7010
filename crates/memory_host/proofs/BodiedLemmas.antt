-- Kept bodies and those of the directory, call after call.
use Rattle.std.proofs.Common.{◌≡◌, ◌≢◌, ◌⊎◌, ◌<◌, ◌||◌, ◌==◌, ℕ, Bool, true, false, not, List, [], ◌∷◌, ◌++◌, length, cond, sym, ap, subst, ◌∙◌, refl, inl, inr, arith, length-append}
use Rattle.std.proofs.lemmas.List.{get_or-set_same, get_or-set_other, length-set, set_past, get_or_append_left, get_or_past}
use Rattle.std.proofs.lemmas.Bool.{cases_eq, cases_lt, eqb-true, eqb-false}
use Rattle.std.proofs.Math.Seq.{get_or-append_seam}
use Rattle.std.proofs.lemmas.List.Folds.{list_any-append}
use Rattle.host_calls.specs.Directory.{Body, with_body, made_body, written_body, durable_body, is_within}
use Rattle.memory_host.specs.inside.Bodies.{KeptBody, body_of, kept_at, kept_made, kept_written, kept_synced, kept_crashed, none_kept, lies_in, with_kept, with_each}
use Rattle.memory_host.specs.Crash.{crashed_body}
use Rattle.memory_host.specs.inside.Known.{AreBodied, IsSyncedBody, ListsNumber}
use Rattle.memory_host.specs.declared.bodies.Bodies.{Bodies}
use Rattle.memory_host.specs.declared.body.Range.{Range}
use Rattle.memory_host.proofs.BodyLemmas.{picked_bytes-durable}

or_assoc : (a b c : Bool) → (a || (b || (c || false))) ≡ ((a || b) || c)
or_assoc true b c = refl
or_assoc false true c = refl
or_assoc false false true = refl
or_assoc false false false = refl

-- what a body stands for after a write
pub body_of-written : (offset : ℕ) (bytes : List ℕ) (kept : KeptBody)
    → body_of (kept_written offset bytes kept) ≡ written_body offset bytes (body_of kept)
body_of-written offset bytes kept i =
    let range : Range = record { offset = offset; count = length bytes } in
    record {
      bytes = (written_body offset bytes (body_of kept)).bytes;
      is_synced = kept.is_synced;
      is_unsynced_at = λ place. (ap (λ b. not kept.is_synced || b) (list_any-append (λ range. is_within range.offset range.count place)
          kept.ranges (range ∷ [])) ∙ or_assoc (not kept.is_synced) (lies_in kept.ranges place) (is_within offset (length bytes) place)) i;
    }

-- a crash changes no synced body
pub crashed-durable : (pick : ℕ) (kept : KeptBody) → kept_crashed pick (kept_synced kept) ≡ kept_synced kept
crashed-durable pick kept = ap (λ bytes. record { bytes = bytes; is_synced = true; ranges = [] })
    (picked_bytes-durable pick (λ place. false) (λ place. refl) 0 kept.bytes)

-- Bodies by their numbers.

-- another number has the same body
kept_at-other : (change : KeptBody → KeptBody) (number : ℕ) (list : List KeptBody) (other : ℕ) → other ≢ number
    → kept_at (with_kept change number list) other ≡ kept_at list other
kept_at-other change number list other differ = get_or-set_other list number other (change (kept_at list number)) none_kept differ

kept_at-own : (change : KeptBody → KeptBody) (number : ℕ) (list : List KeptBody) → number < length list
    → kept_at (with_kept change number list) number ≡ change (kept_at list number)
kept_at-own change number list inside = get_or-set_same list number (change (kept_at list number)) none_kept inside

pub length-with_kept : (change : KeptBody → KeptBody) (number : ℕ) (list : List KeptBody)
    → length (with_kept change number list) ≡ length list
length-with_kept change number list = length-set list number (change (kept_at list number))

module _ (change : KeptBody → KeptBody) (still : change none_kept ≡ none_kept) where
  -- the body of the number is changed
  kept_at-this : (number : ℕ) (list : List KeptBody) → kept_at (with_kept change number list) number ≡ change (kept_at list number)
  kept_at-this number list = elim (cases_lt number (length list)) [
    | inl inside ↦ kept_at-own change number list inside
    | inr beyond ↦ ap (λ l. kept_at l number) (set_past list number (change (kept_at list number)) beyond)
        ∙ get_or_past list number none_kept beyond ∙ sym still ∙ ap change (sym (get_or_past list number none_kept beyond))
  ]

  module _ (again : (kept : KeptBody) → change (change kept) ≡ change kept) where
    -- each body is as it will be, or listed
    abbrev AreDone : List KeptBody → List ℕ → Type 0
    AreDone list numbers = (number : ℕ) → (change (kept_at list number) ≡ kept_at list number) ⊎ ListsNumber numbers number

    -- one body more is as it will be
    done_more : (first : ℕ) (others : List ℕ) (list : List KeptBody) → AreDone list (first ∷ others)
        → AreDone (with_kept change first list) others
    done_more first others list done other = elim (cases_eq other first) [
      | inl same ↦ inl (subst (λ n. change (kept_at (with_kept change first list) n) ≡ kept_at (with_kept change first list) n) (sym same)
          (ap change (kept_at-this first list) ∙ again (kept_at list first) ∙ sym (kept_at-this first list)))
      | inr differ ↦ elim (done other) [
        | inl is ↦ inl (ap change (kept_at-other change first list other differ) ∙ is ∙ sym (kept_at-other change first list other differ))
        | inr listed ↦ elim listed [ inl same ↦ absurd (differ same) | inr later ↦ inr later ]
      ]
    ]

    -- a body that is changed twice is changed once
    changed_once : (first : ℕ) (list : List KeptBody) (number : ℕ)
        → change (kept_at (with_kept change first list) number) ≡ change (kept_at list number)
    changed_once first list number = elim (cases_eq number first) [
      | inl same ↦ subst (λ n. change (kept_at (with_kept change first list) n) ≡ change (kept_at list n)) (sym same)
          (ap change (kept_at-this first list) ∙ again (kept_at list first))
      | inr differ ↦ ap change (kept_at-other change first list number differ)
    ]

    -- all bodies are changed where those that are not listed stay so
    pub with_each-all : (numbers : List ℕ) (list : List KeptBody) → AreDone list numbers → (number : ℕ)
        → kept_at (with_each change numbers list) number ≡ change (kept_at list number)
    with_each-all [] list done number = elim (done number) [ inl same ↦ sym same | inr listed ↦ absurd listed ]
    with_each-all (first ∷ others) list done number =
        with_each-all others (with_kept change first list) (done_more first others list done) number
        ∙ changed_once first list number

  pub length-with_each : (numbers : List ℕ) (list : List KeptBody) → length (with_each change numbers list) ≡ length list
  length-with_each [] list = refl
  length-with_each (first ∷ others) list = length-with_each others (with_kept change first list) ∙ length-with_kept change first list

-- The bodies after each kind of step.

Lists-left : (first second : List ℕ) (number : ℕ) → ListsNumber first number → ListsNumber (first ++ second) number
Lists-left [] second number listed = absurd listed
Lists-left (one ∷ others) second number listed =
    elim listed [ inl same ↦ inl same | inr later ↦ inr (Lists-left others second number later) ]

Lists-last : (first : List ℕ) (number : ℕ) → ListsNumber (first ++ number ∷ []) number
Lists-last [] number = inl refl
Lists-last (one ∷ others) number = inr (Lists-last others number)

-- one body of all, and the others
at_number : (bodies : ℕ → Body) (number : ℕ) (value new : Body) (other : ℕ) → (other ≡ number → new ≡ value)
    → (other ≢ number → new ≡ bodies other) → with_body bodies number value other ≡ new
at_number bodies number value new other own else_same = by_case (other == number) refl where
  by_case : (b : Bool) → (other == number) ≡ b → cond b value (bodies other) ≡ new
  by_case true same = sym (own (eqb-true other number same))
  by_case false differ = sym (else_same (eqb-false other number differ))

module _ (body : ℕ → Body) (old new : Bodies) (is : AreBodied body old) where
  -- one body changed
  bodied_changed : (change : KeptBody → KeptBody) (meaning : Body → Body) → change none_kept ≡ none_kept → ((kept : KeptBody)
      → body_of (change kept) ≡ meaning (body_of kept)) → (number : ℕ) → new.list.items ≡ with_kept change number old.list.items
      → ((other : ℕ) → (IsSyncedBody (kept_at old.list.items other) ⊎ ListsNumber old.unsettled.items other)
      → (IsSyncedBody (kept_at new.list.items other) ⊎ ListsNumber new.unsettled.items other))
      → AreBodied (with_body body number (meaning (body number))) new
  bodied_changed change meaning still means number done keeps = record {
    each = λ other. at_number body number (meaning (body number)) (body_of (kept_at new.list.items other)) other
        (λ same. ap (λ l. body_of (kept_at l other)) done ∙ ap (λ n. body_of (kept_at (with_kept change number old.list.items) n)) same
        ∙ ap body_of (kept_at-this change still number old.list.items) ∙ means (kept_at old.list.items number)
        ∙ ap meaning (sym (is.each number)))
        (λ differ. ap (λ l. body_of (kept_at l other)) done
        ∙ ap body_of (kept_at-other change number old.list.items other differ) ∙ sym (is.each other));
    listed = λ other. keeps other (is.listed other);
  }

  -- all bodies changed, where those that are not listed stay so
  bodied_all : (change : KeptBody → KeptBody) (meaning : Body → Body) → change none_kept ≡ none_kept
      → ((kept : KeptBody) → change (change kept) ≡ change kept) → ((kept : KeptBody) → IsSyncedBody kept → change kept ≡ kept)
      → ((kept : KeptBody) → IsSyncedBody (change kept)) → ((kept : KeptBody) → body_of (change kept) ≡ meaning (body_of kept))
      → new.list.items ≡ with_each change old.unsettled.items old.list.items → AreBodied (λ number. meaning (body number)) new
  bodied_all change meaning still again stays durable means done =
      let at : (number : ℕ) → kept_at new.list.items number ≡ change (kept_at old.list.items number) =
      λ number. ap (λ l. kept_at l number) done ∙ with_each-all change still again old.unsettled.items old.list.items (λ other.
      elim (is.listed other) [ inl settled ↦ inl (stays (kept_at old.list.items other) settled) | inr listed ↦ inr listed ]) number in
      record {
        each = λ number. ap meaning (is.each number) ∙ sym (means (kept_at old.list.items number)) ∙ ap body_of (sym (at number));
        listed = λ number. inl (subst IsSyncedBody (sym (at number)) (durable (kept_at old.list.items number)));
      }

  pub bodied_synced : (number : ℕ) → new.list.items ≡ with_kept kept_synced number old.list.items
      → new.unsettled.items ≡ old.unsettled.items → AreBodied (with_body body number (durable_body (body number))) new
  bodied_synced number done same =
      bodied_changed kept_synced durable_body refl (λ kept. refl) number done (λ other settled. by_number other settled)
    where
      by_number : (other : ℕ) → (IsSyncedBody (kept_at old.list.items other) ⊎ ListsNumber old.unsettled.items other)
          → (IsSyncedBody (kept_at new.list.items other) ⊎ ListsNumber new.unsettled.items other)
      by_number other settled = elim (cases_eq other number) [
        | inl equal ↦ inl (subst IsSyncedBody (sym (ap (λ l. kept_at l other) done
            ∙ ap (kept_at (with_kept kept_synced number old.list.items)) equal ∙ kept_at-this kept_synced refl number old.list.items)) refl)
        | inr differ ↦ elim settled [
          | inl durable ↦ inl (subst IsSyncedBody
              (sym (ap (λ l. kept_at l other) done ∙ kept_at-other kept_synced number old.list.items other differ)) durable)
          | inr listed ↦ inr (subst (λ l. ListsNumber l other) (sym same) listed)
        ]
      ]

  pub bodied_written : (offset : ℕ) (bytes : List ℕ) (number : ℕ) → number < length old.list.items → new.list.items
      ≡ with_kept (kept_written offset bytes) number old.list.items → new.unsettled.items ≡ old.unsettled.items ++ number ∷ []
      → AreBodied (with_body body number (written_body offset bytes (body number))) new
  bodied_written offset bytes number inside done more = record {
    each = λ other. at_number body number (written_body offset bytes (body number)) (body_of (kept_at new.list.items other)) other
        (λ same. ap (λ l. body_of (kept_at l other)) done
        ∙ ap (λ n. body_of (kept_at (with_kept (kept_written offset bytes) number old.list.items) n)) same
        ∙ ap body_of (kept_at-own (kept_written offset bytes) number old.list.items inside)
        ∙ body_of-written offset bytes (kept_at old.list.items number) ∙ ap (written_body offset bytes) (sym (is.each number)))
        (λ differ. ap (λ l. body_of (kept_at l other)) done
        ∙ ap body_of (kept_at-other (kept_written offset bytes) number old.list.items other differ) ∙ sym (is.each other));
    listed = λ other. elim (cases_eq other number) [
      | inl equal ↦ inr (subst (λ l. ListsNumber l other) (sym more)
          (subst (λ n. ListsNumber (old.unsettled.items ++ number ∷ []) n) (sym equal) (Lists-last old.unsettled.items number)))
      | inr differ ↦ elim (is.listed other) [
        | inl durable ↦ inl (subst IsSyncedBody
            (sym (ap (λ l. kept_at l other) done ∙ kept_at-other (kept_written offset bytes) number old.list.items other differ)) durable)
        | inr listed ↦ inr (subst (λ l. ListsNumber l other) (sym more) (Lists-left old.unsettled.items (number ∷ []) other listed))
      ]
    ];
  }

  pub bodied_made : (bytes : List ℕ) → new.list.items ≡ old.list.items ++ kept_made bytes ∷ [] → new.unsettled.items
      ≡ old.unsettled.items ++ length old.list.items ∷ [] → AreBodied (with_body body (length old.list.items) (made_body bytes)) new
  bodied_made bytes done more = record {
    each = λ other. at_number body (length old.list.items) (made_body bytes) (body_of (kept_at new.list.items other)) other
        (λ same. ap (λ l. body_of (kept_at l other)) done ∙ ap (λ n. body_of (kept_at (old.list.items ++ kept_made bytes ∷ []) n)) same
        ∙ ap body_of (get_or-append_seam old.list.items (kept_made bytes) [] none_kept))
        (λ differ. ap body_of (elsewhere other differ) ∙ sym (is.each other));
    listed = λ other. elim (cases_eq other (length old.list.items)) [
      | inl equal ↦ inr (subst (λ l. ListsNumber l other) (sym more) (subst (λ n. ListsNumber
          (old.unsettled.items ++ length old.list.items ∷ []) n) (sym equal) (Lists-last old.unsettled.items (length old.list.items))))
      | inr differ ↦ elim (is.listed other) [
        | inl durable ↦ inl (subst IsSyncedBody (sym (elsewhere other differ)) durable)
        | inr listed ↦
            inr (subst (λ l. ListsNumber l other) (sym more) (Lists-left old.unsettled.items (length old.list.items ∷ []) other listed))
      ]
    ];
  } where
    elsewhere : (other : ℕ) → other ≢ length old.list.items → kept_at new.list.items other ≡ kept_at old.list.items other
    elsewhere other differ = ap (λ l. kept_at l other) done ∙ (elim (cases_lt other (length old.list.items)) [
      | inl inside ↦ get_or_append_left old.list.items (kept_made bytes ∷ []) none_kept other inside
      | inr beyond ↦ get_or_past (old.list.items ++ kept_made bytes ∷ []) other none_kept (omega
          (arith, length-append old.list.items (kept_made bytes ∷ []), differ)) ∙ sym (get_or_past old.list.items other none_kept beyond)
    ])

  pub bodied_settled : new.list.items ≡ with_each kept_synced old.unsettled.items old.list.items
      → AreBodied (λ number. durable_body (body number)) new
  bodied_settled done = bodied_all kept_synced durable_body refl (λ kept. refl) (λ kept durable. durable) (λ kept. refl) (λ kept. refl) done

  pub bodied_crashed : (pick : ℕ) → new.list.items ≡ with_each (kept_crashed pick) old.unsettled.items old.list.items
      → AreBodied (λ number. crashed_body pick (body number)) new
  bodied_crashed pick done = bodied_all (kept_crashed pick) (crashed_body pick) (crashed-durable pick none_kept)
      (λ kept. crashed-durable pick (kept_crashed pick kept)) (λ kept durable. ap (kept_crashed pick) (sym durable)
      ∙ crashed-durable pick kept ∙ durable) (λ kept. refl) (λ kept. refl) done
