-- Counts of each owner's records, with one more record.
use Rattle.std.proofs.Common.{◌≡◌, ◌≢◌, ◌∙◌, ℕ, ◌<◌, ◌≤◌, ◌+◌, ◌^◌, min, set, Bool, true, false, cond, List, [], ◌∷◌, ◌++◌, length, get_or, refl, sym, ap, subst, arith, length-append}
use Rattle.std.specs.Prelude.{◌==◌, ◌&&◌, ◌||◌, Option, Some, None, slice_index}
use Rattle.std.specs.BTreeMap as tree
use Rattle.std.specs.BTreeMap.{BTreeMap, is_at}
use Rattle.std.specs.Cmp.Lexicographic.{slice_cmp}
use Rattle.std.specs.declared.cmp.Ordering.{Ordering}
use Rattle.std.specs.declared.cmp.Ordering.TheVariants.{Equal, Greater, Less}
use Rattle.std.specs.List.{count_by}
use Rattle.std.specs.Map.{lookup}
use Rattle.std.specs.Ordering.{is_eq, nat_cmp, ordering_then}
use Rattle.std.specs.Str.{bytes_eq}
use Rattle.std.proofs.Math.Bool.{or-true}
use Rattle.std.proofs.lemmas.Bool.{and_parts, and_right, eqb-true, or_parts}
use Rattle.std.proofs.lemmas.Bool.Decides.{nat_tests}
use Rattle.std.proofs.lemmas.Grind.{get_or-set_at}
use Rattle.std.proofs.lemmas.List.{get_or-set_other}
use Rattle.std.proofs.lemmas.List.Folds.{list_any-append}
use Rattle.std.proofs.lemmas.List.Sums.{count_by-le-length, sum_by-cons, sum_by_push}
use Rattle.std.proofs.lemmas.Map.Text.{is_eq-slice_cmp}
use Rattle.std.proofs.lemmas.Slice.Eq.{bytes_eq-Decides}
use Rattle.record_lines.proofs.SayingLemmas.{none_says}
use Rattle.at_account.specs.declared.ledger.RecordState.{RecordState}
use Rattle.at_account.specs.declared.record.AccountRecord.{AccountRecord}
use Rattle.at_account.specs.declared.record.Owner.{Owner}
use Rattle.at_account.specs.Records.{has_record_of, is_owner, is_seeing_of, is_seen_with, is_account_record_of}
use Rattle.at_account.specs.RecordStates.{IsRecordState}
use Rattle.at_account.specs.Totals.{counts_for, kind_of_event}
use Rattle.at_account.specs.inside.OwnerCounts.{AreRaised, IsTallied, IsTallyOf, Pair, counts_so_far, is_met, owner_pair, pair_cmp}

-- bytes are the same either way
same_bytes : (first second : List ℕ) → bytes_eq first second ≡ bytes_eq second first
same_bytes first second = by_test (bytes_eq first second) refl (bytes_eq second first) refl where
  by_test : (one : Bool) → bytes_eq first second ≡ one → (other : Bool) → bytes_eq second first ≡ other
      → bytes_eq first second ≡ bytes_eq second first
  by_test true is true also = is ∙ sym also
  by_test false is false also = is ∙ sym also
  by_test true is false also = is ∙ sym ((bytes_eq-Decides second first).1 (sym ((bytes_eq-Decides first second).0 is)))
  by_test false is true also = (bytes_eq-Decides first second).1 (sym ((bytes_eq-Decides second first).0 also)) ∙ sym also

equal_then : (first second : Ordering) → is_eq (ordering_then first second) ≡ (is_eq first && is_eq second)
equal_then Less second = refl
equal_then Equal second = refl
equal_then Greater second = refl

equal_numbers : (first second : ℕ) → is_eq (nat_cmp first second) ≡ (second == first)
equal_numbers first second = grind (arith, nat_tests)

-- the key of an owner is that of no other
pub at_owner : (owner other : Owner) → is_at (pair_cmp (owner_pair owner)) (owner_pair other) ≡ is_owner other owner
at_owner owner other =
    equal_then (slice_cmp nat_cmp owner.user other.user) (nat_cmp owner.queue other.queue)
    ∙ ap (λ same. same && is_eq (nat_cmp owner.queue other.queue)) (is_eq-slice_cmp owner.user other.user
    ∙ same_bytes owner.user other.user)
    ∙ ap (λ same. bytes_eq other.user owner.user && same) (equal_numbers owner.queue other.queue)

same_owner : (owner other : Owner) → is_owner owner other ≡ true → owner ≡ other
same_owner owner other is =
    let parts = and_parts (bytes_eq owner.user other.user) (owner.queue == other.queue) is in
    let users : owner.user ≡ other.user = (bytes_eq-Decides owner.user other.user).0 parts.0 in
    let queues : owner.queue ≡ other.queue = eqb-true owner.queue other.queue parts.1 in
    let first : owner ≡ record { user = other.user; queue = owner.queue } =
    ap (λ (u : List ℕ). record { user = u; queue = owner.queue }) users in
    let second : record { user = other.user; queue = owner.queue } ≡ other =
    ap (λ (q : ℕ). record { user = other.user; queue = q }) queues in
    first ∙ second

-- one where it is counted
abbrev one_if : Bool → ℕ
one_if counts = cond counts 1 0

-- one more record is counted by its own count
counted_more : (all counted : List AccountRecord) (one : AccountRecord) (owner : Owner) (kind : ℕ)
    → count_by (counts_for all owner kind) (counted ++ one ∷ [])
    ≡ count_by (counts_for all owner kind) counted + one_if (counts_for all owner kind one)
counted_more all counted one owner kind = sum_by_push (λ x. cond (counts_for all owner kind x) 1 0) counted one

one_longer : (counted : List AccountRecord) (one : AccountRecord) → length (counted ++ one ∷ []) ≡ length counted + 1
one_longer counted one = length-append counted (one ∷ [])

-- a record that isn't counted for the owner
pub other_more : (all counted : List AccountRecord) (one : AccountRecord) (owner : Owner) (counts : Option (List ℕ))
    → is_seen_with one.number owner all ≡ false
    → IsTallied all counted owner counts → IsTallied all (counted ++ one ∷ []) owner counts
other_more all counted one owner None apart tallied =
    list_any-append (λ r. is_seen_with r.number owner all) counted (one ∷ [])
    ∙ ap (λ b. b || (is_seen_with one.number owner all || false)) tallied
    ∙ ap (λ b. b || false) apart
other_more all counted one owner (Some counts) apart tallied = (
  list_any-append (λ r. is_seen_with r.number owner all) counted (one ∷ [])
      ∙ ap (λ b. b || (is_seen_with one.number owner all || false)) tallied.0,
  λ kind inside fits.
      let longer = one_longer counted one in
      let none : counts_for all owner kind one ≡ false =
      and_right (kind_of_event one.event == kind) (is_seen_with one.number owner all) apart in
      let more = counted_more all counted one owner kind in
      let added : one_if (counts_for all owner kind one) ≡ 0 = ap one_if none in
      let here : slice_index counts kind ≡ count_by (counts_for all owner kind) counted = tallied.1 kind inside (omega arith) in
      omega arith,
)

-- nothing was counted for an owner that wasn't met
none_counted : (all counted : List AccountRecord) (owner : Owner) (kind : ℕ) → is_met all counted owner ≡ false
    → count_by (counts_for all owner kind) counted ≡ 0
none_counted all [] owner kind none = refl
none_counted all (one ∷ later) owner kind none =
    let parts = or_parts (is_seen_with one.number owner all) (is_met all later owner) none in
    let here : counts_for all owner kind one ≡ false =
    and_right (kind_of_event one.event == kind) (is_seen_with one.number owner all) parts.0 in
    let first : count_by (counts_for all owner kind) (one ∷ later)
    ≡ one_if (counts_for all owner kind one) + count_by (counts_for all owner kind) later =
    sum_by-cons (λ x. cond (counts_for all owner kind x) 1 0) one later in
    let nothing : one_if (counts_for all owner kind one) ≡ 0 = ap one_if here in
    let rest : count_by (counts_for all owner kind) later ≡ 0 = none_counted all later owner kind parts.1 in
    omega arith

-- the counts so far
so_far : (all counted : List AccountRecord) (owner : Owner) (counts : Option (List ℕ)) (kind : ℕ) → IsTallied all counted owner counts
    → kind < 7 → length counted < 2 ^ 64
    → counts_so_far counts kind ≡ count_by (counts_for all owner kind) counted
so_far all counted owner None kind tallied inside fits = sym (none_counted all counted owner kind tallied)
so_far all counted owner (Some counts) kind tallied inside fits = tallied.1 kind inside fits

-- a record that is counted for the owner
owner_more : (all counted : List AccountRecord) (one : AccountRecord) (owner : Owner) (old : Option (List ℕ)) (counts : List ℕ)
    → is_seen_with one.number owner all ≡ true
    → AreRaised old (kind_of_event one.event) counts → IsTallied all counted owner old
    → IsTallied all (counted ++ one ∷ []) owner (Some counts)
owner_more all counted one owner old counts seen raised tallied = (
  list_any-append (λ r. is_seen_with r.number owner all) counted (one ∷ []) ∙ ap (λ b. is_met all counted owner || (b || false)) seen
      ∙ or-true (is_met all counted owner),
  λ kind inside fits.
      let longer = one_longer counted one in
      let few : count_by (counts_for all owner kind) counted ≤ length counted = count_by-le-length (counts_for all owner kind) counted in
      let before : counts_so_far old kind ≡ count_by (counts_for all owner kind) counted =
      so_far all counted owner old kind tallied inside (omega arith) in
      by_test kind (kind_of_event one.event == kind) refl before (counted_more all counted one owner kind)
      (raised kind inside (omega arith)),
) where
  by_test : (kind : ℕ) (here : Bool) → (kind_of_event one.event == kind) ≡ here
      → counts_so_far old kind ≡ count_by (counts_for all owner kind) counted
      → count_by (counts_for all owner kind) (counted ++ one ∷ [])
      ≡ count_by (counts_for all owner kind) counted + one_if (counts_for all owner kind one)
      → slice_index counts kind ≡ cond (kind_of_event one.event == kind) (counts_so_far old kind + 1) (counts_so_far old kind)
      → slice_index counts kind ≡ count_by (counts_for all owner kind) (counted ++ one ∷ [])
  by_test kind true is before more raised =
      let counted_too : one_if (counts_for all owner kind one) ≡ 1 =
      ap (λ b. one_if (b && is_seen_with one.number owner all)) is ∙ ap one_if seen in
      let one_more : slice_index counts kind ≡ counts_so_far old kind + 1 = raised
      ∙ ap (λ b. cond b (counts_so_far old kind + 1) (counts_so_far old kind)) is in
      omega arith
  by_test kind false is before more raised =
      let not_counted : one_if (counts_for all owner kind one) ≡ 0 = ap (λ b. one_if (b && is_seen_with one.number owner all)) is in
      let same : slice_index counts kind ≡ counts_so_far old kind = raised
      ∙ ap (λ b. cond b (counts_so_far old kind + 1) (counts_so_far old kind)) is in
      omega arith

-- one more record, of a job that was seen
pub tally_more : (all counted : List AccountRecord) (one : AccountRecord) (record_state : RecordState)
    (old new : BTreeMap Pair (List ℕ)) (counts : List ℕ)
    → IsRecordState all one.number record_state
    → AreRaised (tree.get pair_cmp old (owner_pair record_state.owner)) (kind_of_event one.event) counts
    → ((pair : Pair)
    → tree.get pair_cmp new pair ≡ cond (is_at (pair_cmp (owner_pair record_state.owner)) pair) (Some counts) (tree.get pair_cmp old pair))
    → IsTallyOf all counted old → IsTallyOf all (counted ++ one ∷ []) new
tally_more all counted one record_state old new counts holds raised updates tally owner = by_test (is_owner owner record_state.owner) refl
  where
    found : (here : Bool) → is_owner owner record_state.owner ≡ here
        → tree.get pair_cmp new (owner_pair owner) ≡ cond here (Some counts) (tree.get pair_cmp old (owner_pair owner))
    found here is = updates (owner_pair owner)
        ∙ ap (λ b. cond b (Some counts) (tree.get pair_cmp old (owner_pair owner))) (at_owner record_state.owner owner ∙ is)

    by_test : (here : Bool) → is_owner owner record_state.owner ≡ here
        → IsTallied all (counted ++ one ∷ []) owner (tree.get pair_cmp new (owner_pair owner))
    by_test true is =
        let same : owner ≡ record_state.owner = same_owner owner record_state.owner is in
        subst (IsTallied all (counted ++ one ∷ []) owner) (sym (found true is))
        (owner_more all counted one owner (tree.get pair_cmp old (owner_pair owner)) counts (holds.owner owner ∙ is)
        (subst (λ o. AreRaised (tree.get pair_cmp old (owner_pair o)) (kind_of_event one.event) counts) (sym same) raised) (tally owner))
    by_test false is =
        subst (IsTallied all (counted ++ one ∷ []) owner) (sym (found false is))
        (other_more all counted one owner (tree.get pair_cmp old (owner_pair owner)) (holds.owner owner ∙ is) (tally owner))

-- and of one that no record names
pub tally_same : (all counted : List AccountRecord) (one : AccountRecord) (tally : BTreeMap Pair (List ℕ))
    → has_record_of one.number all ≡ false
    → IsTallyOf all counted tally → IsTallyOf all (counted ++ one ∷ []) tally
tally_same all counted one tally none tallied owner =
    other_more all counted one owner (tree.get pair_cmp tally (owner_pair owner))
    (none_says (is_account_record_of one.number) (λ r. is_seeing_of owner r.event) all none) (tallied owner)

-- the counts with one of them raised
pub raised_at : (old : Option (List ℕ)) (before : List ℕ) (kind value : ℕ) → kind < 7 → length before ≡ 7
    → ((other : ℕ) → other < 7 → slice_index before other ≡ counts_so_far old other)
    → value ≡ min (get_or before kind 0 + 1) 18446744073709551615 → AreRaised old kind (set before kind value)
raised_at old before kind value small seven counts is other inside fits = by_test (kind == other) refl where
  by_test : (here : Bool) → (kind == other) ≡ here
      → slice_index (set before kind value) other ≡ cond (kind == other) (counts_so_far old other + 1) (counts_so_far old other)
  by_test true here =
      let same : kind ≡ other = eqb-true kind other here in
      let at : get_or (set before kind value) other 0 ≡ value = get_or-set_at before kind other value 0 (sym same) (omega arith) in
      let was : get_or before kind 0 ≡ counts_so_far old other = counts kind small ∙ ap (counts_so_far old) same in
      let more : value ≡ counts_so_far old other + 1 = omega arith in
      at ∙ more ∙ sym (ap (λ b. cond b (counts_so_far old other + 1) (counts_so_far old other)) here)
  by_test false here =
      let apart : other ≢ kind =
      λ same. (let test : (kind == other) ≡ true = grind (arith, nat_tests) in let impossible : true ≡ false = sym test ∙ here in cc) in
      get_or-set_other before kind other value 0 apart ∙ counts other inside
      ∙ sym (ap (λ b. cond b (counts_so_far old other + 1) (counts_so_far old other)) here)

-- nothing was counted in an empty map
pub tally_empty : (all : List AccountRecord) (tally : BTreeMap Pair (List ℕ)) → tally.entries ≡ [] → IsTallyOf all [] tally
tally_empty all tally empty owner =
    let none : tree.get pair_cmp tally (owner_pair owner) ≡ None = ap (lookup (is_at (pair_cmp (owner_pair owner)))) empty in
    subst (IsTallied all [] owner) (sym none) refl
