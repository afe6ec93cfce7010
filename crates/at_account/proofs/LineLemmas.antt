-- The lines that counts come to are those of the records.
use Rattle.std.proofs.Common.{◌≡◌, ℕ, ◌<◌, ◌^◌, Bool, true, false, cond, List, [], ◌∷◌, length, map, inl, inr, refl, sym, ap, subst, arith, Contains}
use Rattle.std.specs.Prelude.{◌&&◌, Option, Some, None}
use Rattle.std.specs.BTreeMap as tree
use Rattle.std.specs.BTreeMap.{BTreeMap, is_at}
use Rattle.std.specs.Cmp.{IsTotalOrder, nat_cmp_total}
use Rattle.std.specs.Cmp.Lexicographic.{slice_cmp}
use Rattle.std.specs.declared.cmp.Ordering.{Ordering}
use Rattle.std.specs.declared.cmp.Ordering.TheVariants.{Equal, Greater, Less}
use Rattle.std.specs.List.{AllByRecursion}
use Rattle.std.specs.List.Sorted.{IsStrictlySortedBy}
use Rattle.std.specs.Map.{keys_of, lookup}
use Rattle.std.specs.Ordering.{is_eq, nat_cmp}
use Rattle.std.proofs.lemmas.Bool.{and_from, and_parts}
use Rattle.std.proofs.lemmas.Bool.Decides.{nat_tests}
use Rattle.std.proofs.lemmas.Cmp.{nat_list_cmp_total, on_total, then_total}
use Rattle.std.proofs.lemmas.List.Elements.{All-contains}
use Rattle.std.proofs.lemmas.Map.Lookups.{CmpEqualImpliesEq, exact_bytes, exact_pairs, exact_unsigned}
use Rattle.std.proofs.lemmas.Map.Views.{All-found}
use Rattle.at_account.specs.declared.record.AccountRecord.{AccountRecord}
use Rattle.at_account.specs.declared.record.Owner.{Owner}
use Rattle.at_account.specs.Records.{is_seeing_of, is_seen_with, is_account_record_of}
use Rattle.spool_shows.proofs.Membership.{Has, any_passes, contained, has_contained, has_made, made_has, one_passes}
use Rattle.at_account.specs.declared.line.AccountLine.{AccountLine}
use Rattle.at_account.specs.Totals.{AreTotals, HasCounts, is_owner_seen, line_owner, owner_cmp}
use Rattle.at_account.specs.inside.OwnerCounts.{IsTallied, IsTallyOf, Pair, is_met, owner_line, owner_pair, pair_cmp}

-- a user and a queue, and the counts
abbrev Tallied : Type 0
Tallied = Pair × List ℕ

pair_total : IsTotalOrder pair_cmp
pair_total = then_total (on_total (λ (pair : Pair). pair.0) nat_list_cmp_total) (on_total (λ (pair : Pair). pair.1) nat_cmp_total)

exact_pair : CmpEqualImpliesEq pair_cmp
exact_pair = exact_pairs (slice_cmp nat_cmp) nat_cmp exact_bytes exact_unsigned

-- lines are in the order of their keys
all_below : (first : Tallied) (later : List Tallied) → AllByRecursion (λ (key : Pair). pair_cmp first.0 key ≡ Less) (keys_of later)
    → AllByRecursion (λ (owner : Owner). owner_cmp (line_owner (owner_line first)) owner ≡ Less) (map line_owner (map owner_line later))
all_below first [] below = tt
all_below first (one ∷ later) below = (below.0, all_below first later below.1)

ordered_lines : (entries : List Tallied) → IsStrictlySortedBy pair_cmp (keys_of entries)
    → IsStrictlySortedBy owner_cmp (map line_owner (map owner_line entries))
unfolding IsStrictlySortedBy
ordered_lines [] ordered = tt
ordered_lines (one ∷ later) ordered = (all_below one later ordered.0, ordered_lines later ordered.1)

-- what a look-up finds is in the list
found_has : (test : Pair → Bool) (entries : List Tallied) (counts : List ℕ) → lookup test entries ≡ Some counts
    → (one : Tallied) × Has entries one × (test one.0 ≡ true)
found_has test [] counts is = let impossible : None ≡ Some counts = is in cc
found_has test (one ∷ later) counts is = by_test (test one.0) refl is (found_has test later counts) where
  by_test : (here : Bool) → test one.0 ≡ here → cond here (Some one.1) (lookup test later) ≡ Some counts
      → (lookup test later ≡ Some counts → (one : Tallied) × Has later one × (test one.0 ≡ true))
      → (other : Tallied) × Has (one ∷ later) other × (test other.0 ≡ true)
  by_test true here found rest = (one, inl refl, here)
  by_test false here found rest =
      let more : (one : Tallied) × Has later one × (test one.0 ≡ true) = rest found in
      (more.0, inr more.1, more.2)

is_equal : (order : Ordering) → is_eq order ≡ true → order ≡ Equal
is_equal Less is = let impossible : false ≡ true = is in cc
is_equal Equal is = refl
is_equal Greater is = let impossible : false ≡ true = is in cc

-- an owner was met where some record saw a job with it
met_seen : (all : List AccountRecord) (owner : Owner) → is_met all all owner ≡ true → is_owner_seen owner all ≡ true
met_seen all owner met =
    let one : (one : AccountRecord) × Has all one × (is_seen_with one.number owner all ≡ true) =
    one_passes (λ (one : AccountRecord). is_seen_with one.number owner all) all met in
    let saw : (other : AccountRecord) × Has all other
    × ((is_account_record_of one.0.number other && is_seeing_of owner other.event) ≡ true) =
    one_passes (λ (other : AccountRecord). is_account_record_of one.0.number other && is_seeing_of owner other.event) all one.2 in
    any_passes (λ (other : AccountRecord). is_seeing_of owner other.event) all saw.0 saw.1
    (and_parts (is_account_record_of one.0.number saw.0) (is_seeing_of owner saw.0.event) saw.2).1

seen_met : (all : List AccountRecord) (owner : Owner) → is_owner_seen owner all ≡ true → is_met all all owner ≡ true
seen_met all owner seen =
    let saw : (one : AccountRecord) × Has all one × (is_seeing_of owner one.event ≡ true) =
    one_passes (λ (one : AccountRecord). is_seeing_of owner one.event) all seen in
    let same : is_account_record_of saw.0.number saw.0 ≡ true = grind (arith, nat_tests) in
    any_passes (λ (one : AccountRecord). is_seen_with one.number owner all) all saw.0 saw.1
    (any_passes (λ (other : AccountRecord). is_account_record_of saw.0.number other && is_seeing_of owner other.event) all saw.0 saw.1
    (and_from (is_account_record_of saw.0.number saw.0) (is_seeing_of owner saw.0.event) same saw.2))

pub are_totals : (all : List AccountRecord) (tally : BTreeMap Pair (List ℕ)) (lines : List AccountLine)
    → tree.IsOrdered pair_cmp tally → length all < 2 ^ 64
    → IsTallyOf all all tally → lines ≡ map owner_line tally.entries → AreTotals all lines
are_totals all tally lines ordered fits tallied is = subst (AreTotals all) (sym is) (record {
  ordered = ordered_lines tally.entries ordered;
  each = λ line has. (of_line line has).1;
  only = λ line has. (of_line line has).0;
  all = every;
}) where
  -- what holds of each entry
  of_entry : (one : Tallied) → Has tally.entries one → (is_owner_seen (line_owner (owner_line one)) all ≡ true)
      × HasCounts all (owner_line one)
  of_entry one has =
      let found : tree.get pair_cmp tally one.0 ≡ Some one.1 = All-contains (λ (e : Tallied). tree.get pair_cmp tally e.0 ≡ Some e.1)
      tally.entries one (All-found pair_total tally ordered) (contained tally.entries one has) in
      let counted : IsTallied all all (line_owner (owner_line one)) (Some one.1) =
      subst (IsTallied all all (line_owner (owner_line one))) found (tallied (line_owner (owner_line one))) in
      (met_seen all (line_owner (owner_line one)) counted.0, λ kind inside. counted.1 kind inside fits)

  of_line : (line : AccountLine) → Contains (map owner_line tally.entries) line
      → (is_owner_seen (line_owner line) all ≡ true) × HasCounts all line
  of_line line has =
      let made : (one : Tallied) × Has tally.entries one × (owner_line one ≡ line) =
      made_has owner_line tally.entries line (has_contained (map owner_line tally.entries) line has) in
      subst (λ l. (is_owner_seen (line_owner l) all ≡ true) × HasCounts all l) made.2 (of_entry made.0 made.1)

  every : (owner : Owner) → is_owner_seen owner all ≡ true → Contains (map line_owner (map owner_line tally.entries)) owner
  every owner seen = by_counts (tree.get pair_cmp tally (owner_pair owner)) refl where
    by_counts : (counts : Option (List ℕ)) → tree.get pair_cmp tally (owner_pair owner) ≡ counts
        → Contains (map line_owner (map owner_line tally.entries)) owner
    by_counts None none = absurd (let unmet : is_met all all owner ≡ false = subst (IsTallied all all owner) none (tallied owner) in
        let met = seen_met all owner seen in cc)
    by_counts (Some counts) found =
        let one : (one : Tallied) × Has tally.entries one × (is_at (pair_cmp (owner_pair owner)) one.0 ≡ true) =
        found_has (is_at (pair_cmp (owner_pair owner))) tally.entries counts found in
        let same : owner_pair owner ≡ one.0.0 =
        exact_pair (owner_pair owner) one.0.0 (is_equal (pair_cmp (owner_pair owner) one.0.0) one.2) in
        let owner_is : line_owner (owner_line one.0) ≡ owner = sym (ap (λ (pair : Pair). record { user = pair.0; queue = pair.1 }) same) in
        contained (map line_owner (map owner_line tally.entries)) owner
        (subst (Has (map line_owner (map owner_line tally.entries))) owner_is
        (has_made line_owner (map owner_line tally.entries) (owner_line one.0) (has_made owner_line tally.entries one.0 one.1)))
