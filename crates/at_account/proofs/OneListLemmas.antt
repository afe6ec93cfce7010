-- Records by number are fixed by those of each number.
use Rattle.std.proofs.Common.{◌≡◌, ◌⊎◌, ◌∙◌, ℕ, ◌<◌, ◌+◌, Bool, true, false, cond, List, [], ◌∷◌, inl, inr, refl, sym, ap, subst, arith}
use Rattle.std.specs.Prelude.{nat_lt}
use Rattle.std.specs.List.{filter}
use Rattle.std.proofs.lemmas.Bool.Decides.{nat_tests}
use Rattle.at_account.specs.declared.record.AccountRecord.{AccountRecord}
use Rattle.at_account.specs.Records.{is_account_record_of}
use Rattle.at_account.specs.ObservedTable.{AreRecordsByNumber}
use Rattle.at_account.proofs.GatheringLemmas.{AreFrom, less_from, none_from}

-- the first record is among those of its number
first_named : (one : AccountRecord) (later : List AccountRecord)
    → filter (is_account_record_of one.number) (one ∷ later) ≡ one ∷ filter (is_account_record_of one.number) later
first_named one later =
    let here : is_account_record_of one.number one ≡ true = grind (arith, nat_tests) in
    ap (λ b. cond b (one ∷ filter (is_account_record_of one.number) later) (filter (is_account_record_of one.number) later)) here

-- records of greater numbers have none of it
none_below : (number : ℕ) (one : AccountRecord) (later : List AccountRecord) → number < one.number → AreFrom one.number later
    → filter (is_account_record_of number) (one ∷ later) ≡ []
none_below number one later below from =
    none_from number (one ∷ later) (omega arith, less_from (number + 1) one.number later (omega arith) from)

-- the lists have the same records of each number
abbrev AreAlike : List AccountRecord → List AccountRecord → Type 0
AreAlike ones others = (number : ℕ) → filter (is_account_record_of number) ones ≡ filter (is_account_record_of number) others

-- and so have what is left, where the first records are the same
alike_later : (one : AccountRecord) (ones others : List AccountRecord) → AreAlike (one ∷ ones) (one ∷ others) → AreAlike ones others
alike_later one ones others alike number = by_test (is_account_record_of number one) refl where
  by_test : (here : Bool) → is_account_record_of number one ≡ here
      → filter (is_account_record_of number) ones ≡ filter (is_account_record_of number) others
  by_test true here =
      let both : one ∷ filter (is_account_record_of number) ones ≡ one ∷ filter (is_account_record_of number) others =
      sym (ap (λ b. cond b (one ∷ filter (is_account_record_of number) ones) (filter (is_account_record_of number) ones)) here)
      ∙ alike number
      ∙ ap (λ b. cond b (one ∷ filter (is_account_record_of number) others) (filter (is_account_record_of number) others)) here in
      cc
  by_test false here =
      sym (ap (λ b. cond b (one ∷ filter (is_account_record_of number) ones) (filter (is_account_record_of number) ones)) here)
      ∙ alike number
      ∙ ap (λ b. cond b (one ∷ filter (is_account_record_of number) others) (filter (is_account_record_of number) others)) here

order_of : (one other : ℕ) → (one < other) ⊎ ((other < one) ⊎ (one ≡ other))
order_of one other = by_tests (nat_lt one other) refl (nat_lt other one) refl where
  by_tests : (below : Bool) → nat_lt one other ≡ below → (above : Bool) → nat_lt other one ≡ above
      → (one < other) ⊎ ((other < one) ⊎ (one ≡ other))
  by_tests true below above is = inl (grind (arith, nat_tests))
  by_tests false below true above = inr (inl (grind (arith, nat_tests)))
  by_tests false below false above = inr (inr (grind (arith, nat_tests)))

same_first : (one other : AccountRecord) (ones others : List AccountRecord) → AreFrom one.number ones → AreFrom other.number others
    → AreAlike (one ∷ ones) (other ∷ others) → one ≡ other
same_first one other ones others from other_from alike = by_number (order_of one.number other.number) where
  by_number : (one.number < other.number) ⊎ ((other.number < one.number) ⊎ (one.number ≡ other.number)) → one ≡ other
  by_number (inl below) =
      let impossible : one ∷ filter (is_account_record_of one.number) ones ≡ [] = sym (first_named one ones) ∙ alike one.number
      ∙ none_below one.number other others below other_from in
      cc
  by_number (inr (inl above)) =
      let impossible : other ∷ filter (is_account_record_of other.number) others ≡ [] = sym (first_named other others)
      ∙ sym (alike other.number) ∙ none_below other.number one ones above from in
      cc
  by_number (inr (inr same)) =
      let both : one ∷ filter (is_account_record_of one.number) ones ≡ other ∷ filter (is_account_record_of other.number) others =
      sym (first_named one ones) ∙ alike one.number ∙ ap (λ n. filter (is_account_record_of n) (other ∷ others)) same
      ∙ first_named other others in
      cc

pub one_list : (ones others : List AccountRecord) → AreRecordsByNumber ones → AreRecordsByNumber others
    → AreAlike ones others → ones ≡ others
one_list [] [] first second alike = refl
one_list [] (other ∷ others) first second alike =
    let impossible : [] ≡ other ∷ filter (is_account_record_of other.number) others = alike other.number ∙ first_named other others in
    cc
one_list (one ∷ ones) [] first second alike =
    let impossible : one ∷ filter (is_account_record_of one.number) ones ≡ [] = sym (first_named one ones) ∙ alike one.number in
    cc
one_list (one ∷ ones) (other ∷ others) first second alike =
    let same : one ≡ other = same_first one other ones others first.0 second.0 alike in
    let rest : ones ≡ others = one_list ones others first.1 second.1
    (alike_later one ones others (subst (λ o. AreAlike (one ∷ ones) (o ∷ others)) (sym same) alike)) in
    ap (λ o. o ∷ ones) same ∙ ap (λ list. other ∷ list) rest
