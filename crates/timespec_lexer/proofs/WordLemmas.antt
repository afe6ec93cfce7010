-- The longest word of a table at a place.
use Rattle.std.proofs.Common.{◌≡◌, ℕ, ◌+◌, ◌<◌, ◌≤◌, List, [], ◌∷◌, ◌++◌, length, nat_lt, true, arith, refl, sym, subst, Option, Some, None, inl, inr, lit<}
use Rattle.std.specs.Prelude.{All, Contains, IfSome, IfNone}
use borrow.Author.Tests.{ltb-true}
use Rattle.std.proofs.lemmas.List.Sums.{AllPass-from_list_all}
use Rattle.std.proofs.lemmas.Bool.{cases_lt}
use Rattle.std.proofs.lemmas.List.Elements.{All-push, All-weaker, All-contains, Contains-append_left, Contains-append_right}
use Rattle.timespec_lexer.specs.Keywords.{keywords}
use Rattle.timespec_lexer.specs.inside.Search.{IsLongestMatch}
use Rattle.timespec_lexer.specs.Tokens.{HasWord, WordTable}
use Rattle.timespec_lexer.specs.declared.token.Token.{Token}
use Rattle.timespec_lexer.specs.declared.found.Found.{Found}

-- a row's word is no longer than so many letters where it is
abbrev pub IsNoLonger : List ℕ → ℕ → ℕ → List ℕ × Token → Type 0
IsNoLonger text place count row = HasWord text place row.0 → length row.0 ≤ count

-- a row whose word does not are there changes nothing
pub best_past : (text : List ℕ) (place : ℕ) (table : WordTable) (best : Option Found) (word : List ℕ) (token : Token)
    → IsLongestMatch text place table best → ¬ HasWord text place word
    → IsLongestMatch text place (table ++ (word, token) ∷ []) best
best_past text place table None word token kept missing = All-push (λ row. ¬ HasWord text place row.0) table (word, token) kept missing
best_past text place table (Some found) word token kept missing = (
  kept.0,
  record {
    listed = Contains-append_left _ _ _ kept.1.listed;
    here = kept.1.here;
    longest = All-push (IsNoLonger text place (length kept.0)) table (word, token) kept.1.longest (λ here. absurd (missing here));
  },
  kept.2,
)

-- the row itself, where no word before it reaches farther
this_row : (text : List ℕ) (place : ℕ) (table : WordTable) (word : List ℕ) (token : Token) (end : ℕ)
    → HasWord text place word → end ≡ place + length word
    → All (λ row. HasWord text place row.0 → length row.0 ≤ length word) table
    → IsLongestMatch text place (table ++ (word, token) ∷ []) (Some (record { token = token; end = end }))
this_row text place table word token end here reach others = (
  word,
  record {
    listed = Contains-append_right table ((word, token) ∷ []) (word, token) (0, lit< tt, refl);
    here = here;
    longest = All-push (IsNoLonger text place (length word)) table (word, token) others (λ _. omega arith);
  },
  reach,
)

-- the farther one of the best so far and of a row whose word is there is the best with that row
pub best_more : (text : List ℕ) (place : ℕ) (table : WordTable) (best : Option Found) (word : List ℕ) (found next : Found)
    → IsLongestMatch text place table best → HasWord text place word → found.end ≡ place + length word
    → IfNone best (next ≡ found)
    → IfSome best (λ old. old.end < found.end → next ≡ found)
    → IfSome best (λ old. found.end ≤ old.end → next ≡ old)
    → IsLongestMatch text place (table ++ (word, found.token) ∷ []) (Some next)
best_more text place table None word found next kept here reach first longer stays =
    subst (λ (one : Found). IsLongestMatch text place (table ++ (word, found.token) ∷ []) (Some one)) (sym first)
    (this_row text place table word found.token found.end here reach
    (All-weaker (λ row. ¬ HasWord text place row.0) (IsNoLonger text place (length word)) (λ row none here. absurd (none here)) table kept))
best_more text place table (Some old) word found next kept here reach first longer stays =
    elim (cases_lt old.end found.end) [
      | inl less ↦
          subst (λ (one : Found). IsLongestMatch text place (table ++ (word, found.token) ∷ []) (Some one)) (sym (longer less))
          (this_row text place table word found.token found.end here reach
          (All-weaker (IsNoLonger text place (length kept.0)) (IsNoLonger text place (length word))
          (λ row below here. let short : length row.0 ≤ length kept.0 = below here in omega (arith, kept.2)) table kept.1.longest))
      | inr most ↦
          subst (λ (one : Found). IsLongestMatch text place (table ++ (word, found.token) ∷ []) (Some one)) (sym (stays most)) (
            kept.0,
            record {
              listed = Contains-append_left _ _ _ kept.1.listed;
              here = kept.1.here;
              longest =
                  All-push (IsNoLonger text place (length kept.0)) table (word, found.token) kept.1.longest (λ _. omega (arith, kept.2));
            },
            kept.2,
          )
    ]

-- no keyword is empty
pub keyword_some : (word : List ℕ) (token : Token) → Contains keywords (word, token) → 0 < length word
unfolding keywords
keyword_some word token listed =
    ltb-true _ _ (All-contains (λ row. nat_lt 0 (length row.0) ≡ true) keywords (word, token)
    (AllPass-from_list_all (λ row. nat_lt 0 (length row.0)) keywords refl) listed)

-- a keyword that was found ends after its place
pub best_forward : (text : List ℕ) (place : ℕ) (best : Option Found) → IsLongestMatch text place keywords best
    → IfSome best (λ found. place < found.end)
best_forward text place None kept = tt
best_forward text place (Some found) kept =
    let some : 0 < length kept.0 = keyword_some kept.0 found.token kept.1.listed in omega (arith, kept.2)
