-- At one place of a text there is at most one token, up to one end.
use Rattle.std.proofs.Common.{◌≡◌, ℕ, zero, suc, ◌+◌, ◌-◌, ◌<◌, ◌≤◌, ◌==◌, ◌&&◌, Bool, true, false, List, [], length, get_or, arith, refl, sym, ◌∙◌, ap, subst, Some, ◌⊎◌, inl, inr, eqb-true}
use Rattle.std.specs.Prelude.{slice_index, Contains, unwrap_or, bytes_eq}
use Rattle.std.specs.List.{position_from}
use Rattle.std.specs.Char.{is_ascii_digit, is_ascii_alphabetic}
use Rattle.std.proofs.lemmas.Bool.{cases_lt}
use Rattle.std.proofs.lemmas.Bool.Decides.{nat_tests}
use Rattle.std.proofs.lemmas.Grind.{same_number_lists}
use Rattle.std.proofs.lemmas.List.{get_or_default, get_or_past}
use Rattle.std.proofs.lemmas.List.Elements.{All-contains}
use Rattle.timespec_lexer.specs.Keywords.{keywords}
use Rattle.timespec_lexer.specs.Tokens.{is_separator, mark_of, BeginsNoToken, strange, no_word, long_run, HasWord, IsDigitAt, IsRun, number_at, HasToken, HasNumber}
use Rattle.timespec_lexer.proofs.WordLemmas.{IsNoLonger}
use Rattle.timespec_lexer.specs.declared.number.TheConstants.{MAX_DIGITS}
use Rattle.timespec_lexer.specs.declared.token.Token.{Token}
use Rattle.timespec_lexer.specs.declared.token.Token.TheVariants.{Number, Now}

-- a digit is no separator, a letter neither, and no digit
digit_solid : (byte : ℕ) → is_ascii_digit byte ≡ true → is_separator byte ≡ false
digit_solid byte digit = grind (arith, nat_tests)

letter_solid : (byte : ℕ) → is_ascii_alphabetic byte ≡ true → is_separator byte ≡ false
letter_solid byte letter = grind (arith, nat_tests)

letter_no_digit : (byte : ℕ) → is_ascii_alphabetic byte ≡ true → is_ascii_digit byte ≡ false
letter_no_digit byte letter = grind (arith, nat_tests)

-- a mark is a colon, or one of the five bytes from a plus up to a slash
mark_bytes : (byte : ℕ) (token : Token) → mark_of byte ≡ Some token → (byte ≡ 58) ⊎ ((43 ≤ byte) × (byte ≤ 47))
mark_bytes byte token mark = grind (arith, nat_tests)

colon_or_near : (P : ℕ → Bool) (byte : ℕ) (token : Token) → P 58 ≡ false
    → ((near : ℕ) → 43 ≤ near → near ≤ 47 → P near ≡ false) → mark_of byte ≡ Some token → P byte ≡ false
colon_or_near P byte token colon near mark =
    elim (mark_bytes byte token mark) [ inl e ↦ rw e colon | inr within ↦ near byte within.0 within.1 ]

near_solid : (near : ℕ) → 43 ≤ near → near ≤ 47 → is_separator near ≡ false
near_solid near least most = grind (arith, nat_tests)

near_no_digit : (near : ℕ) → 43 ≤ near → near ≤ 47 → is_ascii_digit near ≡ false
near_no_digit near least most = grind (arith, nat_tests)

near_no_letter : (near : ℕ) → 43 ≤ near → near ≤ 47 → is_ascii_alphabetic near ≡ false
near_no_letter near least most = grind (arith, nat_tests)

mark_solid : (byte : ℕ) (token : Token) → mark_of byte ≡ Some token → is_separator byte ≡ false
mark_solid byte token mark = colon_or_near is_separator byte token refl near_solid mark

mark_no_digit : (byte : ℕ) (token : Token) → mark_of byte ≡ Some token → is_ascii_digit byte ≡ false
mark_no_digit byte token mark = colon_or_near is_ascii_digit byte token refl near_no_digit mark

mark_no_letter : (byte : ℕ) (token : Token) → mark_of byte ≡ Some token → is_ascii_alphabetic byte ≡ false
mark_no_letter byte token mark = colon_or_near is_ascii_alphabetic byte token refl near_no_letter mark

-- the first byte of a number
first_digit : (text : List ℕ) (from to : ℕ) (token : Token) → HasNumber text from to token → is_ascii_digit (slice_index text from) ≡ true
first_digit text from to token number = number.run.each from (omega arith) number.run.some

-- where a token is there is no separator
pub holds_solid : (text : List ℕ) (from to : ℕ) (token : Token) → HasToken text from to token
    → is_separator (slice_index text from) ≡ false
holds_solid text from to token (inl number) = digit_solid (slice_index text from) (first_digit text from to token number)
holds_solid text from to token (inr (inl mark)) = mark_solid (slice_index text from) token mark.mark
holds_solid text from to token (inr (inr keyword)) = letter_solid (slice_index text from) keyword.letter

-- no token begins with the byte 0
nothing_at_zero : (text : List ℕ) (from to : ℕ) (token : Token) → HasToken text from to token → slice_index text from ≡ 0 → ⊥
nothing_at_zero text from to token (inl number) none = cc (first_digit text from to token number, none)
nothing_at_zero text from to token (inr (inl mark)) none = cc (mark.mark, ap mark_of none)
nothing_at_zero text from to token (inr (inr keyword)) none = cc (keyword.letter, ap is_ascii_alphabetic none)

-- a run of digits has one end
one_run : (text : List ℕ) (from a b : ℕ) → IsRun text from a → IsRun text from b → b ≤ a
one_run text from a b short long =
    elim (cases_lt a b) [
      | inl less ↦ absurd (cc (long.each a (omega (arith, short.some)) less, short.whole))
      | inr most ↦ most
    ]

-- two words of one length that are at one place are one
one_word : (text : List ℕ) (place : ℕ) (a b : List ℕ) → HasWord text place a → HasWord text place b
    → length a ≡ length b → a ≡ b
one_word text place a b here there same =
    same_number_lists a b same (λ k below. sym (here.letters k below) ∙ there.letters k (omega arith))

-- both of two tests that hold together
and_left : (a b : Bool) → (a && b) ≡ true → a ≡ true
and_left true b both = refl
and_left false b both = both

and_right : (a b : Bool) → (a && b) ≡ true → b ≡ true
and_right true b both = both
and_right false b both = absurd (cc)

-- the first row that a word is in
first_row : List ℕ → ℕ
first_row word = unwrap_or (position_from (λ row. bytes_eq row.0 word) 0 keywords) 59

-- each of the rows before one is the first with its word
rows_first : ℕ → Bool
rows_first zero = true
rows_first (suc k) = rows_first k && (first_row (get_or keywords k ([], Now)).0 == k)

row_first : (n : ℕ) → rows_first n ≡ true → (k : ℕ) → k < n → first_row (get_or keywords k ([], Now)).0 ≡ k
unfolding rows_first
row_first zero all k below = absurd (omega arith)
row_first (suc n) all k below =
    elim (cases_lt k n) [
      | inl less ↦ row_first n (and_left _ _ all) k less
      | inr most ↦
          let last : n ≡ k = omega arith in
          subst (λ (i : ℕ). first_row (get_or keywords i ([], Now)).0 ≡ i) last (eqb-true _ _ (and_right _ _ all))
    ]

-- the row of a keyword is the first with its word
row_of_word : (word : List ℕ) (token : Token) (listed : Contains keywords (word, token)) → first_row word ≡ listed.0
unfolding keywords rows_first first_row
row_of_word word token listed =
    let first : first_row (get_or keywords listed.0 ([], Now)).0 ≡ listed.0 = row_first 59 refl listed.0 listed.1 in
    let row : get_or keywords listed.0 ([], Now) ≡ (word, token) =
    get_or_default keywords listed.0 ([], Now) (word, token) listed.1 ∙ listed.2 in
    ap (λ (row : List ℕ × Token). first_row row.0) (sym row) ∙ first

-- a keyword has one token
one_token : (word : List ℕ) (a b : Token) → Contains keywords (word, a) → Contains keywords (word, b) → a ≡ b
one_token word a b first second =
    let here : first_row word ≡ first.0 = row_of_word word a first in
    let there : first_row word ≡ second.0 = row_of_word word b second in
    let rows : second.0 ≡ first.0 = sym there ∙ here in
    let same : get_or keywords first.0 (word, b) ≡ (word, b) = ap (λ (k : ℕ). get_or keywords k (word, b)) (sym rows) ∙ second.2 in
    let changed : get_or keywords first.0 (word, a) ≡ get_or keywords first.0 (word, b) =
    get_or_default keywords first.0 (word, a) (word, b) first.1 in
    let pair : (word, a) ≡ (word, b) = sym first.2 ∙ changed ∙ same in
    ap (λ (row : List ℕ × Token). row.1) pair

-- the token at a place and its end are one
pub holds_once : (text : List ℕ) (from to to' : ℕ) (token token' : Token)
    → HasToken text from to token → HasToken text from to' token' → (to ≡ to') × (token ≡ token')
holds_once text from to to' token token' (inl a) (inl b) =
    let less : to ≤ to' = one_run text from to' to b.run a.run in
    let more : to' ≤ to = one_run text from to to' a.run b.run in
    let same : to ≡ to' = omega arith in
    (same, a.value ∙ ap (λ (end : ℕ). Number (end - from) (number_at text from (end - from))) same ∙ sym b.value)
holds_once text from to to' token token' (inl a) (inr (inl b)) =
    absurd (cc (first_digit text from to token a, mark_no_digit (slice_index text from) token' b.mark))
holds_once text from to to' token token' (inl a) (inr (inr b)) =
    absurd (cc (first_digit text from to token a, letter_no_digit (slice_index text from) b.letter))
holds_once text from to to' token token' (inr (inl a)) (inl b) =
    absurd (cc (first_digit text from to' token' b, mark_no_digit (slice_index text from) token a.mark))
holds_once text from to to' token token' (inr (inl a)) (inr (inl b)) =
    (a.one ∙ sym b.one, cc (a.mark, b.mark))
holds_once text from to to' token token' (inr (inl a)) (inr (inr b)) =
    absurd (cc (mark_no_letter (slice_index text from) token a.mark, b.letter))
holds_once text from to to' token token' (inr (inr a)) (inl b) =
    absurd (cc (first_digit text from to' token' b, letter_no_digit (slice_index text from) a.letter))
holds_once text from to to' token token' (inr (inr a)) (inr (inl b)) =
    absurd (cc (mark_no_letter (slice_index text from) token' b.mark, a.letter))
holds_once text from to to' token token' (inr (inr a)) (inr (inr b)) =
    let less : length a.word ≤ length b.word =
    All-contains (IsNoLonger text from (length b.word)) keywords (a.word, token) b.longest.longest a.longest.listed a.longest.here in
    let more : length b.word ≤ length a.word =
    All-contains (IsNoLonger text from (length a.word)) keywords (b.word, token') a.longest.longest b.longest.listed b.longest.here in
    let same : length a.word ≡ length b.word = omega arith in
    let word : a.word ≡ b.word = one_word text from a.word b.word a.longest.here b.longest.here same in (
      omega (arith, a.all, b.all),
      one_token b.word token token'
          (subst (λ (it : List ℕ). Contains keywords (it, token)) word a.longest.listed) b.longest.listed,
    )

-- the first of so many digits
first_of : (text : List ℕ) (from : ℕ) → ((k : ℕ) → k ≤ MAX_DIGITS → IsDigitAt text (from + k)) → IsDigitAt text from
first_of text from digits = subst (λ (place : ℕ). IsDigitAt text place) (omega arith) (digits 0 (omega arith))

-- where no token begins there is none
pub none_holds : (text : List ℕ) (from to : ℕ) (token : Token) → BeginsNoToken text from → HasToken text from to token → ⊥
none_holds text from to token (strange digit letter mark) (inl number) = cc (first_digit text from to token number, digit)
none_holds text from to token (strange digit letter mark) (inr (inl a)) = cc (a.mark, mark)
none_holds text from to token (strange digit letter mark) (inr (inr keyword)) = cc (keyword.letter, letter)
none_holds text from to token (no_word letter none) (inl number) =
    cc (first_digit text from to token number, letter_no_digit (slice_index text from) letter)
none_holds text from to token (no_word letter none) (inr (inl a)) = cc (mark_no_letter (slice_index text from) token a.mark, letter)
none_holds text from to token (no_word letter none) (inr (inr keyword)) =
    All-contains (λ row. ¬ HasWord text from row.0) keywords (keyword.word, token) none keyword.longest.listed keyword.longest.here
none_holds text from to token (long_run digits) (inl number) =
    let within : to - from ≤ MAX_DIGITS = omega (arith, number.few) in
    let there : from + (to - from) ≡ to = omega (arith, number.run.some) in
    let digit : IsDigitAt text to = subst (λ (place : ℕ). IsDigitAt text place) there (digits (to - from) within) in
    cc (digit, number.run.whole)
none_holds text from to token (long_run digits) (inr (inl a)) =
    cc (first_of text from digits, mark_no_digit (slice_index text from) token a.mark)
none_holds text from to token (long_run digits) (inr (inr keyword)) =
    cc (first_of text from digits, letter_no_digit (slice_index text from) keyword.letter)

-- a token lies within its text
pub holds_inside : (text : List ℕ) (from to : ℕ) (token : Token) → HasToken text from to token → from < length text
holds_inside text from to token holds =
    elim (cases_lt from (length text)) [
      | inl less ↦ less
      | inr past ↦ absurd (nothing_at_zero text from to token holds (get_or_past text from 0 past))
    ]
