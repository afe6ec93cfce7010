-- What is at the start of a job text: its umask, and values between single quotes.
use Rattle.std.proofs.Common.{◌≡◌, ◌≢◌, ◌<◌, ◌≤◌, ◌+◌, ◌-◌, ◌*◌, ◌/◌, ◌%◌, ℕ, Bool, true, false, not, eqb, cond, List, [], ◌∷◌, ◌++◌, IsTrue, Option, Some, None, Bor, length, get_or, drop, codes, refl, sym, ap, subst, ◌∙◌, arith}
use Rattle.std.specs.Option.{MatchOption}
use Rattle.std.specs.List.{flat_map}
use Rattle.std.proofs.lemmas.Bool.{eqb-true, eqb-false, ne_eqb}
use Rattle.std.proofs.lemmas.List.{append-nil, append_assoc, flat_map_more}
use Rattle.std.proofs.lemmas.List.Folds.{list_all-append}
use Rattle.job_script.specs.inside.Prefixes.{IsPartPrefix, IsQuotedPrefix, IsUmaskPrefix}
use Rattle.job_script.specs.JobText.{quoted_part, umask_line}
use Rattle.job_script.specs.Variables.{has_no_zero, is_no_zero}
use Rattle.job_script.proofs.RunLemmas.{both_hold, hold_both}

-- four bytes at least are three and others
three_bytes : (rest : List ℕ) → 4 ≤ length rest → rest ≡ get_or rest 0 0 ∷ get_or rest 1 0 ∷ get_or rest 2 0 ∷ drop 3 rest
three_bytes [] few = absurd (omega arith)
three_bytes (a ∷ []) few = absurd (omega arith)
three_bytes (a ∷ b ∷ []) few = absurd (omega arith)
three_bytes (a ∷ b ∷ c ∷ rest) few = refl

-- three digits spell a umask
record SpelledUmask (a b c umask : ℕ) : Type 0 where
  octal : umask < 512
  first : a ≡ 48 + umask / 64 % 8
  second : b ≡ 48 + umask / 8 % 8
  third : c ≡ 48 + umask % 8

spelled_umask : (a b c : ℕ) → (48 ≤ a) × (a < 56) → (48 ≤ b) × (b < 56) → (48 ≤ c) × (c < 56)
    → SpelledUmask a b c ((a - 48) * 64 + (b - 48) * 8 + (c - 48))
spelled_umask a b c one two three = record {
  octal = omega arith;
  first = omega arith;
  second = omega arith;
  third = omega arith;
}

-- three octal digits and a newline are the rest of the line of the umask
pub umask_read : (bytes rest tail : List ℕ) (end : Option (Bor (List ℕ))) → bytes ≡ codes "umask 0" ++ rest
    → 4 ≤ length rest → tail ≡ drop 3 rest
    → (48 ≤ get_or rest 0 0) × (get_or rest 0 0 < 56) → (48 ≤ get_or rest 1 0) × (get_or rest 1 0 < 56)
    → (48 ≤ get_or rest 2 0) × (get_or rest 2 0 < 56)
    → MatchOption end ((more : List ℕ) → tail ≢ (10 ∷ []) ++ more) (λ more. tail ≡ (10 ∷ []) ++ more.now)
    → MatchOption end ((more : List ℕ) → ¬ IsUmaskPrefix bytes more) (λ more. IsUmaskPrefix bytes more.now)
umask_read bytes rest tail (Some more) prefix few back one two three ends =
    let s : SpelledUmask (get_or rest 0 0) (get_or rest 1 0) (get_or rest 2 0)
    ((get_or rest 0 0 - 48) * 64 + (get_or rest 1 0 - 48) * 8 + (get_or rest 2 0 - 48)) =
    spelled_umask (get_or rest 0 0) (get_or rest 1 0) (get_or rest 2 0) one two three in
    record {
      umask = (get_or rest 0 0 - 48) * 64 + (get_or rest 1 0 - 48) * 8 + (get_or rest 2 0 - 48);
      octal = s.octal;
      text = prefix ∙ ap (λ (it : List ℕ). codes "umask 0" ++ it) (three_bytes rest few)
          ∙ (λ i. codes "umask 0" ++ (s.first i ∷ s.second i ∷ s.third i ∷ (sym back ∙ ends) i));
    }
umask_read bytes rest tail None prefix few back one two three ends =
    λ more f.
    let same : codes "umask 0" ++ rest ≡ umask_line f.umask ++ more = sym prefix ∙ f.text in
    let digits : rest ≡ (48 + f.umask / 64 % 8) ∷ (48 + f.umask / 8 % 8) ∷ (48 + f.umask % 8) ∷ 10 ∷ more = cc same in
    ends more (back ∙ ap (λ (it : List ℕ). drop 3 it) digits)

-- a byte between single quotes, by whether it is one
part_at : (byte : ℕ) (is_quote : Bool) → eqb byte 39 ≡ is_quote
    → quoted_part byte ≡ cond is_quote (39 ∷ 92 ∷ 39 ∷ 39 ∷ []) (byte ∷ [])
part_at byte is_quote here = ap (λ (it : Bool). cond it (39 ∷ 92 ∷ 39 ∷ 39 ∷ []) (byte ∷ [])) here

-- two such bytes at the start of one text are one
same_part_by : (b c : ℕ) (x y : List ℕ) (first second : Bool) → eqb b 39 ≡ first → eqb c 39 ≡ second
    → cond first (39 ∷ 92 ∷ 39 ∷ 39 ∷ []) (b ∷ []) ++ x ≡ cond second (39 ∷ 92 ∷ 39 ∷ 39 ∷ []) (c ∷ []) ++ y → (b ≡ c) × (x ≡ y)
same_part_by b c x y true true one two same = (eqb-true b 39 one ∙ sym (eqb-true c 39 two), cc same)
same_part_by b c x y true false one two same = absurd (eqb-false c 39 two (sym (cc same)))
same_part_by b c x y false true one two same = absurd (eqb-false b 39 one (cc same))
same_part_by b c x y false false one two same = (cc same, cc same)

same_part : (b c : ℕ) (x y : List ℕ) → quoted_part b ++ x ≡ quoted_part c ++ y → (b ≡ c) × (x ≡ y)
same_part b c x y same = same_part_by b c x y (eqb b 39) (eqb c 39) refl refl same

-- a text that begins with a quote and no such byte goes on so
quote_or_part : (b : ℕ) (x y : List ℕ) (is_quote : Bool) → eqb b 39 ≡ is_quote
    → cond is_quote (39 ∷ 92 ∷ 39 ∷ 39 ∷ []) (b ∷ []) ++ x ≡ 39 ∷ y → y ≡ 92 ∷ 39 ∷ 39 ∷ x
quote_or_part b x y true here same = sym (cc same)
quote_or_part b x y false here same = absurd (eqb-false b 39 here (cc same))

part_before_quote : (b : ℕ) (x y : List ℕ) → quoted_part b ++ x ≡ 39 ∷ y → y ≡ 92 ∷ 39 ∷ 39 ∷ x
part_before_quote b x y same = quote_or_part b x y (eqb b 39) refl same

-- a quote with what is after it is one byte of a value, or none
pub quote_read : (bytes rest : List ℕ) (end : Option (Bor (List ℕ))) → bytes ≡ 39 ∷ rest
    → MatchOption end ((more : List ℕ) → rest ≢ (92 ∷ 39 ∷ 39 ∷ []) ++ more) (λ more. rest ≡ (92 ∷ 39 ∷ 39 ∷ []) ++ more.now)
    → MatchOption end ((more : List ℕ) → ¬ IsPartPrefix bytes more) (λ more. IsPartPrefix bytes more.now)
quote_read bytes rest (Some more) prefix ends = record {
  byte = 39;
  no_zero = refl;
  text = prefix ∙ ap (λ (it : List ℕ). 39 ∷ it) ends;
}
quote_read bytes rest None prefix ends = λ more f. ends more (part_before_quote f.byte more rest (sym f.text ∙ prefix))

-- another byte that isn't zero is one of a value
pub byte_read : (bytes rest : List ℕ) (first : ℕ) → bytes ≡ first ∷ rest → first ≢ 0 → first ≢ 39 → IsPartPrefix bytes rest
byte_read bytes rest first prefix zero quote = record {
  byte = first;
  no_zero = ap not (ne_eqb first 0 zero);
  text = prefix ∙ sym (ap (λ (it : List ℕ). it ++ rest) (part_at first false (ne_eqb first 39 quote)));
}

-- the bytes begin with a quote and these bytes of a value
pub record IsOpen (bytes rest : List ℕ) : Type 0 where
  pub value : List ℕ
  pub no_zero : IsTrue (has_no_zero value)
  pub text : bytes ≡ 39 ∷ (flat_map quoted_part value ++ rest)

-- one more byte of the value
pub open_more : (bytes rest more : List ℕ) → IsOpen bytes rest → IsPartPrefix rest more → IsOpen bytes more
open_more bytes rest more o p = record {
  value = o.value ++ p.byte ∷ [];
  no_zero = list_all-append is_no_zero o.value (p.byte ∷ [])
      ∙ hold_both (has_no_zero o.value) (has_no_zero (p.byte ∷ [])) o.no_zero (hold_both (is_no_zero p.byte) true p.no_zero refl);
  text = o.text ∙ ap (λ (it : List ℕ). 39 ∷ it) (ap (λ (it : List ℕ). flat_map quoted_part o.value ++ it) p.text
      ∙ sym (append_assoc (flat_map quoted_part o.value) (quoted_part p.byte) more)
      ∙ ap (λ (it : List ℕ). it ++ more) (flat_map_more quoted_part [] o.value p.byte));
}

-- how a value goes on after its first bytes
record GoesOn (value v x y : List ℕ) : Type 0 where
  tail : List ℕ
  whole : v ≡ value ++ tail
  rest : x ≡ flat_map quoted_part tail ++ (39 ∷ y)

-- a value that begins with these bytes goes on with others
goes_on : (value v x y : List ℕ) → ((more : List ℕ) → y ≢ 92 ∷ 39 ∷ 39 ∷ more)
    → flat_map quoted_part value ++ x ≡ flat_map quoted_part v ++ (39 ∷ y) → GoesOn value v x y
goes_on [] v x y ends same = record { tail = v; whole = refl; rest = same }
goes_on (b ∷ value) [] x y ends same =
    absurd (ends (flat_map quoted_part value ++ x)
    (part_before_quote b (flat_map quoted_part value ++ x) y
    (sym (append_assoc (quoted_part b) (flat_map quoted_part value) x) ∙ same)))
goes_on (b ∷ value) (c ∷ v) x y ends same =
    let both : (b ≡ c) × (flat_map quoted_part value ++ x ≡ flat_map quoted_part v ++ (39 ∷ y)) =
    same_part b c (flat_map quoted_part value ++ x) (flat_map quoted_part v ++ (39 ∷ y))
    (sym (append_assoc (quoted_part b) (flat_map quoted_part value) x) ∙ same
    ∙ append_assoc (quoted_part c) (flat_map quoted_part v) (39 ∷ y)) in
    let more : GoesOn value v x y = goes_on value v x y ends both.1 in
    record { tail = more.tail; whole = λ i. sym both.0 i ∷ more.whole i; rest = more.rest }

-- after a value that is open, another that is there goes on so
open_goes_on : (bytes rest more : List ℕ) (o : IsOpen bytes rest) (q : IsQuotedPrefix bytes more) → GoesOn o.value q.value rest more
open_goes_on bytes rest more o q =
    goes_on o.value q.value rest more q.ends
    (cc (o.text, q.text, append_assoc (flat_map quoted_part q.value) (39 ∷ []) more))

-- there is no byte of a value where an open value ends, so none goes on
no_tail : (bytes rest more tail : List ℕ) → ((other : List ℕ) → ¬ IsPartPrefix rest other) → IsTrue (has_no_zero tail)
    → rest ≡ flat_map quoted_part tail ++ (39 ∷ more) → rest ≡ 39 ∷ more
no_tail bytes rest more [] none no_zero same = same
no_tail bytes rest more (b ∷ tail) none no_zero same =
    absurd (none (flat_map quoted_part tail ++ (39 ∷ more)) (record {
      byte = b;
      no_zero = (both_hold (is_no_zero b) (has_no_zero tail) no_zero).0;
      text = same ∙ append_assoc (quoted_part b) (flat_map quoted_part tail) (39 ∷ more);
    }))

-- the end of a value has no zero byte where the whole has none
tail_has_no_zero : (value tail : List ℕ) → IsTrue (has_no_zero (value ++ tail)) → IsTrue (has_no_zero tail)
tail_has_no_zero value tail no_zero =
    (both_hold (has_no_zero value) (has_no_zero tail) (sym (list_all-append is_no_zero value tail) ∙ no_zero)).1

-- a value that is there ends where there is no further byte of it
pub ends_here : (bytes rest more : List ℕ) → IsOpen bytes rest → ((other : List ℕ) → ¬ IsPartPrefix rest other)
    → IsQuotedPrefix bytes more → rest ≡ 39 ∷ more
ends_here bytes rest more o none q =
    let g : GoesOn o.value q.value rest more = open_goes_on bytes rest more o q in
    no_tail bytes rest more g.tail none
    (tail_has_no_zero o.value g.tail (subst (λ (it : List ℕ). IsTrue (has_no_zero it)) g.whole q.no_zero)) g.rest

-- the quote after the value closes it, or no value is there
pub value_read : (bytes rest : List ℕ) (end : Option (Bor (List ℕ))) → IsOpen bytes rest
    → ((other : List ℕ) → ¬ IsPartPrefix rest other)
    → MatchOption end ((more : List ℕ) → rest ≢ (39 ∷ []) ++ more) (λ more. rest ≡ (39 ∷ []) ++ more.now)
    → MatchOption end ((more : List ℕ) → ¬ IsQuotedPrefix bytes more) (λ more. IsQuotedPrefix bytes more.now)
value_read bytes rest (Some more) o none ends = record {
  value = o.value;
  no_zero = o.no_zero;
  text = o.text ∙ ap (λ (it : List ℕ). 39 ∷ it) (ap (λ (it : List ℕ). flat_map quoted_part o.value ++ it) ends
      ∙ sym (append_assoc (flat_map quoted_part o.value) (39 ∷ []) more.now));
  ends = λ other same. none other (record {
    byte = 39;
    no_zero = refl;
    text = ends ∙ ap (λ (it : List ℕ). 39 ∷ it) same;
  });
}
value_read bytes rest None o none ends = λ more q. ends more (ends_here bytes rest more o none q)

-- two values between single quotes at the start of one text are one
pub record SameQuoted (bytes x y : List ℕ) (one : IsQuotedPrefix bytes x) (two : IsQuotedPrefix bytes y) : Type 0 where
  pub values : one.value ≡ two.value
  pub rest : x ≡ y

-- a value goes on with nothing where its quote closes
no_more_value : (x y tail : List ℕ) → ((more : List ℕ) → x ≢ 92 ∷ 39 ∷ 39 ∷ more) → 39 ∷ x ≡ flat_map quoted_part tail ++ (39 ∷ y)
    → (tail ≡ []) × (x ≡ y)
no_more_value x y [] ends same = (refl, cc same)
no_more_value x y (b ∷ tail) ends same =
    absurd (ends (flat_map quoted_part tail ++ (39 ∷ y))
    (part_before_quote b (flat_map quoted_part tail ++ (39 ∷ y)) x
    (sym (append_assoc (quoted_part b) (flat_map quoted_part tail) (39 ∷ y)) ∙ sym same)))

pub same_quoted : (bytes x y : List ℕ) (one : IsQuotedPrefix bytes x) (two : IsQuotedPrefix bytes y) → SameQuoted bytes x y one two
same_quoted bytes x y one two =
    let opened : IsOpen bytes (39 ∷ x) = record {
      value = one.value;
      no_zero = one.no_zero;
      text = one.text ∙ ap (λ (it : List ℕ). 39 ∷ it) (append_assoc (flat_map quoted_part one.value) (39 ∷ []) x);
    } in
    let g : GoesOn one.value two.value (39 ∷ x) y = open_goes_on bytes (39 ∷ x) y opened two in
    let none : (g.tail ≡ []) × (x ≡ y) = no_more_value x y g.tail one.ends g.rest in
    record {
      values = sym (append-nil one.value) ∙ sym (ap (λ (it : List ℕ). one.value ++ it) none.0) ∙ sym g.whole;
      rest = none.1;
    }

-- a text that begins with another byte than a backslash doesn't go on as a value does
pub no_backslash : (first : ℕ) (rest : List ℕ) → first ≢ 92 → (more : List ℕ) → first ∷ rest ≢ 92 ∷ 39 ∷ 39 ∷ more
no_backslash first rest other more same = other (cc same)
