-- One text has one list of tokens, or one place of refusal.
use Rattle.std.proofs.Common.{◌≡◌, ℕ, ◌+◌, ◌≤◌, false, List, [], ◌∷◌, ◌++◌, length, arith, refl, sym, ◌∙◌, ap, subst, ◌⊎◌, inl, inr}
use Rattle.std.specs.Prelude.{slice_index}
use Rattle.std.proofs.lemmas.Bool.{cases_lt}
use Rattle.std.proofs.lemmas.List.{length-append}
use Rattle.timespec_lexer.specs.Tokens.{is_separator, AreSeparators, IsOnlyReading, IsOnlyRefusal, RefusedAt, HasToken, Tokenizes, Walks}
use Rattle.timespec_lexer.specs.declared.lexer.TheConstants.{MAX_TOKENS}
use Rattle.timespec_lexer.specs.declared.token.Token.{Token}
use Rattle.timespec_lexer.specs.declared.placed.Placed.{Placed}
use Rattle.timespec_lexer.proofs.StandLaws.{holds_solid, holds_inside, holds_once, none_holds}

-- two places after the same separators where no separator is are one
one_place : (text : List ℕ) (from a b : ℕ) → AreSeparators text from a → AreSeparators text from b
    → is_separator (slice_index text a) ≡ false → is_separator (slice_index text b) ≡ false → a ≡ b
one_place text from a b short long here there =
    elim (cases_lt a b) [
      | inl less ↦ absurd (cc (long.each a short.forward less, here))
      | inr most ↦ elim (cases_lt b a) [
        | inl less ↦ absurd (cc (short.each b long.forward less, there))
        | inr more ↦ omega arith
      ]
    ]

-- a token at a place
abbrev placed_at : Token → ℕ → Placed
placed_at token place = record { token = token; place = place }

-- one token at one place
same_placed : (x y : Placed) → x.token ≡ y.token → x.place ≡ y.place → x ≡ y
same_placed x y token place = ap (λ (it : Token). placed_at it x.place) token ∙ ap (placed_at y.token) place

-- one token more than those before, after separators
record GoesOn (text : List ℕ) (before after : List Placed) (end : ℕ) : Type 0 where
  next : Placed
  others : List Placed
  all : after ≡ before ++ next ∷ others
  separators : AreSeparators text end next.place
  to : ℕ
  holds : HasToken text next.place to next.token

-- of two walks from one place, one is the other, or goes on after it
compare_walks : (text : List ℕ) (from : ℕ) (a b : List Placed) (end end' : ℕ)
    → Walks text from a end → Walks text from b end'
    → ((a ≡ b) × (end ≡ end')) ⊎ (GoesOn text a b end ⊎ GoesOn text b a end')
compare_walks text from [] [] end end' first second = inl (refl, sym first ∙ second)
compare_walks text from [] (next ∷ others) end end' first second =
    inr (inl (record {
      next = next;
      others = others;
      all = refl;
      separators = subst (λ (place : ℕ). AreSeparators text place next.place) first second.0;
      to = second.1;
      holds = second.2;
    }))
compare_walks text from (next ∷ others) [] end end' first second =
    inr (inr (record {
      next = next;
      others = others;
      all = refl;
      separators = subst (λ (place : ℕ). AreSeparators text place next.place) second first.0;
      to = first.1;
      holds = first.2;
    }))
compare_walks text from (x ∷ xs) (y ∷ ys) end end' first second =
    let place : x.place ≡ y.place = one_place text from x.place y.place first.0 second.0
    (holds_solid text x.place first.1 x.token first.2) (holds_solid text y.place second.1 y.token second.2) in
    let same : (second.1 ≡ first.1) × (y.token ≡ x.token) = holds_once text y.place second.1 first.1 y.token x.token second.2
    (subst (λ (p : ℕ). HasToken text p first.1 x.token) place first.2) in
    let head : x ≡ y = same_placed x y (sym same.1) place in
    let rest : Walks text first.1 ys end' = subst (λ (p : ℕ). Walks text p ys end') same.0 second.3 in
    elim (compare_walks text first.1 xs ys end end' first.3 rest) [
      | inl both ↦ inl (cc (head, both.0), both.1)
      | inr (inl more) ↦ inr (inl (record {
        next = more.next;
        others = more.others;
        all = cc (head, more.all);
        separators = more.separators;
        to = more.to;
        holds = more.holds;
      }))
      | inr (inr more) ↦ inr (inr (record {
        next = more.next;
        others = more.others;
        all = cc (head, more.all);
        separators = more.separators;
        to = more.to;
        holds = more.holds;
      }))
    ]

-- after the last token of a whole text none goes on
ends_there : (text : List ℕ) (a b : List Placed) (end : ℕ) → AreSeparators text end (length text) → GoesOn text a b end → ⊥
ends_there text a b end separators more =
    cc (
      separators.each more.next.place more.separators.forward (holds_inside text more.next.place more.to more.next.token more.holds),
      holds_solid text more.next.place more.to more.next.token more.holds,
    )

-- after the tokens before a refusal none goes on
stops_there : (text : List ℕ) (place : ℕ) (refused : RefusedAt text place) (b : List Placed) → length b ≤ MAX_TOKENS
    → GoesOn text refused.before b refused.end → ⊥
stops_there text place refused b few more =
    let there : more.next.place ≡ place = one_place text refused.end more.next.place place more.separators refused.separators
    (holds_solid text more.next.place more.to more.next.token more.holds) refused.here in
    elim refused.cause [
      | inl none ↦ none_holds text place more.to more.next.token none
          (subst (λ (p : ℕ). HasToken text p more.to more.next.token) there more.holds)
      | inr full ↦
          let count : length b ≡ length refused.before + length (more.next ∷ more.others) = ap length more.all
          ∙ length-append refused.before (more.next ∷ more.others) in
          absurd (omega arith)
    ]

-- a text that is tokens is no others
pub one_reading : (text : List ℕ) (a b : List Placed) → Tokenizes text a → Tokenizes text b → b ≡ a
one_reading text a b first second =
    elim (compare_walks text 0 a b first.end second.end first.walks second.walks) [
      | inl both ↦ sym both.0
      | inr (inl more) ↦ absurd (ends_there text a b first.end first.separators more)
      | inr (inr more) ↦ absurd (ends_there text b a second.end second.separators more)
    ]

-- a text that is tokens is not refused
pub not_both : (text : List ℕ) (a : List Placed) (place : ℕ) → Tokenizes text a → RefusedAt text place → ⊥
not_both text a place first refused =
    elim (compare_walks text 0 a refused.before first.end refused.end first.walks refused.walks) [
      | inl both ↦
          let separators : AreSeparators text refused.end (length text) =
          subst (λ (end : ℕ). AreSeparators text end (length text)) both.1 first.separators in
          cc (separators.each place refused.separators.forward refused.inside, refused.here)
      | inr (inl more) ↦ ends_there text a refused.before first.end first.separators more
      | inr (inr more) ↦ stops_there text place refused a first.few more
    ]

-- a text that is refused is refused at one place
pub one_refusal : (text : List ℕ) (a b : ℕ) → RefusedAt text a → RefusedAt text b → b ≡ a
one_refusal text a b first second =
    elim (compare_walks text 0 first.before second.before first.end second.end first.walks second.walks) [
      | inl both ↦
          one_place text first.end b a (subst (λ (end : ℕ). AreSeparators text end b) (sym both.1) second.separators)
          first.separators second.here first.here
      | inr (inl more) ↦ absurd (stops_there text a first second.before second.few more)
      | inr (inr more) ↦ absurd (stops_there text b second first.before first.few more)
    ]

pub only_reading : (text : List ℕ) (placed : List Placed) → Tokenizes text placed → IsOnlyReading text placed
only_reading text placed reads = record {
  no_other = λ other also. one_reading text placed other reads also;
  never_refused = λ place refused. not_both text placed place reads refused;
}

pub only_refusal : (text : List ℕ) (place : ℕ) → RefusedAt text place → IsOnlyRefusal text place
only_refusal text place refused = record {
  no_other = λ other also. one_refusal text place other refused also;
  no_tokens = λ placed reads. not_both text placed place reads refused;
}
