-- How large a number of few digits is.
use Rattle.std.proofs.Common.{◌≡◌, ℕ, zero, suc, ◌+◌, ◌*◌, ◌-◌, ◌<◌, ◌≤◌, List, arith, add-suc}
use Rattle.std.specs.Prelude.{slice_index}
use Rattle.std.proofs.lemmas.Bool.Decides.{nat_tests}
use Rattle.timespec_lexer.specs.Tokens.{IsDigitAt, number_at}

-- ten times itself so many times
abbrev ten_to : ℕ → ℕ
ten_to zero = 1
ten_to (suc n) = ten_to n * 10

-- more digits reach farther
ten_to_grows : (n k : ℕ) → ten_to n ≤ ten_to (n + k)
ten_to_grows n zero = grind arith
ten_to_grows n (suc k) = rw add-suc (let below : ten_to n ≤ ten_to (n + k) = ten_to_grows n k in omega arith)

-- a digit is at most nine
pub digit_below : (text : List ℕ) (place : ℕ) → IsDigitAt text place → slice_index text place - 48 < 10
digit_below text place digit = grind (arith, nat_tests)

-- so many digits stay below that power of ten
number_below : (text : List ℕ) (place count : ℕ)
    → ((k : ℕ) → place ≤ k → k < place + count → IsDigitAt text k)
    → number_at text place count < ten_to count
number_below text place zero digits = omega arith
number_below text place (suc count) digits =
    let few : number_at text place count < ten_to count = number_below text place count (λ k from below. digits k from (omega arith)) in
    let last : slice_index text (place + count) - 48 < 10 =
    digit_below text (place + count) (digits (place + count) (omega arith) (omega arith)) in
    omega arith

-- eight digits spell less than a hundred million
pub number_small : (text : List ℕ) (place end : ℕ) → place ≤ end → end - place ≤ 8
    → ((k : ℕ) → place ≤ k → k < end → IsDigitAt text k)
    → number_at text place (end - place) < 100_000_000
number_small text place end forward few digits =
    let below : number_at text place (end - place) < ten_to (end - place) =
    number_below text place (end - place) (λ k from below. digits k from (omega arith)) in
    let grows : ten_to (end - place) ≤ ten_to ((end - place) + (8 - (end - place))) = ten_to_grows (end - place) (8 - (end - place)) in
    let all : (end - place) + (8 - (end - place)) ≡ 8 = omega arith in
    let most : ten_to (end - place) ≤ ten_to 8 = rw all at grows in
    omega arith
