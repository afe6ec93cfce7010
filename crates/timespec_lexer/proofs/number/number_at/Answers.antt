use Rattle.std.proofs.Common.{◌≡◌, ◌+◌, ◌-◌, ◌<◌, ℕ, suc, arith, Bool, true, IsTrue, subst, sym, ◌∙◌, inl, inr}
use Rattle.std.specs.Prelude.{slice_index}
use Rattle.std.proofs.lemmas.Bool.{cases_lt}
use Rattle.timespec_lexer.specs.Tokens.{IsDigitAt, number_at}
use Rattle.timespec_lexer.proofs.NumberLemmas.{number_small, digit_below}
use Rattle.timespec_lexer.proofs.number.number_at.Goals as goal

-- a test that was true
digit_true : {b c : Bool} → b ≡ c → b ≡ true → IsTrue c
digit_true same is = sym same ∙ is

pub overflow_mul-value : goal.overflow_mul-value
overflow_mul-value c =
    let inv = c.loop-end.invariant in
    let small : number_at c.args.text.now c.args.place (c.loop-end.end - c.args.place) < 100_000_000 =
    number_small c.args.text.now c.args.place c.loop-end.end inv.forward (omega arith) inv.digits in
    omega (arith, inv.value)

pub overflow_add-value : goal.overflow_add-value
overflow_add-value c =
    let inv = c.loop-end.invariant in
    let small : number_at c.args.text.now c.args.place (c.loop-end.end - c.args.place) < 100_000_000 =
    number_small c.args.text.now c.args.place c.loop-end.end inv.forward (omega arith) inv.digits in
    let digit : slice_index c.args.text.now c.loop-end.end - 48 < 10 =
    digit_below c.args.text.now c.loop-end.end (digit_true c.is_ascii_digit.ensures.value c.if-is_ascii_digit.true) in
    omega (arith, inv.value)

pub loop-end-preserved : goal.loop-end-preserved
loop-end-preserved c =
    let inv = c.loop-end.invariant in
    record {
      forward = omega arith;
      within = omega arith;
      few = omega arith;
      digits = λ k from below. elim (cases_lt k c.loop-end.end) [
        | inl less ↦ inv.digits k from less
        | inr most ↦
            let last : c.loop-end.end ≡ k = omega arith in
            subst (λ (place : ℕ). IsDigitAt c.args.text.now place) last
            (digit_true c.is_ascii_digit.ensures.value c.if-is_ascii_digit.true)
      ];
      value =
          let count : c.loop-end.end + 1 - c.args.place ≡ suc (c.loop-end.end - c.args.place) = omega arith in
          let there : c.args.place + (c.loop-end.end - c.args.place) ≡ c.loop-end.end = omega arith in
          rw count (rw there (cc (inv.value, c.from.ensures)));
    }
