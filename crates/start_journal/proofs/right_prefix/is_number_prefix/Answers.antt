use Rattle.std.proofs.Common.{◌≡◌, true, false, sym, ap, ◌∙◌, arith}
use Rattle.std.specs.Prelude.{◌||◌, nat_le, nat_lt, length}
use Rattle.std.proofs.lemmas.Bool.Decides.{nat_tests}
use Rattle.start_journal.proofs.PrefixLemmas.{no_number_begun, number_begun}
use Rattle.start_journal.proofs.right_prefix.is_number_prefix.Goals as goal

pub returns-then-digits-lt8 : goal.returns-then-digits-lt8
returns-then-digits-lt8 c =
    let few : nat_lt (length c.args.digits.now) 8 ≡ true = grind (arith, nat_tests) in
    few ∙ sym (number_begun c.args.kind c.in-Some.number c.args.digits.now c.if-kind-eq66.false c.in-Some.ensures.number
    ∙ ap (λ b. b || nat_le 1 c.in-Some.number) few)

pub returns-else-digits-lt8 : goal.returns-else-digits-lt8
returns-else-digits-lt8 c =
    let all : nat_lt (length c.args.digits.now) 8 ≡ false = grind (arith, nat_tests) in
    sym (number_begun c.args.kind c.in-Some.number c.args.digits.now c.if-kind-eq66.false c.in-Some.ensures.number
    ∙ ap (λ b. b || nat_le 1 c.in-Some.number) all ∙ grind (arith, nat_tests))

pub returns-in-None : goal.returns-in-None
returns-in-None c = no_number_begun c.args.kind c.args.digits.now c.if-kind-eq66.false c.in-None.ensures.none
