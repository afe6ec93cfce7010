use Rattle.std.proofs.Common.{◌≡◌, ℕ, drop, arith, sym, ap, ◌∙◌, refl}
use Rattle.std.proofs.lemmas.List.{take-append-drop}
use Rattle.std.proofs.lemmas.List.Sums.{prefix_len-le-length}
use Rattle.std.specs.List.{prefix_len}
use Rattle.std.specs.Char.{is_ascii_digit}
use Rattle.load_reading.proofs.LoadLemmas.{list_all-prefix, count-load, fraction-load}
use Rattle.load_reading.proofs.load.hundredths.Goals as goal

pub returns-then-count-eq0-clause-none : goal.returns-then-count-eq0-clause-none
returns-then-count-eq0-clause-none c load spelled =
    let counted = count-load c.args.text.now load spelled in
    let some = spelled.some in
    let few = spelled.few in
    omega (arith, c.digit_count-count.ensures, c.then-count-eq0.either)

pub split_at-requires : goal.split_at-requires
split_at-requires c =
    omega (arith, c.digit_count-count.ensures, prefix_len-le-length is_ascii_digit c.args.text.now)

pub returns-in_err-hundredths-clause-none : goal.returns-in_err-hundredths-clause-none
returns-in_err-hundredths-clause-none c =
    let text = c.args.text.now in
    let after : c.split_at.result.1.now ≡ drop (prefix_len is_ascii_digit text) text =
    c.split_at.ensures.back ∙ ap (λ (n : ℕ). drop n text) c.digit_count-count.ensures in
    rw c.from_residual.ensures
    (λ load spelled. c.in_err-hundredths.ensures.none spelled.hundredths (rw after (fraction-load text load spelled)))

pub number_of_digits-requires-clause-each : goal.number_of_digits-requires-clause-each
number_of_digits-requires-clause-each c =
    rw (c.split_at.ensures.front, c.digit_count-count.ensures) (list_all-prefix is_ascii_digit c.args.text.now)

pub returns-clause-some : goal.returns-clause-some
returns-clause-some c =
    let parts = c.split_at.ensures in
    let counted = parts.front_len in
    record {
      whole = c.split_at.result.0.now;
      rest = c.split_at.result.1.now;
      hundredths = c.in_ok-hundredths.hundredths;
      spelled = rw (parts.front, parts.back) (sym (take-append-drop _ _));
      some = omega (arith, counted);
      few = omega (arith, counted);
      digits = rw (parts.front, c.digit_count-count.ensures) (list_all-prefix is_ascii_digit c.args.text.now);
      fraction = c.in_ok-hundredths.ensures.some;
      value = rw c.number_of_digits.ensures.value refl;
    }
