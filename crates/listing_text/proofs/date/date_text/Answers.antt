use Rattle.std.proofs.Common.{rules, ◌≡◌, refl, sym, ap, ◌∙◌, w16}
use Rattle.std.proofs.lemmas.Int.{to_z-of_z}
use Rattle.std.proofs.Math.IntN.{nat_abs}
use Rattle.std.specs.Int.RustNames.{FitsSigned}
use Rattle.std.specs.Fmt.{decimal, signed_decimal}
use Rattle.listing_text.proofs.DateLemmas.{three_items, four_items, decimal-year}
use Rattle.listing_text.proofs.date.date_text.Goals as goal

pub returns : goal.returns
returns c =
    let civil = c.args.civil.now in
    let weekday = sym c.weekday_name.ensures ∙ three_items c.weekday_name.result.now (search rules) in
    let month = sym c.month_name.ensures ∙ three_items c.month_name.result.now (search rules) in
    let fits : FitsSigned w16 civil.year = search rules in
    let digits : signed_decimal civil.year ≡ c.year_digits.result =
    sym (c.year_digits.ensures ∙ ap (λ z. decimal (nat_abs z)) (to_z-of_z w16 civil.year fits)
    ∙ decimal-year civil.year c.requires.year.0) in
    let year = digits ∙ four_items c.year_digits.result (search rules) in
    rw (weekday, month, year, c.day_column.ensures) refl
