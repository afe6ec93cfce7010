use Rattle.std.proofs.Common.{refl, inl, w64, FitsSigned, rules}
use Rattle.std.proofs.lemmas.Int.{to_z-of_z}
use Rattle.submission_checks.proofs.TimeLemmas.{touch_dated, touch_unread}
use Rattle.submission_checks.proofs.times.minute_of_touched.Goals as goal

pub returns-in_default-clause-meant : goal.returns-in_default-clause-meant
returns-in_default-clause-meant c =
    rw c.refused.ensures (record {
      time = touch_unread c.args.text.now c.args.now c.args.zone.now c.read_touch.result c.in_default.is c.read_touch.ensures.only;
      comes = inl refl;
    })

pub returns-clause-meant : goal.returns-clause-meant
returns-clause-meant c =
    let fits : FitsSigned w64 c.args.now = search rules in
    touch_dated c.args.text.now c.args.now _ c.args.zone.now c.in-Some.touch c.read_touch.result c.minute_of_touch.result c.dated.result
    c.in-Some.is c.in-Some.ensures.spelled c.read_touch.ensures.only (to_z-of_z w64 c.args.now fits)
    c.minute_of_touch.ensures.meant c.minute_of_touch.ensures.only c.dated.ensures.dated
