use Rattle.std.proofs.Common.{refl, inl, w64, FitsSigned, rules}
use Rattle.std.proofs.lemmas.Int.{to_z-of_z}
use Rattle.submission_checks.proofs.TimeLemmas.{only_refused, spec_dated, spec_stopped}
use Rattle.submission_checks.proofs.times.minute_of_spec.Goals as goal

pub returns-in-Err-clause-meant : goal.returns-in-Err-clause-meant
returns-in-Err-clause-meant c =
    rw c.misspelled.ensures (record {
      time =
          only_refused c.args.text.now c.args.now c.args.zone.now c.in-Err.fault.place c.in-Err.ensures.refused c.in-Err.ensures.only_there;
      comes = inl refl;
    })

pub returns-in-Err-parse-clause-meant : goal.returns-in-Err-parse-clause-meant
returns-in-Err-parse-clause-meant c =
    rw (c.misspelled-in-Err-parse.ensures, c.token_place.ensures) (record {
      time = spec_stopped c.args.text.now c.args.now c.args.zone.now c.as_slice-placed.result.now c.in-Ok.placed.items
          c.in-Err-parse.fault.token
          c.as_slice-placed.ensures.value c.in-Ok.ensures.tokens c.in-Ok.ensures.only_these c.in-Err-parse.ensures.fault;
      comes = inl refl;
    })

pub returns-clause-meant : goal.returns-clause-meant
returns-clause-meant c =
    let fits : FitsSigned w64 c.args.now = search rules in
    spec_dated c.args.text.now c.args.now _ c.args.zone.now c.as_slice-placed.result.now c.in-Ok.placed.items c.in-Ok-parse.spec
    c.minute_of.result c.dated.result c.as_slice-placed.ensures.value c.in-Ok.ensures.tokens c.in-Ok.ensures.only_these
    c.in-Ok-parse.ensures.spelled c.in-Ok-parse.ensures.only (to_z-of_z w64 c.args.now fits)
    c.minute_of.ensures.meant c.minute_of.ensures.only c.dated.ensures.dated
