use Rattle.std.proofs.Common.{◌+◌, List, ap, arith, rules, subst, sym, take, refl, ◌∙◌}
use Rattle.std.proofs.lemmas.Slice.{pushed}
use Rattle.spool_model.specs.declared.step.Step.{Step}
use Rattle.spool_store.specs.StepSequences.{MakesSteps, MayMakeSteps}
use Rattle.daemon_turn.proofs.MakeLemmas.{made_all, nothing_made, written_part}
use Rattle.daemon_turn.proofs.turning.Turning.make_all.Goals as goal

pub returns-in_err-changes-clause-makes : goal.returns-in_err-changes-clause-makes
returns-in_err-changes-clause-makes g c = nothing_made _ _ _ c.from_residual.result c.from_residual.ensures.1 c.requires.inside refl

pub returns-in_err-extend_from_slice-clause-makes : goal.returns-in_err-extend_from_slice-clause-makes
returns-in_err-extend_from_slice-clause-makes g c =
    nothing_made _ _ _ c.from_residual-in_err-extend_from_slice.result c.from_residual-in_err-extend_from_slice.ensures.1
    c.requires.inside (search rules)

pub make_all-outcome-requires : goal.make_all-outcome-requires
make_all-outcome-requires g c =
    subst (MayMakeSteps g.H.Host.tells (g.H.Host.session c.args.host.now) (g.H.Host.world c.args.host.now) c.args.store)
    (sym (c.as_slice.ensures.value ∙ c.in_ok-changes.ensures)) c.requires

pub returns-clause-makes : goal.returns-clause-makes
returns-clause-makes g c =
    made_all c.args.steps.now _ _ c.make_all-outcome.result
    (subst (λ (steps : List Step).
    MakesSteps g.H.Host.tells (g.H.Host.session c.args.host.now) (g.H.Host.session c.make_all-outcome.new.host)
    (g.H.Host.world c.args.host.now) (g.H.Host.world c.make_all-outcome.new.host) c.args.store steps c.make_all-outcome.new.made
    c.make_all-outcome.result)
    (c.as_slice.ensures.value ∙ c.in_ok-changes.ensures) c.make_all-outcome.ensures)
    (c.truncate.ensures.items ∙ ap (take (c.len-before.result + c.make_all-outcome.new.made))
    (pushed c.args.steps.now refl c.in_ok-extend_from_slice.was c.extend_from_slice.ensures.items)
    ∙ written_part c.args.self.now.steps.items c.args.steps.now c.make_all-outcome.new.made _ (omega arith))
