use Rattle.std.proofs.Common.{rules, ap, subst}
use Rattle.std.specs.List.{All}
use Rattle.real_tests.specs.Kept.{AgreesWith, kept_world}
use Rattle.real_tests.proofs.KeptLemmas.{gives_again}
use Rattle.real_tests.proofs.keeping.KeepingWitness.asked.Goals as goal

pub returns-clause-asked : goal.returns-clause-asked
returns-clause-asked c knows = (
  ap (kept_world c.args.self.now.model c.args.self.now.steps.items) (search rules),
  gives_again c.args.self.now.asked.items c.args.child.now c.in_ok-ending.ending
      (subst (All (AgreesWith c.args.child.now c.in_ok-ending.ending)) c.deref.ensures.value
      (c.agrees_with_all-agrees.ensures c.if-not-agrees.false)),
)
