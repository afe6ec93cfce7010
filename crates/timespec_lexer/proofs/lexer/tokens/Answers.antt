use Rattle.std.proofs.Common.{rules, List, arith, subst, sym}
use Rattle.std.proofs.lemmas.Bool.Decides.{nat_tests}
use Rattle.timespec_lexer.specs.Tokens.{Walks}
use Rattle.timespec_lexer.specs.declared.placed.Placed.{Placed}
use Rattle.timespec_lexer.proofs.ReadingLaws.{only_reading, only_refusal}
use Rattle.timespec_lexer.proofs.WalkLemmas.{walks_on}
use Rattle.timespec_lexer.proofs.lexer.tokens.Goals as goal

pub loop-placed-preserved : goal.loop-placed-preserved
loop-placed-preserved c = record {
  within = c.in-Some.ensures.within;
  few = grind (arith, nat_tests);
  walks =
      subst (λ (placed : List Placed). Walks c.args.text.now 0 placed c.in-Some.found.end) (sym c.push.ensures.items)
      (walks_on c.args.text.now 0 c.loop-placed.placed.items c.loop-placed.end _ c.in-Some.found.end
      c.loop-placed.invariant.walks c.skip_separators-begin.ensures.separators c.in-Some.ensures.token);
}

pub returns-then-begin-text-clause-only_these : goal.returns-then-begin-text-clause-only_these
returns-then-begin-text-clause-only_these c =
    only_reading c.args.text.now c.loop-placed.placed.items (search rules)

pub returns-in_default-clause-only_there : goal.returns-in_default-clause-only_there
returns-in_default-clause-only_there c =
    only_refusal c.args.text.now c.skip_separators-begin.result (search rules)

pub returns-then-is_full-clause-only_there : goal.returns-then-is_full-clause-only_there
returns-then-is_full-clause-only_there c =
    only_refusal c.args.text.now c.skip_separators-begin.result (search rules)
