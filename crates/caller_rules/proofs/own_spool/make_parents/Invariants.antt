use Rattle.caller_rules.specs.OwnSpool.{AreDurablyMade}
use Rattle.caller_rules.proofs.own_spool.make_parents.Given as goal

-- each name that was made so far is durable
abbrev pub invariant-loop-end : goal.invariant-loop-end
invariant-loop-end g l = AreDurablyMade (g.S.System.trace l.fn.system) (g.S.System.trace l.system)
