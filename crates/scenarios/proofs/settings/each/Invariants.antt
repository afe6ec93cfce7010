use Rattle.std.proofs.Common.{◌<◌, vec_len}
use Rattle.scenarios.proofs.settings.each.Given as goal

abbrev pub invariant-loop-word : goal.invariant-loop-word
invariant-loop-word g l = 0 < vec_len l.all
