use Rattle.std.proofs.Common.{length}
use Rattle.caller_rules.proofs.option_value.+last_value.Given as goal

abbrev pub decreases-last_value : goal.decreases-last_value
decreases-last_value l = length l.words.now
