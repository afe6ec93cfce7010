use Rattle.std.proofs.Common.{rules}
use Rattle.at_words.proofs.arguments.has_flag.Goals as goal

pub returns-in-Some : goal.returns-in-Some
returns-in-Some c = rw (← c.in-Some.ensures) (search rules)

pub returns-in-None : goal.returns-in-None
returns-in-None c = rw (← c.in-None.ensures) (search rules)
