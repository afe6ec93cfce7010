use Rattle.std.proofs.Common.{codes}
use Rattle.at_account.proofs.ProgramLemmas.{said_ends, said_line}
use Rattle.at_account.proofs.program.account_program.Goals as goal

pub returns-clause-accounting : goal.returns-clause-accounting
returns-clause-accounting g c =
    rw c.of.ensures (said_ends _ _ _ c.account_by_words-cause.result c.account_by_words-cause.ensures (codes "ataccount") g.E.Sink.tells _ _
    c.say_cause.result c.say_cause.ensures.said)

pub returns-clause-says : goal.returns-clause-says
returns-clause-says g c =
    rw c.of.ensures
    (said_line (codes "ataccount") g.E.Sink.tells c.account_by_words-cause.result _ _ c.say_cause.result c.say_cause.ensures.said)
