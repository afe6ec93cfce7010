use Rattle.std.proofs.Common.{rules}
use Rattle.at_stat.proofs.LookLemmas.{looks_of_session}
use Rattle.at_stat.proofs.session.look_at_jobs.Goals as goal

pub returns : goal.returns
returns g c =
    looks_of_session g.H.Host _ _ _ _ _ _ c.args.user.now c.args.which.now c.in_command_session.ensures.quiet
    c.in_command_session.ensures.faults c.in_command_session.ensures.ends
    (λ first last did. search (rules, did))
