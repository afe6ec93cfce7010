use Rattle.std.proofs.Common.{rules, subst, sym}
use Rattle.host_calls.specs.declared.turn_end.TurnEnd.{TurnEnd}
use Rattle.at_mail.specs.NotingOutcome.{IsNoted, IsNoting, NotesNewJobs}
use Rattle.at_mail.proofs.RewritingLemmas.{reads_of_session, rewrites_of_session}
use Rattle.at_mail.proofs.noting.note_new_jobs.Goals as goal

pub end_of_session-requires : goal.end_of_session-requires
end_of_session-requires g c =
    reads_of_session IsNoted IsNoting g.H.Host _ _ _ _ _
    (λ first last done did. record { inside = search (rules, did); reads = search (rules, did); leaves = search (rules, did) })
    c.in_session-worked.result c.in_session-worked.ensures.ends

pub returns : goal.returns
returns g c =
    subst (λ (end : TurnEnd).
    NotesNewJobs g.H.Host.tells g.H.Host.alone (g.H.Host.session c.args.host.now) (g.H.Host.session c.in_session-worked.new.host)
    (g.H.Host.world c.args.host.now) (g.H.Host.world c.in_session-worked.new.host) end) (sym c.end_of_session.ensures)
    (rewrites_of_session IsNoted IsNoting g.H.Host _ _ _ _ _
    (λ first last done did. record { inside = search (rules, did); reads = search (rules, did); leaves = search (rules, did) })
    c.in_session-worked.result c.in_session-worked.ensures.ends)
