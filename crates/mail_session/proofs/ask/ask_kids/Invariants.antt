use Rattle.host_calls.specs.Session.{StaysInside}
use Rattle.mail_session.proofs.AskingLemmas.{HasAsked}
use Rattle.mail_session.proofs.ask.ask_kids.Given as goal

abbrev pub invariant-loop-count : goal.invariant-loop-count
invariant-loop-count g l = record {
  inside : StaysInside (g.H.Host.session l.fn.host) (g.H.Host.session l.host);
  has : HasAsked g.H.Host.tells l.fn.kids.items l._count l.place l.kids.items (g.H.Host.world l.fn.host) (g.H.Host.world l.host);
}
