use Rattle.std.proofs.Common.{◌≡◌, List, length}
use Rattle.std.specs.Prelude.{None}
use Rattle.at_mail.specs.SessionsWithRests.{MakesMailSessions}
use Rattle.at_mail.specs.Outcomes.{PostItem, last_session_outcome}
use Rattle.at_mail.specs.Program.{mail_outside, work_with}
use Rattle.at_mail.proofs.session_loop.make_mail_sessions.Given as goal

abbrev pub invariant-loop-place : goal.invariant-loop-place
invariant-loop-place g l = record {
  made : (g.E.Sink.outlet l.err).made_as ≡ (g.E.Sink.outlet l.fn.err).made_as;
  items : List PostItem;
  all : length items ≡ l.place;
  makes : MakesMailSessions (mail_outside g.H.Host g.R.Readings g.E.Sink l.fn.host l.fn.readings l.fn.err).tells
      (work_with l.fn.post (mail_outside g.H.Host g.R.Readings g.E.Sink l.fn.host l.fn.readings l.fn.err))
      items (work_with l.post (mail_outside g.H.Host g.R.Readings g.E.Sink l.host l.readings l.err));
  goes_on : last_session_outcome items ≡ None;
}
