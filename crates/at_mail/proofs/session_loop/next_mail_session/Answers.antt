use Rattle.at_mail.proofs.session_loop.next_mail_session.Goals as goal

pub returns-clause-makes : goal.returns-clause-makes
returns-clause-makes g c = record {
  item = record { end = c.session-report.result.end; sent = c.session-report.result.sent; said = c.say_mail_end-said.result };
  posts = c.session-report.ensures;
  says = c.say_mail_end-said.ensures.says;
  comes = c.session_outcome.ensures;
}
