use Rattle.std.proofs.Common.{◌∙◌, List, ℕ, refl, rules, subst, sym}
use Rattle.daemon_turn.specs.Kids.{AreChildren}
use Rattle.host_calls.specs.declared.turn_end.TurnEnd.{TurnEnd}
use Rattle.host_calls.specs.SessionEnds.{end_of_session}
use Rattle.mail_session.specs.SessionOutcome.{PostsTo}
use Rattle.mail_session.specs.PostState.{PostState}
use Rattle.mail_session.proofs.MailerLemmas.{distinct_of_session, post_of_session, reads_of_session}
use Rattle.mail_session.proofs.mailer.Post.session.Goals as goal

pub end_of_session-requires : goal.end_of_session-requires
end_of_session-requires g c = reads_of_session g.H.Host _ _ _ _ _ c.in_session-worked.result c.in_session-worked.ensures.ends
    (λ first last done did. search (rules, did))

pub mail_report-requires : goal.mail_report-requires
mail_report-requires g c =
    let post : PostState = record { program = c.as_slice-program.result.now; kids = c.self.inside.kids.items } in
    let now : PostState = record { program = c.as_slice-program.result.now; kids = c.in_session-worked.new.work.2.now.items } in
    distinct_of_session g.H.Host _ _ _ _ _ post now refl
    (subst (λ (is : PostState). AreChildren (g.H.Host.session c.args.host.now).children is.kids) (sym c.self.view_is) c.requires.children)
    c.sent-2-1.given.0.items
    (λ same. (search (rules, same), search (rules, same, c.new-sent.ensures.items)))
    (λ first last done did. search (rules, did)) c.in_session-worked.result c.in_session-worked.ensures.ends

pub returns : goal.returns
returns g c =
    let post : PostState = record { program = c.as_slice-program.result.now; kids = c.self.inside.kids.items } in
    let now : PostState = record { program = c.as_slice-program.result.now; kids = c.in_session-worked.new.work.2.now.items } in
    let holds : PostsTo g.H.Host.tells g.H.Host.alone
    (record { session = g.H.Host.session c.args.host.now; world = g.H.Host.world c.args.host.now; post = post })
    (record { session = g.H.Host.session c.in_session-worked.new.host; world = g.H.Host.world c.in_session-worked.new.host; post = now })
    c.mail_report.result.end c.mail_report.result.sent =
    subst (λ (end : TurnEnd). PostsTo g.H.Host.tells g.H.Host.alone
    (record { session = g.H.Host.session c.args.host.now; world = g.H.Host.world c.args.host.now; post = post })
    (record { session = g.H.Host.session c.in_session-worked.new.host; world = g.H.Host.world c.in_session-worked.new.host; post = now })
    end c.mail_report.result.sent) (sym (c.mail_report.ensures.end ∙ c.end_of_session.ensures))
    (subst (PostsTo g.H.Host.tells g.H.Host.alone
    (record { session = g.H.Host.session c.args.host.now; world = g.H.Host.world c.args.host.now; post = post })
    (record { session = g.H.Host.session c.in_session-worked.new.host; world = g.H.Host.world c.in_session-worked.new.host; post = now })
    (end_of_session c.in_session-worked.result)) (sym c.mail_report.ensures.sent)
    (post_of_session g.H.Host _ _ _ _ _ post now refl
    (subst (λ (is : PostState). AreChildren (g.H.Host.session c.args.host.now).children is.kids) (sym c.self.view_is) c.requires.children) _
    (λ same. (search (rules, same), search (rules, same, c.new-sent.ensures.items)))
    (λ first last done did. search (rules, did)) c.in_session-worked.result c.in_session-worked.ensures.ends)) in
    subst (λ (was : PostState). PostsTo g.H.Host.tells g.H.Host.alone
    (record { session = g.H.Host.session c.args.host.now; world = g.H.Host.world c.args.host.now; post = was })
    (record {
      session = g.H.Host.session c.in_session-worked.new.host;
      world = g.H.Host.world c.in_session-worked.new.host;
      post =
          record { program = c.self.inside.program.items; kids = c.in_session-worked.new.work.2.now.items };
    })
    c.mail_report.result.end c.mail_report.result.sent) c.self.view_is
    (subst (λ (program : List ℕ). PostsTo g.H.Host.tells g.H.Host.alone
    (record {
      session = g.H.Host.session c.args.host.now;
      world = g.H.Host.world c.args.host.now;
      post =
          record { program = program; kids = c.self.inside.kids.items };
    })
    (record {
      session = g.H.Host.session c.in_session-worked.new.host;
      world = g.H.Host.world c.in_session-worked.new.host;
      post =
          record { program = program; kids = c.in_session-worked.new.work.2.now.items };
    })
    c.mail_report.result.end c.mail_report.result.sent) c.as_slice-program.ensures.value holds)
