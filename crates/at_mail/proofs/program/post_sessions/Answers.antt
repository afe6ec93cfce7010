use Rattle.std.proofs.Common.{◌≡◌, refl, sym, subst, ap, ◌∙◌}
use Rattle.mail_session.specs.PostState.{PostState, new_post}
use Rattle.daemon_turn.specs.Kids.{AreChildren}
use Rattle.at_mail.specs.Program.{mail_outside, work_with}
use Rattle.at_mail.specs.inside.OneSession.{HasMade}
use Rattle.at_mail.proofs.ProgramLemmas.{no_kids, posted_ends, unmade_ends}
use Rattle.at_mail.proofs.program.post_sessions.Goals as goal

pub make_mail_sessions-outcome-requires-clause-children : goal.make_mail_sessions-outcome-requires-clause-children
make_mail_sessions-outcome-requires-clause-children g c =
    let same : c.in-Ok.post ≡ new_post c.args.request.now.program = c.in-Ok.ensures ∙ ap new_post c.as_str.ensures in
    subst (λ (post : PostState). AreChildren (g.H.Host.session c.args.host.now).children post.kids) (sym same)
    (no_kids (g.H.Host.session c.args.host.now).children c.args.request.now.program)

pub returns-in-Ok : goal.returns-in-Ok
returns-in-Ok g c =
    let old = mail_outside g.H.Host g.R.Readings g.E.Sink c.args.host.now c.args.readings.now c.args.err.now in
    let mid = mail_outside g.H.Host g.R.Readings g.E.Sink c.make_mail_sessions-outcome.new.host c.make_mail_sessions-outcome.new.readings
    c.make_mail_sessions-outcome.new.err in
    let new = mail_outside g.H.Host g.R.Readings g.E.Sink c.make_mail_sessions-outcome.new.host c.make_mail_sessions-outcome.new.readings
    c.say_mail_outcome.new.err in
    let same : c.in-Ok.post ≡ new_post c.args.request.now.program = c.in-Ok.ensures ∙ ap new_post c.as_str.ensures in
    posted_ends c.args.request.now c.make_mail_sessions-outcome.new.post old mid new c.make_mail_sessions-outcome.result
    c.say_mail_outcome.result c.requires.outside
    (subst (λ (post : PostState). HasMade old.tells c.args.request.now.turns (work_with post old)
    (work_with c.make_mail_sessions-outcome.new.post mid) c.make_mail_sessions-outcome.result) same
    c.make_mail_sessions-outcome.ensures.makes)
    refl refl refl refl c.say_mail_outcome.ensures.later (c.say_mail_outcome.ensures.made_as ∙ c.make_mail_sessions-outcome.ensures.made)
    c.say_mail_outcome.ensures.says

pub returns-in-Err : goal.returns-in-Err
returns-in-Err g c =
    unmade_ends _ (mail_outside g.H.Host g.R.Readings g.E.Sink c.args.host.now c.args.readings.now c.args.err.now) _ c.say_cause.result
    c.requires.outside c.say_cause.ensures.made_as
    (record { session = refl; spool = refl; answers = refl; readers = refl; says = c.say_cause.ensures.said })
