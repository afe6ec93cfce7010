use Rattle.std.proofs.Common.{refl, subst, map, string_bytes}
use Rattle.listing_text.specs.declared.cause.Cause.{Cause}
use Rattle.at_mail.specs.Outcomes.{mail_program}
use Rattle.tool_output.specs.SaidLines.{IsSaid}
use Rattle.tool_output.specs.Sinks.{sink_at}
use Rattle.at_mail.specs.Program.{PostEnds, mail_outside}
use Rattle.at_mail.specs.Words.{post_asked}
use Rattle.at_mail.proofs.ProgramLemmas.{unasked_ends}
use Rattle.at_mail.proofs.program.run_words.Goals as goal

pub returns-in-Ok : goal.returns-in-Ok
returns-in-Ok g c =
    subst (λ asked. PostEnds asked (mail_outside g.H.Host g.R.Readings g.E.Sink c.args.host.now c.args.readings.now c.args.err.now)
    (mail_outside g.H.Host g.R.Readings g.E.Sink c.post_sessions.new.host c.post_sessions.new.readings c.post_sessions.new.err)
    c.post_sessions.result)
    c.in-Ok.ensures.asked c.post_sessions.ensures

pub returns-in-Err : goal.returns-in-Err
returns-in-Err g c =
    unasked_ends (post_asked (map string_bytes c.args.words.now))
    (mail_outside g.H.Host g.R.Readings g.E.Sink c.args.host.now c.args.readings.now c.args.err.now)
    (mail_outside g.H.Host g.R.Readings g.E.Sink c.args.host.now c.args.readings.now c.say_cause.new.err) c.say_cause.result c.requires
    c.say_cause.ensures.made_as
    c.in-Err.fault c.in-Err.ensures.asked (record {
      session = refl;
      spool = refl;
      answers = refl;
      readers = refl;
      says = subst (λ (of : Cause).
          IsSaid mail_program g.E.Sink.tells of (sink_at (g.E.Sink.content c.args.err.now) (g.E.Sink.outlet c.args.err.now))
          (sink_at (g.E.Sink.content c.say_cause.new.err) (g.E.Sink.outlet c.say_cause.new.err)) c.say_cause.result)
          c.cause_of_words.ensures c.say_cause.ensures.said;
    })
