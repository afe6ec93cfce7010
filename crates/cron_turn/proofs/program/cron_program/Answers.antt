use Rattle.std.proofs.Common.{map, refl, string_bytes}
use Rattle.cron_turn.specs.Outside.{run_at, cron_telling}
use Rattle.cron_turn.specs.Words.{cron_asked}
use Rattle.cron_turn.proofs.ProgramLemmas.{runs_risen}
use Rattle.cron_turn.proofs.program.cron_program.Goals as goal

pub returns-clause-risen : goal.returns-clause-risen
returns-clause-risen g c = rw c.of.ensures
    (runs_risen (cron_asked (map string_bytes c.args.words.now)) (cron_telling g.H.Host g.R.Readings g.I.Inputs g.E.Sink) c.args.caller.now
    (run_at g.H.Host g.R.Readings g.I.Inputs g.E.Sink c.args.host.now c.args.readings.now c.args.inputs.now c.args.err.now)
    (run_at g.H.Host g.R.Readings g.I.Inputs g.E.Sink c.run_by_words-cause.new.host c.run_by_words-cause.new.readings
    c.run_by_words-cause.new.inputs c.run_by_words-cause.new.err)
    (run_at g.H.Host g.R.Readings g.I.Inputs g.E.Sink c.run_by_words-cause.new.host c.run_by_words-cause.new.readings
    c.run_by_words-cause.new.inputs c.say_cause.new.err)
    c.run_by_words-cause.result c.say_cause.result c.run_by_words-cause.ensures.does
    (record { spool = refl; clock = refl; input = refl; said = c.say_cause.ensures.said }) c.say_cause.ensures.later)

pub returns-clause-runs : goal.returns-clause-runs
returns-clause-runs g c = rw c.of.ensures (record {
  cause = c.run_by_words-cause.result;
  done = run_at g.H.Host g.R.Readings g.I.Inputs g.E.Sink c.run_by_words-cause.new.host c.run_by_words-cause.new.readings
      c.run_by_words-cause.new.inputs c.run_by_words-cause.new.err;
  does = c.run_by_words-cause.ensures.does;
  ended = record { spool = refl; clock = refl; input = refl; said = c.say_cause.ensures.said };
})
