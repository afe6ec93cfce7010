use Rattle.std.proofs.Common.{◌∙◌, ap, map, string_bytes, subst, sym}
use Rattle.at_stat.specs.StatOutcome.{HasStatEnded, stat_outside, stopped_status}
use Rattle.at_stat.specs.Words.{stat_asked}
use Rattle.at_stat.proofs.EndLemmas.{ended_unasked}
use Rattle.at_stat.proofs.program.states_by_words.Goals as goal

pub returns-in-Err : goal.returns-in-Err
returns-in-Err g c =
    let asked = stat_asked (map string_bytes c.args.words.now) in
    let at = stat_outside g.H.Host g.R.Readings g.O.Sink c.args.host.now c.args.readings.now c.args.out.now in
    subst (HasStatEnded asked c.args.caller.now at at) (sym (c.of.ensures ∙ ap stopped_status c.cause_of_words.ensures))
    (ended_unasked asked c.args.caller.now at c.requires c.in-Err.fault c.in-Err.ensures.asked)
