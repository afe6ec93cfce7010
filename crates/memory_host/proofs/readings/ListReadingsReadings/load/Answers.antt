use Rattle.std.proofs.Common.{◌≡◌, ◌<◌, ◌≤◌, Some, length, rules}
use Rattle.memory_host.specs.Readings.{answer_at}
use Rattle.host_calls.specs.Clock.{last_count}
use Rattle.memory_host.proofs.AnswerLemmas.{answer_more}
use Rattle.memory_host.proofs.readings.ListReadingsReadings.load.Goals as goal

pub returns-clause-known : goal.returns-clause-known
returns-clause-known c tells =
    let given = c.args.self.now.loads.items in
    let count = c.args.self.now.load_count in
    let some : 0 < length given = search rules in
    let counted : count ≤ last_count = search rules in
    let known : answer_at given count ≡ Some c.planned_answer-load.result = rw (← c.deref.ensures.value) c.planned_answer-load.ensures in
    let more =
    answer_more given count c.saturating_add-self.result c.planned_answer-load.result some c.saturating_add-self.ensures counted known in
    cc
