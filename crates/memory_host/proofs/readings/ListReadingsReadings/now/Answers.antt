use Rattle.std.proofs.Common.{◌≡◌, ◌<◌, ◌≤◌, Some, length, rules}
use Rattle.std.proofs.lemmas.Int.{to_z-of_z}
use Rattle.memory_host.specs.Readings.{answer_at}
use Rattle.host_calls.specs.Clock.{last_count}
use Rattle.memory_host.proofs.AnswerLemmas.{answer_more}
use Rattle.memory_host.proofs.readings.ListReadingsReadings.now.Goals as goal
use mir.Syntax.{w64}
use mir.Val.{SFits, to_z, of_z}

pub returns-clause-known : goal.returns-clause-known
returns-clause-known c tells =
    let given = c.args.self.now.nows.items in
    let count = c.args.self.now.now_count in
    let some : 0 < length given = search rules in
    let counted : count ≤ last_count = search rules in
    let fits : SFits w64 c.planned_answer-now.result = search rules in
    let known : answer_at given count ≡ Some c.planned_answer-now.result = rw (← c.deref.ensures.value) c.planned_answer-now.ensures in
    let as_is : answer_at given count ≡ Some (to_z w64 (of_z w64 c.planned_answer-now.result)) =
    rw (to_z-of_z w64 c.planned_answer-now.result fits) known in
    let more = answer_more given count c.saturating_add-self.result _ some c.saturating_add-self.ensures counted as_is in
    cc
