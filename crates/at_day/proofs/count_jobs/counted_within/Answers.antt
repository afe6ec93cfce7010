use Rattle.std.proofs.Common.{◌≤◌, length, refl, arith}
use Rattle.std.proofs.lemmas.List.Sums.{count_by-le-length}
use Rattle.step_runs.proofs.AttemptLemmas.{recoveries_begin_nothing}
use Rattle.memory_host.specs.Host.{memory_session, memory_world}
use Rattle.spool_model.specs.declared.decided.Decided.{Decided}
use Rattle.spool_model.specs.declared.number.TheConstants.{LAST_NUMBER}
use Rattle.at_day.specs.JobCounts.{is_running_row, is_waiting_row, was_finished, was_interrupted, was_not_started, was_removed}
use Rattle.at_day.proofs.CountLemmas.{decided_few, rows_few}
use Rattle.at_day.proofs.CountedLemmas.{counted}
use Rattle.at_day.proofs.count_jobs.counted_within.Goals as goal

pub returns-in_err-store-clause-unbegun : goal.returns-in_err-store-clause-unbegun
returns-in_err-store-clause-unbegun c =
    recoveries_begin_nothing (memory_world c.args.host.now) (memory_world c.recover.new.host) (c.in_err-store.ensures.files refl)

pub overflow_cast-result : goal.overflow_cast-result
overflow_cast-result c =
    let rows = c.rows-rows.result.now in
    let few : length rows ≤ LAST_NUMBER = rows_few c.in_ok-store.store.table c.last.ensures.sound rows c.rows-rows.ensures.rows in
    omega (arith, c.waiting.ensures, count_by-le-length is_waiting_row rows)

pub overflow_cast-result-2 : goal.overflow_cast-result-2
overflow_cast-result-2 c =
    let rows = c.rows-rows.result.now in
    let few : length rows ≤ LAST_NUMBER = rows_few c.in_ok-store.store.table c.last.ensures.sound rows c.rows-rows.ensures.rows in
    omega (arith, c.running.ensures, count_by-le-length is_running_row rows)

pub overflow_cast-result-3 : goal.overflow_cast-result-3
overflow_cast-result-3 c =
    let decided = c.decided-decided.result.now in
    let few : length decided ≤ LAST_NUMBER = decided_few c.in_ok-store.store.table c.last.ensures.sound decided c.decided-decided.ensures in
    omega (arith, c.removed.ensures, count_by-le-length (λ (one : Decided). was_removed one.fate) decided)

pub overflow_cast-result-4 : goal.overflow_cast-result-4
overflow_cast-result-4 c =
    let decided = c.decided-decided.result.now in
    let few : length decided ≤ LAST_NUMBER = decided_few c.in_ok-store.store.table c.last.ensures.sound decided c.decided-decided.ensures in
    omega (arith, c.finished.ensures, count_by-le-length (λ (one : Decided). was_finished one.fate) decided)

pub overflow_cast-result-5 : goal.overflow_cast-result-5
overflow_cast-result-5 c =
    let decided = c.decided-decided.result.now in
    let few : length decided ≤ LAST_NUMBER = decided_few c.in_ok-store.store.table c.last.ensures.sound decided c.decided-decided.ensures in
    omega (arith, c.not_started.ensures, count_by-le-length (λ (one : Decided). was_not_started one.fate) decided)

pub overflow_cast-result-6 : goal.overflow_cast-result-6
overflow_cast-result-6 c =
    let decided = c.decided-decided.result.now in
    let few : length decided ≤ LAST_NUMBER = decided_few c.in_ok-store.store.table c.last.ensures.sound decided c.decided-decided.ensures in
    omega (arith, c.interrupted_count.ensures, count_by-le-length (λ (one : Decided). was_interrupted one.fate) decided)

pub returns-clause-unbegun : goal.returns-clause-unbegun
returns-clause-unbegun c =
    recoveries_begin_nothing (memory_world c.args.host.now) (memory_world c.recover.new.host) (c.in_ok-store.ensures.files refl)

pub returns-clause-counts : goal.returns-clause-counts
returns-clause-counts c =
    counted (memory_session c.args.host.now) (memory_session c.recover.new.host) (memory_world c.args.host.now)
    (memory_world c.recover.new.host) c.in_ok-store.store (c.in_ok-store.ensures.recovered refl)
    c.rows-rows.result.now c.rows-rows.ensures.rows c.decided-decided.result.now c.decided-decided.ensures
    (record {
      last = c.last.result;
      pending = c.waiting.result;
      running = c.running.result;
      removed = c.removed.result;
      finished = c.finished.result;
      not_started = c.not_started.result;
      interrupted = c.interrupted_count.result;
    })
    c.last.ensures.last c.waiting.ensures c.running.ensures c.removed.ensures c.finished.ensures c.not_started.ensures
    c.interrupted_count.ensures
