use Rattle.std.proofs.Common.{◌≡◌, ◌+◌, ◌≤◌, ◌++◌, length, take, vec_capacity, vec_len}
use Rattle.host_calls.specs.Session.{StaysInside}
use Rattle.spool_model.specs.Lists.{live_count}
use Rattle.spool_model.specs.declared.row.TheConstants.{MAX_LIVE}
use Rattle.cron_session.specs.Steps.{next_numbers}
use Rattle.cron_session.specs.inside.Due.{cron_jobs}
use Rattle.cron_session.proofs.LoopLemmas.{AllSoFar}
use Rattle.cron_session.proofs.submit.submit_all.Given as goal

abbrev pub invariant-loop-commands : goal.invariant-loop-commands
invariant-loop-commands g l = record {
  inside : StaysInside (g.H.Host.session l.fn.host) (g.H.Host.session l.host);
  last : l.store.table.last ≡ l.fn.store.table.last + l.commands-index;
  live : live_count l.store.table + length l.due ≤ MAX_LIVE + l.commands-index;
  written : l.numbers.items ≡ l.fn.numbers.items ++ next_numbers l.fn.store.table.last l.commands-index;
  room : vec_len l.numbers + length l.due ≤ vec_capacity l.numbers + l.commands-index;
  so_far : AllSoFar g.H.Host.tells l.fn.store l.store (cron_jobs l.context l.minute l.due)
      (cron_jobs l.context l.minute (take l.commands-index l.due))
      (g.H.Host.world l.fn.host) (g.H.Host.world l.host);
}
