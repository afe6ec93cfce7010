use Rattle.std.proofs.Common.{◌≡◌, map, take}
use Rattle.std.specs.Prelude.{IsTrue}
use Rattle.std.specs.List.{All}
use Rattle.host_calls.specs.Session.{StaysInside}
use Rattle.host_calls.specs.World.{reading}
use Rattle.spool_model.specs.JobTable.{JobTable}
use Rattle.step_runs.specs.Current.{IsCurrent}
use Rattle.mail_notes.specs.Lines.{IsNotedJob}
use Rattle.mail_notes.specs.declared.note.NotedJob.{NotedJob}
use Rattle.mail_session.specs.News.{IsNotedFrom}
use Rattle.mail_session.proofs.new_jobs.noted_jobs.Given as goal

abbrev pub invariant-loop-number : goal.invariant-loop-number
invariant-loop-number g l = record {
  inside : StaysInside (g.H.Host.session l.fn.host) (g.H.Host.session l.host);
  looks : IsTrue g.H.Host.tells → g.H.Host.world l.host ≡ g.H.Host.world l.fn.host;
  numbers : map (λ (job : NotedJob). job.number) l.new_jobs.items ≡ take l.number-index l.numbers;
  can : All IsNotedJob l.new_jobs.items;
  noted : IsTrue g.H.Host.tells → (table : JobTable) → IsCurrent l.fn.store (g.H.Host.world l.fn.host).now.directory table →
      All (IsNotedFrom (reading (g.H.Host.world l.fn.host)) table) l.new_jobs.items;
}
