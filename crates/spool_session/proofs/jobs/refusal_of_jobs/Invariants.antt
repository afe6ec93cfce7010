use Rattle.std.proofs.Common.{◌≡◌, drop}
use Rattle.command_rules.specs.Verdict.{jobs_check}
use Rattle.spool_session.proofs.jobs.refusal_of_jobs.Given as goal

-- the numbers from here on decide
abbrev pub invariant-loop-number : goal.invariant-loop-number
invariant-loop-number l =
    jobs_check l.user l.removing l.store.table l.numbers ≡ jobs_check l.user l.removing l.store.table (drop l.number-index l.numbers)
