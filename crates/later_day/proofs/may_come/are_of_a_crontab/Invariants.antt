use Rattle.std.proofs.Common.{◌≤◌, All, length, take}
use Rattle.cron_text.specs.declared.crontab.TheConstants.{MAX_CRONTAB}
use Rattle.later_day.proofs.may_come.are_of_a_crontab.Given as goal

-- the entries so far are so
abbrev pub invariant-loop-entry : goal.invariant-loop-entry
invariant-loop-entry l = All (λ entry. length entry.command ≤ MAX_CRONTAB) (take l.entry-index l.entries)
