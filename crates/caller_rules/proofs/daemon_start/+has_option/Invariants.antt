use Rattle.std.proofs.Common.{length, ◌≡◌, IfOk, map, string_bytes, ℕ, ◌+◌, ◌-◌, ◌*◌, ◌<◌, ◌≤◌}
use Rattle.caller_rules.specs.DaemonStarts.{IsToolBegun, IsToolBegunBy, begins_trim, has_option, is_daemon_run}
use Rattle.caller_rules.proofs.daemon_start.+has_option.Given as goal

abbrev pub decreases-has_option : goal.decreases-has_option
decreases-has_option l = length l.words.now
