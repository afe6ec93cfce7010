use Rattle.std.proofs.Common.{[], refl}
use Rattle.at_day.proofs.OutcomeLemmas.{so_far_at_first}
use Rattle.day_tests.proofs.tried_days.open_day.Goals as goal

pub returns : goal.returns
returns c = (so_far_at_first [] c.in_ok-host.host [] c.new-daemon.result refl c.new-daemon.ensures c.in_ok-host.ensures).ready
