use Rattle.std.proofs.Common.{refl}
use Rattle.cron_turn.proofs.laws.small_rests.Goals as goal

pub returns : goal.returns
returns c = record {
  done_at_a_minute = refl;
  done_within_one = refl;
  busy = refl;
  file_fault = refl;
  queue_full = refl;
  used_up = refl;
  memory = refl;
}
