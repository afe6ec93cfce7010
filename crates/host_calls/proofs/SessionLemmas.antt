-- What a session keeps, from call to call.
use Rattle.std.proofs.Common.{◌∙◌, refl, arith}
use Rattle.host_calls.specs.Session.{IsInside, KeepsCounts, Session, StaysInside}

-- no count falls where nothing is done
pub no_counts : (session : Session) → KeepsCounts session session
no_counts session = record { made_as = refl; file_faults = omega arith; start_faults = omega arith; taken = omega arith }

-- and none over two calls, where none does over each
pub counts_on : (old middle new : Session) → KeepsCounts old middle → KeepsCounts middle new → KeepsCounts old new
counts_on old middle new before after = record {
  made_as = after.made_as ∙ before.made_as;
  file_faults = omega (arith, before.file_faults, after.file_faults);
  start_faults = omega (arith, before.start_faults, after.start_faults);
  taken = omega (arith, before.taken, after.taken);
}

-- a session that is on stays on
pub stays_inside : (session : Session) → IsInside session → StaysInside session session
stays_inside session inside = record { inside = inside; children = refl; counts = no_counts session }
