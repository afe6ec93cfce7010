use Rattle.std.proofs.Common.{◌≡◌, ◌<◌, ◌^◌, take}
use Rattle.load_reading.specs.Load.{number_of_digits}
use Rattle.caller_environment.proofs.digits.number_of_decimals.Given as goal

abbrev pub invariant-loop-byte : goal.invariant-loop-byte
invariant-loop-byte l = record {
  value : l.number ≡ number_of_digits (take l.byte-index l.digits);
  small : l.number < 10 ^ l.byte-index;
}
