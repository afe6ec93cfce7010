-- What is said of an end.
use Rattle.std.proofs.Common.{◌≡◌, ap, arith}
use Rattle.listing_text.specs.declared.cause.Cause.TheVariants as cause
use Rattle.tool_output.specs.Sinks.{IsSilent, SinkAt}

pub silent_same : (old new : SinkAt) → new ≡ old → IsSilent old new
silent_same old new same = record {
  content = ap (λ (at : SinkAt). at.content) same;
  later = let faults : new.faults ≡ old.faults = ap (λ (at : SinkAt). at.faults) same in omega arith;
}
