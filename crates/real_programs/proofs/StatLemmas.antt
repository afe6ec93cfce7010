-- The exit status of atstat, once the line of its cause was said.
use Rattle.std.proofs.Common.{◌≡◌, ◌∙◌, ℕ, Bool, sym, ap}
use Rattle.std.specs.Prelude.{Option, Some, None}
use Rattle.tool_output.specs.Sinks.{SinkAt}
use Rattle.listing_text.specs.Cause.{code_of}
use Rattle.listing_text.specs.declared.cause.Cause.{Cause}
use Rattle.at_stat.specs.declared.status.StatExit.{StatExit}
use Rattle.at_stat.specs.StatOutcome.{HasCode, SaysCause, stopped_status}

module _ (tells : Bool) (old new : SinkAt) (code : ℕ) (status : StatExit) where
  -- where there is a cause, it is that of the cause
  pub said_code : (before : Option Cause) → SaysCause tells old new code before status → HasCode status
  said_code None says cause is =
      absurd (let no : None ≡ Some cause = sym (ap (λ (status : StatExit). status.cause) says.0) ∙ is in cc)
  said_code (Some before) says cause is =
      let same : Some says.0 ≡ Some cause = sym (ap (λ (status : StatExit). status.cause) says.1) ∙ is in
      let final : says.0 ≡ cause = cc in
      ap (λ (status : StatExit). status.code) says.1 ∙ ap code_of final
