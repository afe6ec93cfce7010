-- The line of a cause, as it is said to the caller (own).
use Rattle.std.specs.Prelude.{◌≡◌, ◌⊎◌, ℕ, Bool, true, List}
use Rattle.listing_text.specs.declared.cause.Cause.{Cause}
use Rattle.listing_text.specs.declared.cause.Cause.TheVariants.{Done, Refused, FileFault, InputFault, OutputFault, Busy, Memory, Damaged, StillRunning, Faulty}
use Rattle.listing_text.specs.Cause.{cause_line_of}
use Rattle.tool_output.specs.Sinks.{IsPutOrCut, IsSilent, SinkAt}

-- the command was not done
abbrev pub IsFailure : Cause → Type 0
IsFailure Done = ⊥
IsFailure FileFault = Unit {0}
IsFailure InputFault = Unit {0}
IsFailure OutputFault = Unit {0}
IsFailure Busy = Unit {0}
IsFailure Memory = Unit {0}
IsFailure (Refused refusal) = Unit {0}
IsFailure (Damaged damage) = Unit {0}
IsFailure StillRunning = Unit {0}
IsFailure Faulty = Unit {0}

-- the line of the cause was put, or cut; what was done has none
abbrev pub SaysLine : List ℕ → Cause → SinkAt → SinkAt → Type 0
SaysLine tool Done old new = new ≡ old
SaysLine tool FileFault old new = IsPutOrCut (cause_line_of tool FileFault) old new
SaysLine tool InputFault old new = IsPutOrCut (cause_line_of tool InputFault) old new
SaysLine tool OutputFault old new = IsPutOrCut (cause_line_of tool OutputFault) old new
SaysLine tool Busy old new = IsPutOrCut (cause_line_of tool Busy) old new
SaysLine tool Memory old new = IsPutOrCut (cause_line_of tool Memory) old new
SaysLine tool (Refused refusal) old new = IsPutOrCut (cause_line_of tool (Refused refusal)) old new
SaysLine tool (Damaged damage) old new = IsPutOrCut (cause_line_of tool (Damaged damage)) old new
SaysLine tool StillRunning old new = IsPutOrCut (cause_line_of tool StillRunning) old new
SaysLine tool Faulty old new = IsPutOrCut (cause_line_of tool Faulty) old new

-- The line of a cause was put, which is known where the sink tells it. Where the line ran out of memory the cause is
-- that.
abbrev pub IsSaid : List ℕ → Bool → Cause → SinkAt → SinkAt → Cause → Type 0
IsSaid tool tells cause old new final =
    ((final ≡ cause) × (tells ≡ true → SaysLine tool cause old new))
    ⊎ (IsFailure cause × (final ≡ Memory) × (tells ≡ true → IsSilent old new))
