-- What is said of the end of a turn, and whether its line found memory (own).
use Rattle.std.specs.Prelude.{◌≡◌, ◌⊎◌, ◌||◌, ℕ, Bool, true, false, List, not}
use Rattle.listing_text.specs.declared.cause.Cause.{Cause}
use Rattle.listing_text.specs.declared.cause.Cause.TheVariants as cause
use Rattle.listing_text.specs.Cause.{cause_line_of, is_memory}
use Rattle.tool_output.specs.Sinks.{IsPutOrCut, IsSilent, SinkAt}
use Rattle.host_calls.specs.declared.turn_end.TurnEnd.{TurnEnd}
use Rattle.host_calls.specs.declared.turn_end.TurnEnd.TheVariants.{Done, Busy, FileFault, Damaged, Memory}

-- the turn ran out of memory
abbrev pub is_wanting : TurnEnd → Bool
is_wanting Memory = true
is_wanting Done = false
is_wanting Busy = false
is_wanting FileFault = false
is_wanting (Damaged damage) = false

-- What is said of the end of a turn by a tool of this name: the line of its cause, whole unless its put failed. That of
-- an out-of-memory error may be missing.
abbrev pub SaysEnd : List ℕ → TurnEnd → SinkAt → SinkAt → Type 0
SaysEnd tool Done old new = IsSilent old new
SaysEnd tool Busy old new = IsPutOrCut (cause_line_of tool cause.Busy) old new
SaysEnd tool FileFault old new = IsPutOrCut (cause_line_of tool cause.FileFault) old new
SaysEnd tool (Damaged damage) old new = IsPutOrCut (cause_line_of tool (cause.Damaged damage)) old new
SaysEnd tool Memory old new = IsSilent old new ⊎ IsPutOrCut (cause_line_of tool cause.Memory) old new

-- the end was said, or its line ran out of memory
abbrev pub SaysEndOr : List ℕ → Bool → TurnEnd → SinkAt → SinkAt → Bool → Type 0
SaysEndOr tool tells end old new true = tells ≡ true → SaysEnd tool end old new
SaysEndOr tool tells end old new false = tells ≡ true → IsSilent old new

-- the cause of a turn's end
abbrev pub cause_of_end : TurnEnd → Cause
cause_of_end Done = cause.Done
cause_of_end Busy = cause.Busy
cause_of_end FileFault = cause.FileFault
cause_of_end (Damaged damage) = cause.Damaged damage
cause_of_end Memory = cause.Memory

-- the line of the end found memory, by what it was said as: that of an out-of-memory error may be missing
abbrev pub finds_memory : TurnEnd → Cause → Bool
finds_memory end said = is_wanting end || not (is_memory said)
