-- What is put of the faults of a directory (own).
use Rattle.std.specs.Prelude.{[], ◌∷◌, ℕ, List}
use Rattle.tool_output.specs.PutLines.{joined_lines}
use Rattle.host_calls.specs.declared.damage.Damage.{Damage}
use Rattle.listing_text.specs.Cause.{fault_line_of}
use Rattle.listing_text.specs.declared.cause.Cause.{Cause}
use Rattle.listing_text.specs.declared.cause.Cause.TheVariants.{Done, Faulty}

-- the cause by the faults that were told
abbrev pub cause_of_faults : List Damage → Cause
cause_of_faults [] = Done
cause_of_faults (fault ∷ later) = Faulty

-- the lines of the faults, one after another
abbrev pub fault_lines : List Damage → List ℕ
fault_lines faults = joined_lines fault_line_of faults
