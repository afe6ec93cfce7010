-- Lines that are put one after another, by the answer of the call that puts them (own).
use Rattle.std.specs.Prelude.{◌≡◌, ◌≤◌, ◌++◌, [], ◌∷◌, ℕ, Bool, true, List, Result, Ok, Err, IsErrOf}
use Rattle.host_calls.specs.Causes.{Rose}
use Rattle.host_calls.specs.declared.fault.SinkFault.{SinkFault}
use Rattle.host_calls.specs.declared.fault.SinkFault.TheVariants.{Failed, Memory}
use Rattle.tool_output.specs.Sinks.{IsCut, IsPut, IsPutInPart, SinkAt}

-- the lines of what is known, one after another
abbrev pub joined_lines : {T : Type 0} → (T → List ℕ) → List T → List ℕ
joined_lines line [] = []
joined_lines line (known ∷ others) = line known ++ joined_lines line others

-- all of the text was put, a prefix of it up to a put that failed, or up to a line that ran out of memory
abbrev pub PutsText : List ℕ → SinkAt → SinkAt → Result (Unit {0}) SinkFault → Type 0
PutsText text old new (Ok done) = IsPut text old new
PutsText text old new (Err Failed) = IsCut text old new
PutsText text old new (Err Memory) = IsPutInPart text old new

-- and the count of failed puts
pub record PutsLines (tells : Bool) (text : List ℕ) (old new : SinkAt) (result : Result (Unit {0}) SinkFault) : Type 0 where
  pub later : old.faults ≤ new.faults
  pub failed : IsErrOf result Failed → Rose old.faults new.faults
  pub puts : tells ≡ true → PutsText text old new result
