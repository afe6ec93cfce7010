-- A text that is put at once, by the cause that is answered (own).
use Rattle.std.specs.Prelude.{◌≡◌, ◌≢◌, [], ℕ, Bool, true, List}
use Rattle.listing_text.specs.declared.cause.Cause.{Cause}
use Rattle.listing_text.specs.declared.cause.Cause.TheVariants.{Done, OutputFault, Memory}
use Rattle.tool_output.specs.Sinks.{IsCut, IsPut, IsSilent, SinkAt}

-- all of it was put, a prefix of it where there is a byte to put and the sink failed, or nothing for lack of memory
abbrev pub PutsWhole : Bool → List ℕ → SinkAt → SinkAt → Cause → Type 0
PutsWhole tells text old new Done = tells ≡ true → IsPut text old new
PutsWhole tells text old new OutputFault = (text ≢ []) × (tells ≡ true → IsCut text old new)
PutsWhole tells text old new Memory = tells ≡ true → IsSilent old new
PutsWhole tells text old new _ = ⊥
