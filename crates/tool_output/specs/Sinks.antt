-- What a command puts on a sink (own): a text whole, a prefix of it, or nothing.
use Rattle.std.specs.Prelude.{◌≡◌, ◌≢◌, ◌⊎◌, ◌≤◌, ◌++◌, [], ℕ, List, take}
use Rattle.host_calls.specs.Causes.{Rose}
use Rattle.host_calls.specs.Sink.{Outlet}
use Rattle.listing_text.specs.declared.cause.Cause.{Cause}
use Rattle.listing_text.specs.declared.cause.Cause.TheVariants.{Done, Refused, FileFault, InputFault, OutputFault, Busy, Memory, Damaged, StillRunning, Faulty}
use Rattle.listing_text.specs.Cause.{cause_line_of}

-- a sink at a moment: what was put on it, and how often it failed
pub record SinkAt : Type 0 where
  pub content : List ℕ
  pub faults : ℕ

abbrev pub sink_at : List ℕ → Outlet → SinkAt
sink_at content outlet = record { content = content; faults = outlet.sink_faults }

-- nothing was put
pub record IsSilent (old new : SinkAt) : Type 0 where
  pub content : new.content ≡ old.content
  pub later : old.faults ≤ new.faults

-- the text was put
pub record IsPut (text : List ℕ) (old new : SinkAt) : Type 0 where
  pub content : new.content ≡ old.content ++ text
  pub later : old.faults ≤ new.faults

-- a prefix of the text was put
pub record IsPutInPart (text : List ℕ) (old new : SinkAt) : Type 0 where
  pub count : ℕ
  pub content : new.content ≡ old.content ++ take count text
  pub later : old.faults ≤ new.faults

-- a prefix of the text was put, and the sink failed
pub record IsCut (text : List ℕ) (old new : SinkAt) : Type 0 where
  pub count : ℕ
  pub content : new.content ≡ old.content ++ take count text
  pub later : old.faults ≤ new.faults
  pub rose : Rose old.faults new.faults

-- the text was put, whole unless the sink failed
abbrev pub IsPutOrCut : List ℕ → SinkAt → SinkAt → Type 0
IsPutOrCut text old new = IsPut text old new ⊎ IsCut text old new

-- such a text was put
abbrev pub PutsSome : (List ℕ → Type 0) → SinkAt → SinkAt → Type 0
PutsSome IsText old new = (text : List ℕ) × IsText text × IsPut text old new

-- there is such a text, of one byte or more
abbrev pub HasBytes : (List ℕ → Type 0) → Type 0
HasBytes IsText = (text : List ℕ) × IsText text × (text ≢ [])

-- a prefix of such a text was put, or nothing
abbrev pub PutsPart : (List ℕ → Type 0) → SinkAt → SinkAt → Type 0
PutsPart IsText old new = IsSilent old new ⊎ ((text : List ℕ) × IsText text × IsPutInPart text old new)

-- a prefix of such a text was put, and the sink failed, or nothing was put
abbrev pub PutsCut : (List ℕ → Type 0) → SinkAt → SinkAt → Type 0
PutsCut IsText old new = IsSilent old new ⊎ ((text : List ℕ) × IsText text × IsCut text old new)

-- What is put on standard output, by the cause: all of the text where the command is done, a prefix of it where a fault
-- of the outside came on the way, and nothing else.
abbrev pub PrintsBy : Cause → (List ℕ → Type 0) → SinkAt → SinkAt → Type 0
PrintsBy Done IsText old new = PutsSome IsText old new
PrintsBy FileFault IsText old new = PutsPart IsText old new
PrintsBy OutputFault IsText old new = PutsPart IsText old new
PrintsBy Memory IsText old new = PutsPart IsText old new
PrintsBy (Refused refusal) IsText old new = IsSilent old new
PrintsBy InputFault IsText old new = IsSilent old new
PrintsBy Busy IsText old new = IsSilent old new
PrintsBy (Damaged damage) IsText old new = IsSilent old new
PrintsBy _ IsText old new = ⊥

-- What is said to the caller before the line of the cause: all of the notice where the command is done, and perhaps a
-- prefix of it where its put failed.
abbrev pub NotesBy : Cause → (List ℕ → Type 0) → SinkAt → SinkAt → Type 0
NotesBy Done IsLine old new = PutsSome IsLine old new
NotesBy OutputFault IsLine old new = PutsCut IsLine old new
NotesBy Memory IsLine old new = PutsCut IsLine old new
NotesBy FileFault IsLine old new = IsSilent old new
NotesBy (Refused refusal) IsLine old new = IsSilent old new
NotesBy InputFault IsLine old new = IsSilent old new
NotesBy Busy IsLine old new = IsSilent old new
NotesBy (Damaged damage) IsLine old new = IsSilent old new
NotesBy _ IsLine old new = ⊥

-- the line of the cause after what was said before it: whole unless the sink failed, or memory ran out for it
abbrev pub EndsLine : List ℕ → Cause → SinkAt → SinkAt → Type 0
EndsLine tool Memory old new = IsPutInPart (cause_line_of tool Memory) old new
EndsLine tool Done old new = new ≡ old
EndsLine tool FileFault old new = IsPutOrCut (cause_line_of tool FileFault) old new
EndsLine tool OutputFault old new = IsPutOrCut (cause_line_of tool OutputFault) old new
EndsLine tool (Refused refusal) old new = IsPutOrCut (cause_line_of tool (Refused refusal)) old new
EndsLine tool InputFault old new = IsPutOrCut (cause_line_of tool InputFault) old new
EndsLine tool Busy old new = IsPutOrCut (cause_line_of tool Busy) old new
EndsLine tool (Damaged damage) old new = IsPutOrCut (cause_line_of tool (Damaged damage)) old new
EndsLine tool StillRunning old new = IsPutOrCut (cause_line_of tool StillRunning) old new
EndsLine tool Faulty old new = IsPutOrCut (cause_line_of tool Faulty) old new

-- What a command says to its caller, by its cause: the notice, and after it the line of the cause. Nothing is said of
-- what was done but the notice.
pub record SaysBy (tool : List ℕ) (cause : Cause) (IsLine : List ℕ → Type 0) (old new : SinkAt) : Type 0 where
  pub between : SinkAt
  pub notice : NotesBy cause IsLine old between
  pub line : EndsLine tool cause between new
