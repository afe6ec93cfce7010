-- What a program is handed, at a moment: a host, readings, inputs and two sinks (own).
use Rattle.std.specs.Prelude.{◌≡◌, [], ℕ, Bool, true, false, List, Option, Some, None}
use Rattle.host_calls.specs.Causes.{Rose}
use Rattle.host_calls.specs.Clock.{Answers, Readers, with_rest}
use Rattle.host_calls.specs.declared.host.Host as host
use Rattle.host_calls.specs.declared.inputs.Inputs as inputs
use Rattle.host_calls.specs.declared.readings.Readings as readings
use Rattle.host_calls.specs.declared.sink.Sink as sink
use Rattle.host_calls.specs.Inputs.{Contents, Sources}
use Rattle.host_calls.specs.Session.{Session}
use Rattle.host_calls.specs.Sink.{Outlet}
use Rattle.host_calls.specs.World.{World}
use Rattle.listing_text.specs.declared.cause.Cause.{Cause}
use Rattle.listing_text.specs.declared.cause.Cause.TheVariants.{Busy, FileFault, InputFault, OutputFault}
use Rattle.tool_output.specs.Sinks.{SinkAt, sink_at}

-- which of the objects tell what they hold, and whether nobody else changes the host's directory
pub record Telling : Type 0 where
  pub files : Bool
  pub alone : Bool
  pub clock : Bool
  pub input : Bool
  pub output : Bool
  pub errors : Bool

abbrev pub telling : Bool → Bool → Bool → Bool → Bool → Bool → Telling
telling files alone clock input output errors =
    record { files = files; alone = alone; clock = clock; input = input; output = output; errors = errors }

-- what those objects hold
pub record Holding : Type 0 where
  pub spool : World
  pub answers : Answers
  pub contents : Contents
  pub output : SinkAt
  pub errors : SinkAt

abbrev pub holding : World → Answers → Contents → SinkAt → SinkAt → Holding
holding spool answers contents output errors =
    record { spool = spool; answers = answers; contents = contents; output = output; errors = errors }

-- All that a program is handed: which of the objects tell what they hold, what they hold, and what each of them tells always.
pub record OutsideAt : Type 0 where
  pub tells : Telling
  pub holds : Holding
  pub session : Session
  pub readers : Readers
  pub sources : Sources
  pub out : Outlet
  pub err : Outlet

abbrev pub outside_at : {H R I O E : Type 0} → host.Ghosts H → readings.Ghosts R → inputs.Ghosts I → sink.Ghosts O →
    sink.Ghosts E →
    H → R → I → O → E → OutsideAt
outside_at h r i o e host readings inputs out err = record {
  tells = telling h.tells h.alone r.tells i.tells o.tells e.tells;
  holds = holding (h.world host) (r.answers readings) (i.contents inputs) (sink_at (o.content out) (o.outlet out))
      (sink_at (e.content err) (e.outlet err));
  session = h.session host;
  readers = r.readers readings;
  sources = i.sources inputs;
  out = o.outlet out;
  err = e.outlet err;
}

-- A program that is handed no readings, no inputs or no sink has these in their place: they expose nothing, and count
-- nothing.
abbrev pub no_readings : readings.Ghosts (Unit {0})
no_readings = record {
  tells = false;
  answers = λ none. record { nows = []; loads = []; rested = 0 };
  readers = λ none. record { made_as = []; load_faults = 0 };
}

abbrev pub no_inputs : inputs.Ghosts (Unit {0})
no_inputs = record {
  tells = false;
  contents = λ none. record { standard = []; file = λ path. None };
  sources = λ none. record { made_as = []; reads = 0; input_faults = 0 };
}

abbrev pub no_sink : sink.Ghosts (Unit {0})
no_sink = record { tells = false; content = λ none. []; outlet = λ none. record { made_as = []; sink_faults = 0 } }

-- A fault comes only where its count rose; that of the output, where this is so of the sink that was put on.
pub record HasRisen (Unput : Type 0) (old new : OutsideAt) (cause : Cause) : Type 0 where
  pub file_fault : cause ≡ FileFault → Rose old.session.file_faults new.session.file_faults
  pub busy : cause ≡ Busy → Rose old.session.taken new.session.taken
  pub input_fault : cause ≡ InputFault → Rose old.sources.input_faults new.sources.input_faults
  pub output_fault : cause ≡ OutputFault → Unput

-- Its parts, where a program is handed one twice.

-- a directory: whether its host exposes its files, whether nobody else changes it, and what the host tells of it
pub record DirectoryAt : Type 0 where
  pub tells : Bool
  pub alone : Bool
  pub session : Session
  pub world : World

abbrev pub directory_at : {H : Type 0} → host.Ghosts H → H → DirectoryAt
directory_at g of = record { tells = g.tells; alone = g.alone; session = g.session of; world = g.world of }

-- a stream: whether it tells what was put on it, that, and what it was made as
pub record StreamAt : Type 0 where
  pub tells : Bool
  pub sink : SinkAt
  pub made_as : List ℕ

abbrev pub stream_at : {O : Type 0} → sink.Ghosts O → O → StreamAt
stream_at g of = record { tells = g.tells; sink = sink_at (g.content of) (g.outlet of); made_as = (g.outlet of).made_as }

-- What a loop of sessions works with.

-- readings: their answers, and what they count
pub record ClockAt : Type 0 where
  pub answers : Answers
  pub readers : Readers

abbrev pub clock_at : {R : Type 0} → readings.Ghosts R → R → ClockAt
clock_at r readings = record { answers = r.answers readings; readers = r.readers readings }

-- inputs: what they hold, and what they count
pub record InputAt : Type 0 where
  pub contents : Contents
  pub sources : Sources

abbrev pub input_at : {I : Type 0} → inputs.Ghosts I → I → InputAt
input_at i inputs = record { contents = i.contents inputs; sources = i.sources inputs }

-- a host with what is kept of it from session to session, readings, inputs, and what was said
pub record WorkAt (Kept : Type 0) : Type 0 where
  pub spool : Kept
  pub clock : ClockAt
  pub input : InputAt
  pub said : SinkAt

abbrev pub work_at : {Kept : Type 0} → Kept → OutsideAt → WorkAt Kept
work_at kept at = record {
  spool = kept;
  clock = record { answers = at.holds.answers; readers = at.readers };
  input = record { contents = at.holds.contents; sources = at.sources };
  said = at.holds.errors;
}

-- a rest of so many seconds
pub record Rests (tells : Bool) (seconds : ℕ) (old new : ClockAt) : Type 0 where
  pub known : tells ≡ true → new.answers ≡ with_rest seconds old.answers
  pub readers : new.readers ≡ old.readers

-- a rest where there is one
abbrev pub RestsOn : Bool → Option ℕ → ClockAt → ClockAt → Type 0
RestsOn tells None old new = new ≡ old
RestsOn tells (Some seconds) old new = Rests tells seconds old new

-- and nothing else changes
pub record RestsBefore {Kept : Type 0} (tells : Bool) (rest : Option ℕ) (old new : WorkAt Kept) : Type 0 where
  pub clock : RestsOn tells rest old.clock new.clock
  pub spool : new.spool ≡ old.spool
  pub input : new.input ≡ old.input
  pub said : new.said ≡ old.said
