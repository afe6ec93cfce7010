-- How each kind of request ends, whatever the objects hold that it doesn't touch (own).
use Rattle.std.specs.Prelude.{Bool, Ok}
use Rattle.at_words.specs.declared.tool_request.ToolRequest.{ToolRequest}
use Rattle.host_calls.specs.Clock.{Answers}
use Rattle.host_calls.specs.Inputs.{Contents}
use Rattle.host_calls.specs.World.{World}
use Rattle.listing_text.specs.declared.cause.Cause.{Cause}
use Rattle.tool_output.specs.declared.caller.Caller.{Caller}
use Rattle.command_rules.specs.Ends.{CommandEnds}
use Rattle.tool_output.specs.Outside.{holding, telling}
use Rattle.tool_output.specs.Sinks.{NotesBy, SinkAt}

-- which of a host, a clock, inputs and a sink tell what they hold
pub record SubmissionTelling : Type 0 where
  pub files : Bool
  pub alone : Bool
  pub clock : Bool
  pub input : Bool
  pub sink : Bool

abbrev pub tells_of : Bool → Bool → Bool → Bool → Bool → SubmissionTelling
tells_of files alone clock input sink = record { files = files; alone = alone; clock = clock; input = input; sink = sink }

-- what they hold at a moment
pub record Held : Type 0 where
  pub spool : World
  pub answers : Answers
  pub contents : Contents
  pub sink : SinkAt

abbrev pub held_by : World → Answers → Contents → SinkAt → Held
held_by spool answers contents sink = record { spool = spool; answers = answers; contents = contents; sink = sink }

-- a submission does not touch standard output
abbrev pub SubmissionEnds : SubmissionTelling → ToolRequest → Caller → Held → Held → Cause → Type 0
SubmissionEnds tells asked caller before after cause =
    (output : Bool) (printed : SinkAt) →
    CommandEnds NotesBy (Ok asked) caller (telling tells.files tells.alone tells.clock tells.input output tells.sink)
    (holding before.spool before.answers before.contents printed before.sink)
    (holding after.spool after.answers after.contents printed after.sink) cause

-- a request that prints touches the spool and standard output alone
abbrev pub EndsPrinting : Bool → Bool → Bool → ToolRequest → Caller → World → World → SinkAt → SinkAt → Cause → Type 0
EndsPrinting files alone output asked caller old new printed_old printed_new cause =
    (clock input errors : Bool) (answers : Answers) (contents : Contents) (said : SinkAt) →
    CommandEnds NotesBy (Ok asked) caller (telling files alone clock input output errors)
    (holding old answers contents printed_old said) (holding new answers contents printed_new said) cause

-- a removal touches the spool alone
abbrev pub EndsRemoving : Bool → Bool → ToolRequest → Caller → World → World → Cause → Type 0
EndsRemoving files alone asked caller old new cause =
    (output : Bool) (printed : SinkAt) → EndsPrinting files alone output asked caller old new printed printed cause
