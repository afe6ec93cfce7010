-- The request that words make.
use Rattle.std.specs.Prelude.{◌-◌, ℕ, List, Option, Some, None, Result, Err, drop}
use Rattle.clap.specs.Walk.{Text}
use Rattle.at_words.specs.Answers.{asked_of}
use Rattle.at_words.specs.Asked.{at_asked, batch_asked, atq_asked, atrm_asked}
use Rattle.at_words.specs.Commands.{at_app, batch_app, atq_app, atrm_app, atd_app, atday_app}
use Rattle.at_words.specs.Daemons.{atd_asked, atday_asked}
use Rattle.at_words.specs.Tools.{tool_of_words}
use Rattle.at_words.specs.declared.fault.WordsFault.{WordsFault}
use Rattle.at_words.specs.declared.fault.WordsFault.TheVariants.{Usage}
use Rattle.at_words.specs.declared.tool.Tool.{Tool}
use Rattle.at_words.specs.declared.tool.Tool.TheVariants.{At, Batch, Atq, Atrm, Atd, Atday}
use Rattle.at_words.specs.declared.tool_request.ToolRequest.{ToolRequest}

-- what a tool is requested by these words, the first of which is its name
unfoldable pub request_to : Tool → List Text → Result ToolRequest WordsFault
request_to At words = asked_of at_app at_asked words
request_to Batch words = asked_of batch_app batch_asked words
request_to Atq words = asked_of atq_app atq_asked words
request_to Atrm words = asked_of atrm_app atrm_asked words
request_to Atd words = asked_of atd_app atd_asked words
request_to Atday words = asked_of atday_app atday_asked words

-- what the words after the tool's name request
abbrev pub request_by : Option (Tool × ℕ) → List Text → Result ToolRequest WordsFault
request_by None words = Err Usage
request_by (Some found) words = request_to found.0 (drop (found.1 - 1) words)

-- the request of the words: that of the tool that they name
abbrev pub request_of : List Text → Result ToolRequest WordsFault
request_of words = request_by (tool_of_words words) words
