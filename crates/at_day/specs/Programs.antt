-- The program (own): every tool, and next to them the days that are made from a number.
use Rattle.std.specs.Prelude.{◌≡◌, ◌≢◌, ◌⊎◌, ℕ, Bool, true, false, List, Option, Some, None, Ok, Err, codes}
use Rattle.std.specs.List.{concat}
use Rattle.tool_output.specs.Outside.{OutsideAt}
use Rattle.at_commands.specs.Tools.{tool_name_of}
use Rattle.at_words.specs.declared.fault.WordsFault.{WordsFault}
use Rattle.at_words.specs.declared.fault.WordsFault.TheVariants as words
use Rattle.at_words.specs.declared.tool.Tool.{Tool}
use Rattle.at_words.specs.declared.tool.Tool.TheVariants.{At, Batch, Atq, Atrm, Atd, Atday}
use Rattle.at_words.specs.declared.tool_request.ToolRequest.TheVariants as request
use Rattle.at_words.specs.Requests.{request_of}
use Rattle.at_words.specs.Tools.{tool_of_words}
use Rattle.tool_output.specs.declared.caller.Caller.{Caller}
use Rattle.command_rules.specs.Ends.{CommandEnds, StopsBeforeLock}
use Rattle.command_rules.specs.Found.{Asked}
use Rattle.tool_output.specs.Sinks.{EndsLine, IsPut, IsPutInPart, IsSilent, SaysBy, SinkAt}
use Rattle.host_calls.specs.Causes.{Rose}
use Rattle.host_calls.specs.Session.{IsLeft}
use Rattle.host_calls.specs.World.{TimePasses}
use Rattle.listing_text.specs.declared.cause.Cause.{Cause}
use Rattle.listing_text.specs.declared.cause.Cause.TheVariants.{Done, Refused, OutputFault, Memory, StillRunning}
use Rattle.listing_text.specs.declared.refusal.Refusal.TheVariants.{Usage}
use Rattle.at_day.specs.declared.counts.Counts.{Counts}
use Rattle.at_day.specs.Lines.{day_lines}
use Rattle.at_day.specs.MadeDays.{ComesTo}

-- the tool makes days
abbrev pub makes_days : Tool → Bool
makes_days Atday = true
makes_days At = false
makes_days Batch = false
makes_days Atq = false
makes_days Atrm = false
makes_days Atd = false

-- the tool that was found makes days
abbrev pub finds_day_maker : Option (Tool × ℕ) → Bool
finds_day_maker None = false
finds_day_maker (Some found) = makes_days found.0

-- the words are those of atday
abbrev pub asks_for_day : List (List ℕ) → Bool
asks_for_day words = finds_day_maker (tool_of_words words)

-- The lines of the day of so many events were put in this way. What is put is known where the sink tells it.
pub record TellsDay (Puts : List ℕ → SinkAt → SinkAt → Type 0) (tells : Bool) (count : ℕ) (old new : SinkAt) : Type 0 where
  pub counts : Counts
  pub comes : ComesTo count counts
  pub puts : tells ≡ true → Puts (concat (day_lines count counts)) old new

-- nothing was put
abbrev pub TellsNothing : Bool → SinkAt → SinkAt → Type 0
TellsNothing tells old new = tells ≡ true → IsSilent old new

-- How a day of so many events ends, by its cause: with all of its lines, with a prefix of them where the sink failed, and
-- with a prefix or nothing where memory ran out. There is no other cause.
abbrev pub EndsMade : Bool → ℕ → SinkAt → SinkAt → Cause → Type 0
EndsMade tells count old new Done = TellsDay IsPut tells count old new
EndsMade tells count old new OutputFault = Rose old.faults new.faults × TellsDay IsPutInPart tells count old new
EndsMade tells count old new Memory = TellsNothing tells old new ⊎ TellsDay IsPutInPart tells count old new
EndsMade tells count old new _ = ⊥

-- The words are refused, unless memory ran out to read them or to say so. Nothing is put.
pub record EndsRefused (tells : Bool) (old new : SinkAt) (cause : Cause) : Type 0 where
  pub refused : (cause ≡ Refused Usage) ⊎ (cause ≡ Memory)
  pub nothing : TellsNothing tells old new

-- how words of atday end, by what they request
abbrev pub EndsDay : Bool → Asked → SinkAt → SinkAt → Cause → Type 0
EndsDay tells (Ok (request.Make count)) old new cause = EndsMade tells count old new cause
EndsDay tells (Err words.Usage) old new cause = EndsRefused tells old new cause
EndsDay tells _ old new cause = ⊥

-- How the program ends where no daemon is requested: it starts no child, starts nothing, reads no load, and does not end
-- while jobs still run. Unless a day is requested it ends as the commands do: its verdict and order, what each crash on the
-- way and each image of the end show, and what is printed and said.
pub record EndsUnservedUnlessDay (words : List (List ℕ)) (caller : Caller) (old new : OutsideAt) (cause : Cause) : Type 0 where
  pub left : IsLeft old.session new.session
  pub quiet : old.tells.files ≡ true → TimePasses old.holds.spool new.holds.spool
  pub not_running : cause ≢ StillRunning
  pub ends : asks_for_day words ≡ false →
      CommandEnds (SaysBy (tool_name_of words)) (request_of words) caller old.tells old.holds new.holds cause
  pub readers : new.readers ≡ old.readers
  pub unasked : (fault : WordsFault) → request_of words ≡ Err fault → new.session ≡ old.session
  pub before_lock : StopsBeforeLock cause → new.session ≡ old.session

-- What words of atday do: what is started stays as it is but for the two sinks, and the day that they request was made
-- and told, or the words are refused; and then the line of the cause is said.
pub record MakesDay {H R I : Type 0} (asked : Asked) (host_old host_new : H) (readings_old readings_new : R)
    (inputs_old inputs_new : I) (old new : OutsideAt) (cause : Cause) : Type 0 where
  pub host_alone : host_new ≡ host_old
  pub readings_alone : readings_new ≡ readings_old
  pub inputs_alone : inputs_new ≡ inputs_old
  pub day : EndsDay old.tells.output asked old.holds.output new.holds.output cause
  pub says : old.tells.errors ≡ true → EndsLine (codes "atday") cause old.holds.errors new.holds.errors
