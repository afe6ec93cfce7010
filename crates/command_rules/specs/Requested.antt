-- The steps of a request, and what it prints where it is done (own; XCU at: a submission and a removal).
use Rattle.std.specs.Prelude.{◌≡◌, ◌⊎◌, ◌+◌, ◌-◌, ◌*◌, ◌++◌, [], ℕ, pos, Bool, List, Option, Some, None, Result, Ok, Err, length, map, take}
use Rattle.std.specs.List.{concat}
use Rattle.at_words.specs.declared.filter.Filter.{Filter}
use Rattle.at_words.specs.declared.filter.Filter.TheVariants as filter
use Rattle.at_words.specs.declared.tool_request.ToolRequest.{ToolRequest}
use Rattle.at_words.specs.declared.tool_request.ToolRequest.TheVariants as request
use Rattle.civil_minute.specs.declared.civil.CivilMinute.{CivilMinute}
use Rattle.civil_minute.specs.declared.zone.Zone.{Zone}
use Rattle.civil_minute.specs.Civil.{IsCivilTime}
use Rattle.host_calls.specs.declared.damage.Damage.{Damage}
use Rattle.listing_text.specs.Date.{date_text_of}
use Rattle.listing_text.specs.Lines.{accepted_line_of}
use Rattle.listing_text.specs.Listing.{IsListing, passes_all, passes_letter, passes_numbers}
use Rattle.spool_model.specs.declared.entry.Entry.TheVariants.{Live, Done}
use Rattle.spool_model.specs.declared.row.Row.{Row}
use Rattle.spool_model.specs.declared.step.Step.{Step}
use Rattle.spool_model.specs.declared.step.Step.TheVariants as step
use Rattle.spool_model.specs.JobTable.{JobEntry, JobTable, entry_at}
use Rattle.spool_model.specs.Lists.{surplus}
use Rattle.spool_model.specs.Steps.{after_steps, submission}
use Rattle.job_script.specs.JobText.{job_for}
use Rattle.tool_output.specs.declared.caller.Caller.{Caller}
use Rattle.command_rules.specs.Found.{Asked, Found}
use Rattle.command_rules.specs.Times.{minute_in}
use Rattle.command_rules.specs.Verdict.{verdict_of}

-- the numbers are removed, in order
abbrev pub removes : List ℕ → List Step
removes numbers = map step.Remove numbers

-- the numbers are forgotten, in order
abbrev pub forget_steps : List ℕ → List Step
forget_steps numbers = map step.Forget numbers

-- a removal: the numbers are removed, and then the surplus of done ones is forgotten
abbrev pub removal_steps : JobTable → List ℕ → List Step
removal_steps table numbers = removes numbers ++ forget_steps (surplus (after_steps table (removes numbers)))

-- the steps of a request that is not refused
abbrev pub steps_of_request : ToolRequest → Caller → Found → JobTable → List Step
steps_of_request (request.Submit queue mail file when) caller found table =
    submission table (job_for caller.context queue mail (minute_in found.time) found.commands)
steps_of_request (request.Remove numbers) caller found table = removal_steps table numbers
steps_of_request (request.List filter) caller found table = []
steps_of_request (request.Show numbers) caller found table = []
steps_of_request (request.Daemon limit interval once turns) caller found table = []
steps_of_request (request.Make count) caller found table = []

-- and of words that request nothing
abbrev pub steps_asked : Asked → Caller → Found → JobTable → List Step
steps_asked (Ok asked) caller found table = steps_of_request asked caller found table
steps_asked (Err fault) caller found table = []

-- The steps of a command on the table that the directory shows. A refused one has none, whatever it answers.
pub record AreAskedSteps (asked : Asked) (caller : Caller) (found : Found) (table : JobTable) (steps : List Step) : Type 0 where
  pub none : verdict_of asked caller found (Ok table) ≡ None
  pub steps_are : steps ≡ steps_asked asked caller found table

-- no step
abbrev pub AreNoSteps : JobTable → List Step → Type 0
AreNoSteps table steps = steps ≡ []

-- such steps, or none
abbrev pub OrNone : (JobTable → List Step → Type 0) → JobTable → List Step → Type 0
OrNone AreSteps table steps = AreSteps table steps ⊎ AreNoSteps table steps

-- the rows that a listing shows
abbrev pub passes_of : Filter → Row → Bool
passes_of filter.All row = passes_all row
passes_of (filter.Queue letter) row = passes_letter letter row
passes_of (filter.Numbers numbers) row = passes_numbers numbers row

-- the script of an entry, if it is that of a live job
abbrev pub script_in : Option JobEntry → List ℕ
script_in (Some (Live job state)) = job.script
script_in (Some (Done fate)) = []
script_in None = []

-- the scripts of live jobs, one after another
abbrev pub scripts_of : JobTable → List ℕ → List ℕ
scripts_of table numbers = concat (map (λ number. script_in (entry_at table number)) numbers)

-- what a request prints on standard output where it is done: a listing, scripts, or nothing
abbrev pub RequestPrints : ToolRequest → Caller → JobTable → List ℕ → Type 0
RequestPrints (request.List filter) caller table text = IsListing caller.zone table caller.context.user (passes_of filter) text
RequestPrints (request.Show numbers) caller table text = text ≡ scripts_of table numbers
RequestPrints (request.Submit queue mail file when) caller table text = text ≡ []
RequestPrints (request.Remove numbers) caller table text = text ≡ []
RequestPrints (request.Daemon limit interval once turns) caller table text = text ≡ []
RequestPrints (request.Make count) caller table text = text ≡ []

-- The text is what the command prints where it is done, on the table that the directory shows.
abbrev pub IsAskedText : Asked → Caller → Found → Result JobTable Damage → List ℕ → Type 0
IsAskedText (Ok asked) caller found shown text =
    (table : JobTable) × (shown ≡ Ok table) × (verdict_of (Ok asked) caller found shown ≡ None) ×
    RequestPrints asked caller table text
IsAskedText (Err fault) caller found shown text = ⊥

-- the number that a submission draws on what the directory shows
abbrev pub next_number : Result JobTable Damage → ℕ
next_number (Ok table) = table.last + 1
next_number (Err damage) = 0

-- the line is that of an accepted job, dated by its minute in the zone
pub record IsAcceptedLine (number minute : ℕ) (zone : Zone) (line : List ℕ) : Type 0 where
  pub civil : CivilMinute
  pub time : IsCivilTime zone (pos (60 * minute)) civil
  pub text : line ≡ accepted_line_of number (date_text_of civil)

-- what a request says to its caller where it is done: a submission the accepted line, another request nothing
abbrev pub RequestSays : ToolRequest → Zone → Found → ℕ → List ℕ → Type 0
RequestSays (request.Submit queue mail file when) zone found number line = IsAcceptedLine number (minute_in found.time) zone line
RequestSays (request.List filter) zone found number line = line ≡ []
RequestSays (request.Remove numbers) zone found number line = line ≡ []
RequestSays (request.Show numbers) zone found number line = line ≡ []
RequestSays (request.Daemon limit interval once turns) zone found number line = line ≡ []
RequestSays (request.Make count) zone found number line = line ≡ []

-- The line is what the command says to its caller where it is done, on the table that the directory shows.
abbrev pub IsAskedLine : Asked → Caller → Found → Result JobTable Damage → List ℕ → Type 0
IsAskedLine (Ok asked) caller found shown line =
    (verdict_of (Ok asked) caller found shown ≡ None) × RequestSays asked caller.zone found (next_number shown) line
IsAskedLine (Err fault) caller found shown line = ⊥
