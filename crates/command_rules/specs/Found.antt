-- What a command found outside (own): the clock's answer, what its time means then, the commands and the lists of users.
use Rattle.std.specs.Prelude.{◌≡◌, ◌+◌, ◌&&◌, ℕ, ℤ, Bool, true, false, List, Option, Some, None, Result, Ok, Err, codes, if◌then◌else◌}
use Rattle.std.specs.FinMap as finite
use Rattle.at_words.specs.declared.fault.WordsFault.{WordsFault}
use Rattle.at_words.specs.declared.tool_request.ToolRequest.{ToolRequest}
use Rattle.at_words.specs.declared.tool_request.ToolRequest.TheVariants as request
use Rattle.at_words.specs.declared.when.When.{When}
use Rattle.civil_minute.specs.declared.zone.Zone.{Zone}
use Rattle.host_calls.specs.declared.damage.Damage.{Damage}
use Rattle.host_calls.specs.Clock.{Answers, with_now}
use Rattle.host_calls.specs.Directory.{Files}
use Rattle.host_calls.specs.Inputs.{Contents, IsInputPrefix}
use Rattle.job_script.specs.declared.writer.TheConstants.{MAX_COMMANDS}
use Rattle.listing_text.specs.declared.refusal.Refusal.{Refusal}
use Rattle.spool_model.specs.JobTable.{JobTable}
use Rattle.spool_shows.specs.Shown.{shown_by}
use Rattle.command_rules.specs.Checks.{Check, is_earlier_check, of_variables, of_zone, of_input}
use Rattle.command_rules.specs.Times.{IsMeant}

-- the answer of the clock, what the time means, the commands, and the texts of at.allow and at.deny where they exist
pub record Found : Type 0 where
  pub now : ℤ
  pub time : Result ℕ Refusal
  pub commands : List ℕ
  pub allow : Option (List ℕ)
  pub deny : Option (List ℕ)

abbrev pub found_of : ℤ → Result ℕ Refusal → List ℕ → Option (List ℕ) → Option (List ℕ) → Found
found_of now time commands allow deny =
    record { now = now; time = time; commands = commands; allow = allow; deny = deny }

-- the names of the lists of users
abbrev pub allow_file : List ℕ
allow_file = codes "at.allow"

abbrev pub deny_file : List ℕ
deny_file = codes "at.deny"

-- what the words request
abbrev pub Asked : Type 0
Asked = Result ToolRequest WordsFault

-- the words request a submission
abbrev pub is_submission : Asked → Bool
is_submission (Ok (request.Submit queue mail file when)) = true
is_submission (Ok (request.List filter)) = false
is_submission (Ok (request.Remove numbers)) = false
is_submission (Ok (request.Show numbers)) = false
is_submission (Ok (request.Daemon limit interval once turns)) = false
is_submission (Ok (request.Make count)) = false
is_submission (Err fault) = false

-- a listing is requested
abbrev pub is_listing : Asked → Bool
is_listing (Ok (request.List filter)) = true
is_listing (Ok (request.Submit queue mail file when)) = false
is_listing (Ok (request.Remove numbers)) = false
is_listing (Ok (request.Show numbers)) = false
is_listing (Ok (request.Daemon limit interval once turns)) = false
is_listing (Ok (request.Make count)) = false
is_listing (Err fault) = false

-- the answers of the clock after a command: a submission that comes to the check of the clock reads it once
abbrev pub answers_read : Asked → Check → ℤ → Answers → Answers
answers_read asked reached now answers =
    if is_submission asked && is_earlier_check of_variables reached then with_now now answers else answers

-- the content that commands are read from: that of the file, or of standard input where none is named
abbrev pub content_of : Option (List ℕ) → Contents → Option (List ℕ)
content_of (Some path) contents = contents.file path
content_of None contents = Some contents.standard

-- the commands are the first bytes of the content, and one more at most than a job may have
abbrev pub AreReadCommands : Option (List ℕ) → Contents → List ℕ → Type 0
AreReadCommands file contents commands = IsInputPrefix (content_of file contents) (MAX_COMMANDS + 1) commands

-- What a submission found: its time, where it came beyond the check of the zone, and its commands, where they were read.
pub record FindsInput (tells : Bool) (file : Option (List ℕ)) (when : When) (zone : Zone) (contents : Contents)
    (reached : Check) (found : Found) : Type 0 where
  pub time : is_earlier_check of_zone reached ≡ true → IsMeant when found.now zone found.time
  pub commands : tells ≡ true → is_earlier_check of_input reached ≡ true → AreReadCommands file contents found.commands

-- a submission finds a time and commands, another request none
abbrev pub Finds : Bool → Asked → Zone → Contents → Check → Found → Type 0
Finds tells (Ok (request.Submit queue mail file when)) zone contents reached found =
    FindsInput tells file when zone contents reached found
Finds tells (Ok (request.List filter)) zone contents reached found = Unit {0}
Finds tells (Ok (request.Remove numbers)) zone contents reached found = Unit {0}
Finds tells (Ok (request.Show numbers)) zone contents reached found = Unit {0}
Finds tells (Ok (request.Daemon limit interval once turns)) zone contents reached found = Unit {0}
Finds tells (Ok (request.Make count)) zone contents reached found = Unit {0}
Finds tells (Err fault) zone contents reached found = Unit {0}

-- the lists and the table or the damage are those of the files
pub record AreInDirectory (files : Files) (found : Found) (shown : Result JobTable Damage) : Type 0 where
  pub allow : found.allow ≡ finite.get files allow_file
  pub deny : found.deny ≡ finite.get files deny_file
  pub table : shown ≡ shown_by files
