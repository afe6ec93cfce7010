-- The verdict: the refusal that comes earliest in the order of checks, or none. Faults of the outside are not in it.
use Rattle.std.specs.Prelude.{◌&&◌, [], ◌∷◌, ℕ, Bool, true, false, List, Option, Some, None, Result, Ok, Err, length, map, nat_le, nat_lt, option_and_then, if◌then◌else◌}
use Rattle.access_lists.specs.Access.{may_use}
use Rattle.at_words.specs.declared.fault.WordsFault.{WordsFault}
use Rattle.at_words.specs.declared.fault.WordsFault.TheVariants as words
use Rattle.at_words.specs.declared.filter.Filter.{Filter}
use Rattle.at_words.specs.declared.filter.Filter.TheVariants as filter
use Rattle.at_words.specs.declared.tool_request.ToolRequest.{ToolRequest}
use Rattle.at_words.specs.declared.tool_request.ToolRequest.TheVariants as request
use Rattle.civil_minute.specs.declared.zone.Zone.{Zone}
use Rattle.civil_minute.specs.Zone.{is_unreadable}
use Rattle.host_calls.specs.ClockRange.{is_clock_second}
use Rattle.spool_model.specs.Lists.{is_running, live_count, row_under}
use Rattle.host_calls.specs.declared.damage.Damage.{Damage}
use Rattle.job_script.specs.Check.{has_room, is_directory, is_user_name}
use Rattle.job_script.specs.declared.context.Context.{Context}
use Rattle.job_script.specs.declared.writer.TheConstants.{MAX_COMMANDS}
use Rattle.listing_text.specs.declared.refusal.Refusal.{Refusal}
use Rattle.listing_text.specs.declared.refusal.Refusal.TheVariants.{Usage, NotAllowed, BadZone, BadQueue, BadDirectory, BadUser, TooLong, EnvironmentTooLarge, QueueFull, NumbersUsedUp, NoSuchJob, NotYours, RunningJob, BadClock}
use Rattle.listing_text.specs.Listing.{may_see}
use Rattle.spool_model.specs.declared.number.TheConstants.{LAST_NUMBER}
use Rattle.spool_model.specs.declared.row.Row.{Row}
use Rattle.spool_model.specs.JobTable.{JobTable, entry_at}
use Rattle.spool_model.specs.declared.row.TheConstants.{MAX_LIVE}
use Rattle.tool_output.specs.declared.caller.Caller.{Caller}
use Rattle.command_rules.specs.Found.{Asked, Found}

-- the refusal of words that request nothing
abbrev pub words_refusal : WordsFault → Option Refusal
words_refusal words.Usage = Some Usage
words_refusal words.BadQueue = Some BadQueue
words_refusal words.Memory = None

-- the user's name can't are in a job
abbrev pub user_check : Context → Option Refusal
user_check context = if is_user_name context.user then None else Some BadUser

-- a job can't change to the directory
abbrev pub directory_check : Context → Option Refusal
directory_check context = if is_directory context.directory then None else Some BadDirectory

-- the lines of the variables are too long
abbrev pub variables_check : Context → Option Refusal
variables_check context = if has_room context.environment then None else Some EnvironmentTooLarge

-- the clock's answer is out of range
abbrev pub clock_check : Found → Option Refusal
clock_check found = if is_clock_second found.now then None else Some BadClock

abbrev pub zone_check : Zone → Option Refusal
zone_check zone = if is_unreadable zone then Some BadZone else None

-- the time means no minute
abbrev pub refusal_in : Result ℕ Refusal → Option Refusal
refusal_in (Ok minute) = None
refusal_in (Err refusal) = Some refusal

abbrev pub time_check : Found → Option Refusal
time_check found = refusal_in found.time

-- there are more bytes of commands than a job may have
abbrev pub length_check : Found → Option Refusal
length_check found = if nat_lt MAX_COMMANDS (length found.commands) then Some TooLong else None

-- the lists don't permit the user
abbrev pub access_check : List ℕ → Found → Option Refusal
access_check user found = if may_use user found.allow found.deny then None else Some NotAllowed

-- 10,000 jobs or more live
abbrev pub room_check : JobTable → Option Refusal
room_check table = if nat_le MAX_LIVE (live_count table) then Some QueueFull else None

-- the greatest number was drawn
abbrev pub number_check : JobTable → Option Refusal
number_check table = if nat_le LAST_NUMBER table.last then Some NumbersUsedUp else None

-- the row of the live job of the number, if there is one
abbrev pub live_row : JobTable → ℕ → Option Row
live_row table number = option_and_then (row_under number) (entry_at table number)

-- The job is not there, is another's, or runs where it is to be removed.
abbrev pub row_check : List ℕ → Bool → ℕ → Option Row → Option Refusal
row_check user removing number None = Some (NoSuchJob number)
row_check user removing number (Some row) =
    if may_see user row then (if removing && is_running row.state then Some (RunningJob number) else None)
    else Some (NotYours number)

-- the first refusal of the checks, in their order
abbrev pub first_refusal : List (Option Refusal) → Option Refusal
first_refusal [] = None
first_refusal (Some refusal ∷ later) = Some refusal
first_refusal (None ∷ later) = first_refusal later

-- the first number of the list whose job is refused decides
abbrev pub jobs_check : List ℕ → Bool → JobTable → List ℕ → Option Refusal
jobs_check user removing table numbers =
    first_refusal (map (λ number. row_check user removing number (live_row table number)) numbers)

-- only a listing by numbers requests jobs
abbrev pub filter_check : List ℕ → JobTable → Filter → Option Refusal
filter_check user table filter.All = None
filter_check user table (filter.Queue letter) = None
filter_check user table (filter.Numbers numbers) = jobs_check user false table numbers

-- the checks of a submission before the spool is entered
abbrev pub submission_checks : Caller → Found → List (Option Refusal)
submission_checks caller found =
    user_check caller.context ∷ directory_check caller.context ∷ variables_check caller.context
    ∷ clock_check found ∷ zone_check caller.zone ∷ time_check found ∷ length_check found ∷ []

-- The checks before the spool is entered. A daemon and a simulated run are no such commands: what they come to is said
-- where they are made, and asked of a command they are a wrong usage (own).
abbrev pub early_checks : ToolRequest → Caller → Found → List (Option Refusal)
early_checks (request.Submit queue mail file when) caller found = submission_checks caller found
early_checks (request.List filter) caller found = user_check caller.context ∷ zone_check caller.zone ∷ []
early_checks (request.Remove numbers) caller found = user_check caller.context ∷ []
early_checks (request.Show numbers) caller found = user_check caller.context ∷ []
early_checks (request.Daemon limit interval once turns) caller found = Some Usage ∷ []
early_checks (request.Make count) caller found = Some Usage ∷ []

-- the checks on a table that the directory shows
abbrev pub table_checks : ToolRequest → Caller → JobTable → List (Option Refusal)
table_checks (request.Submit queue mail file when) caller table = room_check table ∷ number_check table ∷ []
table_checks (request.List filter) caller table = filter_check caller.context.user table filter ∷ []
table_checks (request.Remove numbers) caller table = jobs_check caller.context.user true table numbers ∷ []
table_checks (request.Show numbers) caller table = jobs_check caller.context.user false table numbers ∷ []
table_checks (request.Daemon limit interval once turns) caller table = []
table_checks (request.Make count) caller table = []

-- the verdict before the spool is entered
abbrev pub early_verdict : ToolRequest → Caller → Found → Option Refusal
early_verdict asked caller found = first_refusal (early_checks asked caller found)

-- the verdict on what the directory shows: a damage refuses nothing
abbrev pub table_verdict : ToolRequest → Caller → Result JobTable Damage → Option Refusal
table_verdict asked caller (Ok table) = first_refusal (table_checks asked caller table)
table_verdict asked caller (Err damage) = None

-- the verdict within the session: the lists of users come before the table
abbrev pub spool_verdict : ToolRequest → Caller → Found → Result JobTable Damage → Option Refusal
spool_verdict asked caller found shown =
    first_refusal (access_check caller.context.user found ∷ table_verdict asked caller shown ∷ [])

-- the verdict of a command
abbrev pub verdict_of : Asked → Caller → Found → Result JobTable Damage → Option Refusal
verdict_of (Ok asked) caller found shown =
    first_refusal (early_verdict asked caller found ∷ spool_verdict asked caller found shown ∷ [])
verdict_of (Err fault) caller found shown = words_refusal fault
