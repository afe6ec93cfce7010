-- Which jobs are refused, which are waited for, and the exit status of a job (own).
use Rattle.std.specs.Prelude.{◌&&◌, ◌+◌, [], ◌∷◌, ℕ, Bool, List, Option, Some, None, false, filter, is_some, map, min, nat_le, if◌then◌else◌}
use Rattle.std.specs.List.{list_any}
use Rattle.at_words.specs.declared.filter.Filter.{Filter}
use Rattle.at_words.specs.declared.filter.Filter.TheVariants.{All, Queue, Numbers}
use Rattle.tool_output.specs.declared.caller.Caller.{Caller}
use Rattle.command_rules.specs.Verdict.{first_refusal, live_row, row_check, user_check, zone_check}
use Rattle.host_calls.specs.declared.child.Ending.TheVariants.{Exit, Signal, NotStarted}
use Rattle.at_stat.specs.declared.stage.JobStage.{JobStage}
use Rattle.at_stat.specs.declared.stage.JobStage.TheVariants as stage
use Rattle.at_stat.specs.Reports.{is_in_queue}
use Rattle.at_stat.specs.Stages.{stage_of_number}
use Rattle.listing_text.specs.declared.refusal.Refusal.{Refusal}
use Rattle.listing_text.specs.declared.refusal.Refusal.TheVariants.{NoSuchJob}
use Rattle.listing_text.specs.Listing.{may_see}
use Rattle.queue_rules.specs.Order.{row_numbers}
use Rattle.spool_model.specs.declared.fate.Fate.{Fate}
use Rattle.spool_model.specs.declared.fate.Fate.TheVariants.{Removed, Finished, Interrupted}
use Rattle.spool_model.specs.declared.row.Row.{Row}
use Rattle.spool_model.specs.JobTable.{JobTable}
use Rattle.spool_model.specs.Lists.{live_rows}
use Rattle.at_stat.specs.declared.checks.TheConstants.{LAST_CODE, NOT_STARTED, INTERRUPTED, REMOVED, FORGOTTEN, SIGNALS}

-- the checks before the spool is entered, as those of a listing
abbrev pub early_check : Caller → Option Refusal
early_check caller = first_refusal (user_check caller.context ∷ zone_check caller.zone ∷ [])

-- the live job, if there is one, is another's
abbrev pub owner_check : List ℕ → ℕ → Option Row → Option Refusal
owner_check user number None = None
owner_check user number (Some row) = row_check user false number (Some row)

-- the number was never drawn, or is that of a live job of another
abbrev pub named_check : List ℕ → JobTable → ℕ → Option Refusal
named_check user table number =
    if nat_le 1 number && nat_le number table.last then owner_check user number (live_row table number)
    else Some (NoSuchJob number)

-- the first number of the list that is refused decides
abbrev pub numbers_check : List ℕ → JobTable → List ℕ → Option Refusal
numbers_check user table numbers = first_refusal (map (λ number. named_check user table number) numbers)

-- only jobs that are named are refused
abbrev pub which_check : List ℕ → JobTable → Filter → Option Refusal
which_check user table All = None
which_check user table (Queue letter) = None
which_check user table (Numbers named) = numbers_check user table named

-- the numbers of the live jobs that the user may see, of the queue where one is given
abbrev pub seen_numbers : List ℕ → Option ℕ → JobTable → List ℕ
seen_numbers user queue table = row_numbers (filter (λ row. may_see user row && is_in_queue queue row) (live_rows table))

-- the jobs that are waited for: those that are named, or each live one that would be listed
abbrev pub awaited_numbers : List ℕ → Filter → JobTable → List ℕ
awaited_numbers user All table = seen_numbers user None table
awaited_numbers user (Queue letter) table = seen_numbers user (Some letter) table
awaited_numbers user (Numbers named) table = named

-- one of the jobs lives
abbrev pub has_live : JobTable → List ℕ → Bool
has_live table numbers = list_any (λ number. is_some (live_row table number)) numbers

-- the exit status of a job that is done
abbrev pub code_of_fate : Fate → ℕ
code_of_fate (Finished (Exit code)) = code
code_of_fate (Finished (Signal signal)) = min (SIGNALS + signal) LAST_CODE
code_of_fate (Finished NotStarted) = NOT_STARTED
code_of_fate Interrupted = INTERRUPTED
code_of_fate Removed = REMOVED

-- the exit status of a job that does not live
abbrev pub code_of_stage : JobStage → ℕ
code_of_stage (stage.Live row) = 0
code_of_stage (stage.Done fate) = code_of_fate fate
code_of_stage stage.Forgotten = FORGOTTEN

-- that of the one job that is named, and 0 of more or none
abbrev pub code_of_named : JobTable → List ℕ → ℕ
code_of_named table (number ∷ []) = code_of_stage (stage_of_number table number)
code_of_named table _ = 0

-- the exit status where all was done: where the end of exactly one named job was waited for, that of the job
abbrev pub done_code : Option ℕ → Filter → JobTable → ℕ
done_code None which table = 0
done_code (Some turns) (Numbers named) table = code_of_named table named
done_code (Some turns) _ table = 0
