-- What is new of a job, by what the records and the table of jobs say of it (own).
use Rattle.std.specs.Prelude.{◌&&◌, ◌||◌, ◌++◌, [], ◌∷◌, ℕ, Bool, true, false, not, List, Option, Some, None, if◌then◌else◌}
use Rattle.std.specs.Option.{option_map}
use Rattle.host_calls.specs.declared.child.Ending.TheVariants.{NotStarted as CouldNotStart, Exit, Signal}
use Rattle.spool_model.specs.declared.entry.Entry.TheVariants as entry
use Rattle.spool_model.specs.declared.fate.Fate.{Fate}
use Rattle.spool_model.specs.declared.fate.Fate.TheVariants as fate
use Rattle.spool_model.specs.declared.state.State.{State}
use Rattle.spool_model.specs.declared.state.State.TheVariants.{Pending, Running}
use Rattle.spool_model.specs.JobTable.{JobEntry}
use Rattle.at_account.specs.declared.ledger.RecordState.{RecordState}
use Rattle.at_account.specs.declared.new_records.KnownJob.{KnownJob}
use Rattle.at_account.specs.declared.new_records.KnownJob.TheVariants.{Done, Live}
use Rattle.at_account.specs.declared.new_records.Said.{Said}
use Rattle.at_account.specs.declared.record.AccountEvent.{AccountEvent}
use Rattle.at_account.specs.declared.record.AccountEvent.TheVariants.{Closed, Seen, Started}
use Rattle.at_account.specs.declared.record.AccountRecord.{AccountRecord}
use Rattle.at_account.specs.declared.record.Closing.{Closing}
use Rattle.at_account.specs.declared.record.Closing.TheVariants.{Finished, Interrupted, Lost, NotStarted, Removed}
use Rattle.at_account.specs.declared.record.Owner.{Owner}
use Rattle.at_account.specs.Records.{has_closing_record, is_seen, has_start_record}

-- what the records say of a job in this state
abbrev pub said_by : Option RecordState → Said
said_by None = record { seen = false; started = false; closed = false }
said_by (Some record_state) = record { seen = true; started = record_state.started; closed = record_state.closed }

-- a job in this state runs
abbrev pub is_running_state : State → Bool
is_running_state Pending = false
is_running_state (Running _) = true

-- what accounts know of an entry of the table
abbrev pub known_job : JobEntry → KnownJob
known_job (entry.Live job state) = Live (record { user = job.user; queue = job.queue }) (is_running_state state)
known_job (entry.Done fate) = Done fate

-- the owner of a live job, if it is one
abbrev pub live_owner : Option KnownJob → Option Owner
live_owner None = None
live_owner (Some (Live owner _)) = Some owner
live_owner (Some (Done _)) = None

-- the job is live
abbrev pub is_known_live : Option KnownJob → Bool
is_known_live None = false
is_known_live (Some (Live _ _)) = true
is_known_live (Some (Done _)) = false

-- a job with this fate was started
abbrev pub fate_is_handed_over : Fate → Bool
fate_is_handed_over fate.Removed = false
fate_is_handed_over (fate.Finished _) = true
fate_is_handed_over fate.Interrupted = true

-- the job was started: it runs, or has finished, or was interrupted
abbrev pub is_handed_over : Option KnownJob → Bool
is_handed_over None = false
is_handed_over (Some (Live _ running)) = running
is_handed_over (Some (Done fate)) = fate_is_handed_over fate

-- why a job with this fate is no longer live
abbrev pub fate_closing : Fate → Closing
fate_closing fate.Removed = Removed
fate_closing (fate.Finished CouldNotStart) = NotStarted
fate_closing (fate.Finished (Exit _)) = Finished
fate_closing (fate.Finished (Signal _)) = Finished
fate_closing fate.Interrupted = Interrupted

-- why the job is no longer live, unless it is; a job that the table doesn't have is lost
abbrev pub closing_of : Option KnownJob → Option Closing
closing_of None = Some Lost
closing_of (Some (Live _ _)) = None
closing_of (Some (Done fate)) = Some (fate_closing fate)

-- the job is seen where it is live and wasn't seen
abbrev pub seen_event : Bool → Option KnownJob → Option AccountEvent
seen_event seen known = if seen then None else option_map Seen (live_owner known)

-- it was started where it was seen, or is seen now, was neither started nor closed, and was started
abbrev pub start_event : Bool → Bool → Bool → Option KnownJob → Option AccountEvent
start_event seen started closed known =
    if (seen || is_known_live known) && not started && not closed && is_handed_over known then Some Started else None

-- it is closed where it was seen and not closed, and is not live
abbrev pub closing_event : Bool → Bool → Option KnownJob → Option AccountEvent
closing_event seen closed known = if not seen || closed then None else option_map Closed (closing_of known)

-- the record of an event, if there is one
abbrev pub records_of : ℕ → Option AccountEvent → List AccountRecord
records_of number None = []
records_of number (Some event) = record { number = number; event = event } ∷ []

-- the records of what is new of a number, in this order
abbrev pub events_by : ℕ → Bool → Bool → Bool → Option KnownJob → List AccountRecord
events_by number seen started closed known =
    (records_of number (seen_event seen known) ++ records_of number (start_event seen started closed known))
    ++ records_of number (closing_event seen closed known)

-- the new records of a number after these, by what the table has of it
abbrev pub news_of : List AccountRecord → ℕ → Option KnownJob → List AccountRecord
news_of before number known = events_by number (is_seen number before) (has_start_record number before) (has_closing_record number before)
    known
