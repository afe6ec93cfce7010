-- What records say of a job (own).
use Rattle.std.specs.Prelude.{◌≡◌, ◌&&◌, ℕ, Bool, true, false, not, List, Option, Some, None}
use Rattle.std.specs.BTreeMap as tree
use Rattle.std.specs.BTreeMap.{BTreeMap}
use Rattle.std.specs.Ordering.{nat_cmp}
use Rattle.at_account.specs.declared.ledger.Ledger.{Ledger}
use Rattle.at_account.specs.declared.ledger.RecordState.{RecordState}
use Rattle.at_account.specs.declared.record.AccountEvent.{AccountEvent}
use Rattle.at_account.specs.declared.record.AccountEvent.TheVariants.{Closed, Seen, Started}
use Rattle.at_account.specs.declared.record.AccountRecord.{AccountRecord}
use Rattle.at_account.specs.declared.record.Owner.{Owner}
use Rattle.at_account.specs.Records.{has_closing_record, has_record_of, is_owner, is_seen, is_seen_with, has_start_record}

-- the job was seen, with this owner and no other, and is in this state
pub record IsRecordState (records : List AccountRecord) (number : ℕ) (record_state : RecordState) : Type 0 where
  pub seen : is_seen number records ≡ true
  pub owner : (other : Owner) → is_seen_with number other records ≡ is_owner other record_state.owner
  pub started : has_start_record number records ≡ record_state.started
  pub closed : has_closing_record number records ≡ record_state.closed

-- the records say this of the number, or don't name it
abbrev pub IsRecordStateAt : List AccountRecord → ℕ → Option RecordState → Type 0
IsRecordStateAt records number None = has_record_of number records ≡ false
IsRecordStateAt records number (Some record_state) = IsRecordState records number record_state

-- the map has what the records say of each number
abbrev pub AreRecordStates : List AccountRecord → BTreeMap ℕ RecordState → Type 0
AreRecordStates records record_states = (number : ℕ) → IsRecordStateAt records number (tree.get nat_cmp record_states number)

-- the ledger is that of the records
abbrev pub IsLedgerOf : List AccountRecord → Ledger → Type 0
IsLedgerOf records ledger = AreRecordStates records ledger.record_states

-- the event may come next in the life of a job in this state
abbrev pub event_may_follow : Option RecordState → AccountEvent → Bool
event_may_follow None (Seen _) = true
event_may_follow None Started = false
event_may_follow None (Closed _) = false
event_may_follow (Some record_state) (Seen _) = false
event_may_follow (Some record_state) Started = not record_state.started && not record_state.closed
event_may_follow (Some record_state) (Closed _) = not record_state.closed

-- the state of the job after the event, where that may come
abbrev pub record_state_after : Option RecordState → AccountEvent → Option RecordState
record_state_after record_state (Seen owner) = Some (record { owner = owner; started = false; closed = false })
record_state_after None Started = None
record_state_after None (Closed _) = None
record_state_after (Some record_state) Started = Some (record { owner = record_state.owner; started = true; closed = record_state.closed })
record_state_after (Some record_state) (Closed _) = Some (record {
  owner = record_state.owner;
  started = record_state.started;
  closed =
      true;
})
