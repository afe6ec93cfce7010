-- The records of accounts, and which of them may come next (own).
use Rattle.std.specs.Prelude.{◌==◌, ◌&&◌, ℕ, Bool, true, false, not, IsTrue, List}
use Rattle.std.specs.List.{list_any}
use Rattle.std.specs.Str.{bytes_eq}
use Rattle.at_account.specs.declared.record.AccountEvent.{AccountEvent}
use Rattle.at_account.specs.declared.record.AccountEvent.TheVariants.{Closed, Seen, Started}
use Rattle.at_account.specs.declared.record.AccountRecord.{AccountRecord}
use Rattle.at_account.specs.declared.record.Owner.{Owner}

-- both are the same user and queue
abbrev pub is_owner : Owner → Owner → Bool
is_owner first second = bytes_eq first.user second.user && first.queue == second.queue

-- the event is that the job was seen; and so by this owner; that it was started; that it was closed
abbrev pub is_seeing : AccountEvent → Bool
is_seeing (Seen _) = true
is_seeing _ = false

abbrev pub is_seeing_of : Owner → AccountEvent → Bool
is_seeing_of owner (Seen other) = is_owner owner other
is_seeing_of owner _ = false

abbrev pub is_start : AccountEvent → Bool
is_start Started = true
is_start _ = false

abbrev pub is_closing_event : AccountEvent → Bool
is_closing_event (Closed _) = true
is_closing_event _ = false

-- the record is of the number
abbrev pub is_account_record_of : ℕ → AccountRecord → Bool
is_account_record_of number one = one.number == number

-- some record names the number, saw it, saw it with this owner, started it, closed it
abbrev pub has_record_of : ℕ → List AccountRecord → Bool
has_record_of number records = list_any (is_account_record_of number) records

abbrev pub is_seen : ℕ → List AccountRecord → Bool
is_seen number records = list_any (λ one. is_account_record_of number one && is_seeing one.event) records

abbrev pub is_seen_with : ℕ → Owner → List AccountRecord → Bool
is_seen_with number owner records = list_any (λ one. is_account_record_of number one && is_seeing_of owner one.event) records

abbrev pub has_start_record : ℕ → List AccountRecord → Bool
has_start_record number records = list_any (λ one. is_account_record_of number one && is_start one.event) records

abbrev pub has_closing_record : ℕ → List AccountRecord → Bool
has_closing_record number records = list_any (λ one. is_account_record_of number one && is_closing_event one.event) records

-- after these records the event may be noted of the number: it is seen where nothing names it, started where it was seen
-- and neither started nor closed, and closed where it was seen and not closed
abbrev pub may_be_noted : List AccountRecord → ℕ → AccountEvent → Bool
may_be_noted before number (Seen _) = not (has_record_of number before)
may_be_noted before number Started = is_seen number before && not (has_start_record number before) && not (has_closing_record number before)
may_be_noted before number (Closed _) = is_seen number before && not (has_closing_record number before)

-- after these records this one may come
abbrev pub is_record_allowed : List AccountRecord → AccountRecord → Bool
is_record_allowed before next = may_be_noted before next.number next.event

abbrev pub IsRecordAllowed : List AccountRecord → AccountRecord → Type 0
IsRecordAllowed before next = IsTrue (is_record_allowed before next)
