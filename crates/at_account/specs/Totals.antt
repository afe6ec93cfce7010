-- What records say of each owner's jobs, counted (own).
use Rattle.std.specs.Prelude.{◌≡◌, ◌<◌, ◌==◌, ◌&&◌, [], ℕ, Bool, true, List, Contains, map, slice_index}
use Rattle.std.specs.Cmp.Lexicographic.{slice_cmp}
use Rattle.std.specs.declared.cmp.Ordering.{Ordering}
use Rattle.std.specs.List.{count_by, list_any}
use Rattle.std.specs.List.Sorted.{IsStrictlySortedBy}
use Rattle.std.specs.Ordering.{nat_cmp, ordering_then}
use Rattle.at_account.specs.declared.record.AccountEvent.{AccountEvent}
use Rattle.at_account.specs.declared.record.AccountEvent.TheVariants.{Closed, Seen, Started}
use Rattle.at_account.specs.declared.record.AccountRecord.{AccountRecord}
use Rattle.at_account.specs.declared.record.Closing.TheVariants.{Finished, Interrupted, Lost, NotStarted, Removed}
use Rattle.at_account.specs.declared.record.Owner.{Owner}
use Rattle.at_account.specs.Records.{IsRecordAllowed, is_seeing_of, is_seen_with}
use Rattle.record_lines.specs.Lines.{AreLegalAfter}
use Rattle.at_account.specs.declared.line.AccountLine.{AccountLine}

-- which of the seven counts an event is counted by: seen, started, finished, not started, interrupted, removed, lost
abbrev pub kind_of_event : AccountEvent → ℕ
kind_of_event (Seen _) = 0
kind_of_event Started = 1
kind_of_event (Closed Finished) = 2
kind_of_event (Closed NotStarted) = 3
kind_of_event (Closed Interrupted) = 4
kind_of_event (Closed Removed) = 5
kind_of_event (Closed Lost) = 6

-- the record is of this kind, and of a job that the records saw with this owner
abbrev pub counts_for : List AccountRecord → Owner → ℕ → AccountRecord → Bool
counts_for records owner kind one = kind_of_event one.event == kind && is_seen_with one.number owner records

-- how many of all the records are so
abbrev pub count_of : List AccountRecord → Owner → ℕ → ℕ
count_of records owner kind = count_by (counts_for records owner kind) records

-- some record saw a job with this owner
abbrev pub is_owner_seen : Owner → List AccountRecord → Bool
is_owner_seen owner records = list_any (λ one. is_seeing_of owner one.event) records

-- the owner that a line is of
abbrev pub line_owner : AccountLine → Owner
line_owner line = record { user = line.user; queue = line.queue }

-- owners by the bytes of the user, then by the queue
abbrev pub owner_cmp : Owner → Owner → Ordering
owner_cmp first second = ordering_then (slice_cmp nat_cmp first.user second.user) (nat_cmp first.queue second.queue)

-- the line has the seven counts of its owner
abbrev pub HasCounts : List AccountRecord → AccountLine → Type 0
HasCounts records line = (kind : ℕ) → kind < 7 → slice_index line.counts kind ≡ count_of records (line_owner line) kind

-- The lines are those of the records: one for each owner that some record saw, in order, with its seven counts.
pub record AreTotals (records : List AccountRecord) (lines : List AccountLine) : Type 0 where
  pub ordered : IsStrictlySortedBy owner_cmp (map line_owner lines)
  pub each : (line : AccountLine) → Contains lines line → HasCounts records line
  pub only : (line : AccountLine) → Contains lines line → is_owner_seen (line_owner line) records ≡ true
  pub all : (owner : Owner) → is_owner_seen owner records ≡ true → Contains (map line_owner lines) owner

-- The account of these records: each may come after those before it, and the lines are theirs.
pub record IsAccount (records : List AccountRecord) (lines : List AccountLine) : Type 0 where
  pub in_turn : AreLegalAfter IsRecordAllowed [] records
  pub totals : AreTotals records lines
