-- Counts of each owner's records, while they are counted.
use Rattle.std.specs.Prelude.{◌≡◌, ◌<◌, ◌+◌, ◌^◌, if◌then◌else◌, ◌==◌, ℕ, Bool, true, false, List, Option, Some, None, length, slice_index}
use Rattle.std.specs.BTreeMap as tree
use Rattle.std.specs.BTreeMap.{BTreeMap}
use Rattle.std.specs.Cmp.Lexicographic.{slice_cmp}
use Rattle.std.specs.declared.cmp.Ordering.{Ordering}
use Rattle.std.specs.List.{count_by, list_any}
use Rattle.std.specs.Ordering.{nat_cmp, ordering_then}
use Rattle.at_account.specs.declared.record.AccountRecord.{AccountRecord}
use Rattle.at_account.specs.declared.record.Owner.{Owner}
use Rattle.at_account.specs.Records.{is_seen_with}
use Rattle.at_account.specs.declared.line.AccountLine.{AccountLine}
use Rattle.at_account.specs.Totals.{counts_for}

-- a user and a queue, in the order of lines
abbrev pub Pair : Type 0
Pair = List ℕ × ℕ

abbrev pub pair_cmp : Pair → Pair → Ordering
pair_cmp first second = ordering_then (slice_cmp nat_cmp first.0 second.0) (nat_cmp first.1 second.1)

abbrev pub owner_pair : Owner → Pair
owner_pair owner = (owner.user, owner.queue)

-- some of the records that were counted is of a job that all records saw with this owner
abbrev pub is_met : List AccountRecord → List AccountRecord → Owner → Bool
is_met all counted owner = list_any (λ one. is_seen_with one.number owner all) counted

-- so many records were counted for the owner, of each kind
abbrev pub AreOwnerCounts : List AccountRecord → List AccountRecord → Owner → List ℕ → Type 0
AreOwnerCounts all counted owner counts =
    (kind : ℕ) → kind < 7 → length counted < 2 ^ 64 → slice_index counts kind ≡ count_by (counts_for all owner kind) counted

-- the counts are the owner's, and there are none where no record was counted for it
abbrev pub IsTallied : List AccountRecord → List AccountRecord → Owner → Option (List ℕ) → Type 0
IsTallied all counted owner None = is_met all counted owner ≡ false
IsTallied all counted owner (Some counts) = (is_met all counted owner ≡ true) × AreOwnerCounts all counted owner counts

-- the map has the counts of each owner
abbrev pub IsTallyOf : List AccountRecord → List AccountRecord → BTreeMap Pair (List ℕ) → Type 0
IsTallyOf all counted tally = (owner : Owner) → IsTallied all counted owner (tree.get pair_cmp tally (owner_pair owner))

-- the line of an owner and its counts
abbrev pub owner_line : Pair × List ℕ → AccountLine
owner_line entry = record { user = entry.0.0; queue = entry.0.1; counts = entry.1 }

-- the counts before the first record of an owner
abbrev pub counts_so_far : Option (List ℕ) → ℕ → ℕ
counts_so_far None kind = 0
counts_so_far (Some counts) kind = slice_index counts kind

-- the counts are the old ones, and one more of the kind
abbrev pub AreRaised : Option (List ℕ) → ℕ → List ℕ → Type 0
AreRaised old kind new = (other : ℕ) → other < 7 → counts_so_far old other + 1 < 2 ^ 64
    → slice_index new other ≡ (if kind == other then counts_so_far old other + 1 else counts_so_far old other)
