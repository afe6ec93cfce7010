-- The bodies of files as they are kept.
use Rattle.std.specs.Prelude.{◌||◌, ◌++◌, [], ◌∷◌, ℕ, Bool, true, false, not, List, length, slice_index_or, slice_set}
use Rattle.std.specs.List.{list_any}
use Rattle.host_calls.specs.Directory.{Body, is_within, overwritten}
use Rattle.memory_host.specs.Crash.{crashed_bytes}
use Rattle.memory_host.specs.declared.body.Range.{Range}

-- the bytes of a file, whether it was synced since it was made, and the ranges that were written since
pub record KeptBody : Type 0 where
  pub bytes : List ℕ
  pub is_synced : Bool
  pub ranges : List Range

-- whether a place lies in one of the ranges
abbrev pub lies_in : List Range → ℕ → Bool
lies_in ranges place = list_any (λ range. is_within range.offset range.count place) ranges

-- whether the place is not synced: all places are in a file that was never synced
abbrev pub may_change : KeptBody → ℕ → Bool
may_change kept place = not kept.is_synced || lies_in kept.ranges place

-- what a kept body stands for
abbrev pub body_of : KeptBody → Body
body_of kept = record { bytes = kept.bytes; is_synced = kept.is_synced; is_unsynced_at = may_change kept }

-- a file that was just made
abbrev pub kept_made : List ℕ → KeptBody
kept_made bytes = record { bytes = bytes; is_synced = false; ranges = [] }

-- the body after a write
abbrev pub kept_written : ℕ → List ℕ → KeptBody → KeptBody
kept_written offset bytes kept =
    record {
      bytes = overwritten kept.bytes offset bytes;
      is_synced = kept.is_synced;
      ranges = kept.ranges ++ record { offset = offset; count = length bytes } ∷ [];
    }

-- the body after a sync
abbrev pub kept_synced : KeptBody → KeptBody
kept_synced kept = record { bytes = kept.bytes; is_synced = true; ranges = [] }

-- the body after the crash of this pick
abbrev pub kept_crashed : ℕ → KeptBody → KeptBody
kept_crashed pick kept = record { bytes = crashed_bytes pick (body_of kept); is_synced = true; ranges = [] }

-- the body that is at the numbers that no file has
abbrev pub none_kept : KeptBody
none_kept = record { bytes = []; is_synced = true; ranges = [] }

-- the body of this number
abbrev pub kept_at : List KeptBody → ℕ → KeptBody
kept_at list number = slice_index_or list number none_kept

-- the bodies with one of them changed
abbrev pub with_kept : (KeptBody → KeptBody) → ℕ → List KeptBody → List KeptBody
with_kept change number list = slice_set list number (change (kept_at list number))

-- the bodies with those of these numbers changed, one after the other
abbrev pub with_each : (KeptBody → KeptBody) → List ℕ → List KeptBody → List KeptBody
with_each change [] list = list
with_each change (number ∷ others) list = with_each change others (with_kept change number list)
