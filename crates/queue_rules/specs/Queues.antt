-- Queues: how nice their jobs are, when a job is due, and when a batch job may start (Debian atd(8)
-- and at(1); what is own is said).
use Rattle.std.specs.Prelude.{◌-◌, ◌*◌, ◌&&◌, ◌||◌, ◌-ℤ◌, ℕ, ℤ, pos, Bool, true, false, min, nat_le, nat_lt, Option, Some, None, if◌then◌else◌}
use Rattle.std.specs.Int.RustNames.{int_le, int_lt}
use Rattle.spool_model.specs.declared.row.Row.{Row}
use Rattle.queue_rules.specs.declared.queue.TheConstants.{MAX_NICENESS}

-- the position of a letter in its alphabet; a and A have 0
abbrev pub position_of : ℕ → ℕ
position_of letter = if nat_le 97 letter then letter - 97 else letter - 65

-- the niceness of a queue's jobs: twice the position of its letter, up to a bound (own)
abbrev pub niceness_of : ℕ → ℕ
niceness_of queue = min MAX_NICENESS (2 * position_of queue)

-- the job is due: its minute has begun
abbrev pub is_due : ℤ → Row → Bool
is_due now row = int_le (pos (60 * row.minute)) now

-- enough seconds have passed since the last batch start, if there was one; a start that lies in the
-- future counts for nothing (own)
abbrev pub has_rested : Option ℤ → ℤ → ℕ → Bool
has_rested None now interval = true
has_rested (Some last) now interval = int_le (pos interval) (now -ℤ last) || int_lt now last

-- a batch job may start: a load was read (own), it is below the limit, and the last start is long ago
abbrev pub may_start_batch : Option ℕ → ℕ → Option ℤ → ℤ → ℕ → Bool
may_start_batch None limit last now interval = false
may_start_batch (Some load) limit last now interval = nat_lt load limit && has_rested last now interval
