-- Which image a crash leaves, by a number that picks it (own).
use Rattle.std.specs.Prelude.{◌+◌, ◌/◌, ◌%◌, ◌^◌, ◌==◌, [], ◌∷◌, ℕ, Bool, true, false, List, length, take, if◌then◌else◌}
use Rattle.host_calls.specs.Directory.{Body, Change, Directory, Names, changed_names}

-- the body of a number that no file has
abbrev pub no_body : Body
no_body = record { bytes = []; is_synced = true; is_unsynced_at = λ _. false }

-- whether the pick takes the pending change of this number, by its bit of that number modulo 64
abbrev pub is_picked : ℕ → ℕ → Bool
is_picked pick number = pick / 2 ^ (number % 64) % 2 == 1

-- the names after those of the pending changes that are picked, the newest first, numbered from the oldest
abbrev pub picked_names : ℕ → List Change → Names → Names
picked_names pick [] durable = durable
picked_names pick (change ∷ older) durable =
    if is_picked pick (length older) then changed_names change (picked_names pick older durable) else picked_names pick older durable

-- the byte at an unsynced place
abbrev pub picked_byte : ℕ → ℕ → ℕ
picked_byte pick place = (pick + place) % 256

-- the bytes from a place on, others at the unsynced places
abbrev pub picked_bytes : ℕ → (ℕ → Bool) → ℕ → List ℕ → List ℕ
picked_bytes pick is_unsynced_at place [] = []
picked_bytes pick is_unsynced_at place (byte ∷ others) =
    (if is_unsynced_at place then picked_byte pick place else byte) ∷ picked_bytes pick is_unsynced_at (place + 1) others

-- the bytes that a file keeps: a file that was never synced is cut off
abbrev pub kept_bytes : ℕ → Body → List ℕ
kept_bytes pick body = if body.is_synced then body.bytes else take (pick % (length body.bytes + 1)) body.bytes

-- the bytes that the crash leaves of a file
abbrev pub crashed_bytes : ℕ → Body → List ℕ
crashed_bytes pick body = picked_bytes pick body.is_unsynced_at 0 (kept_bytes pick body)

-- the body after the crash
abbrev pub crashed_body : ℕ → Body → Body
crashed_body pick body = record { bytes = crashed_bytes pick body; is_synced = true; is_unsynced_at = λ _. false }

-- the directory after the crash: nothing of it is not synced
abbrev pub rebooted : ℕ → Directory → Directory
rebooted pick directory =
    record {
      durable = picked_names pick directory.pending directory.durable;
      pending = [];
      body = λ number. crashed_body pick (directory.body number);
    }
