-- The image that a crash leaves is one of those that it may leave.
use Rattle.std.proofs.Common.{◌≡◌, ◌+◌, ◌%◌, ℕ, zero, suc, Bool, true, false, List, [], ◌∷◌, length, get_or, take, ap, subst, ◌∙◌, refl, arith, length-take, zero-add, add-zero}
use Rattle.std.specs.Prelude.{Option, Some, None, option_map}
use Rattle.std.specs.FinMap as finite
use Rattle.host_calls.specs.Directory.{Body, Files, Directory, IsImage, MayHold, MayHoldAt, reading_of}
use Rattle.host_calls.proofs.DirectoryLemmas.{get-files_of, settled_image}
use Rattle.memory_host.specs.Crash.{crashed_body, crashed_bytes, picked_bytes, picked_names, rebooted}
use Rattle.memory_host.proofs.SoundLemmas.{picked_chosen}

length-picked : (pick : ℕ) (is_unsynced_at : ℕ → Bool) (place : ℕ) (bytes : List ℕ)
    → length (picked_bytes pick is_unsynced_at place bytes) ≡ length bytes
length-picked pick is_unsynced_at place [] = refl
length-picked pick is_unsynced_at place (byte ∷ others) = ap suc (length-picked pick is_unsynced_at (place + 1) others)

-- a byte at a synced place stays
picked-durable : (pick : ℕ) (is_unsynced_at : ℕ → Bool) (start : ℕ) (bytes : List ℕ) (place : ℕ) → is_unsynced_at (start + place) ≡ false
    → get_or (picked_bytes pick is_unsynced_at start bytes) place 0 ≡ get_or bytes place 0
picked-durable pick is_unsynced_at start [] place durable = refl
picked-durable pick is_unsynced_at start (byte ∷ others) zero durable =
    rw (subst (λ n. is_unsynced_at n ≡ false) (add-zero start) durable) refl
picked-durable pick is_unsynced_at start (byte ∷ others) (suc place) durable =
    picked-durable pick is_unsynced_at (start + 1) others place (subst (λ n. is_unsynced_at n ≡ false) (omega arith) durable)

may_hold-crashed : (pick : ℕ) (body : Body) → MayHold body (crashed_bytes pick body)
may_hold-crashed pick body = by_sync body body.is_synced refl where
  by_sync : (one : Body) (synced : Bool) → one.is_synced ≡ synced → MayHold one (crashed_bytes pick one)
  by_sync one true is = rw is (record {
    counted = length-picked pick one.is_unsynced_at 0 one.bytes;
    durable = λ place durable. picked-durable pick one.is_unsynced_at 0 one.bytes place (ap one.is_unsynced_at (zero-add place) ∙ durable);
  })
  by_sync one false is = rw is (let counted = length-picked pick one.is_unsynced_at 0 (take (pick % (length one.bytes + 1)) one.bytes) in
      omega (arith, length-take (pick % (length one.bytes + 1)) one.bytes))

-- the reading after the crash is an image of the directory before it
pub crash_is_image : (pick : ℕ) (directory : Directory) → IsImage directory (reading_of (rebooted pick directory))
crash_is_image pick directory = record {
  names = picked_names pick directory.pending directory.durable;
  chosen = picked_chosen pick directory.pending directory.durable;
  each = λ name. rw (get-files_of (rebooted pick directory).body (picked_names pick directory.pending directory.durable) name)
      (by_held (finite.get (picked_names pick directory.pending directory.durable) name));
} where
  by_held : (held : Option ℕ)
      → MayHoldAt directory.body held (option_map (λ number. (crashed_body pick (directory.body number)).bytes) held)
  by_held None = tt
  by_held (Some number) = may_hold-crashed pick (directory.body number)

-- the directory after the crash has one image
pub crash_settles : (pick : ℕ) (directory : Directory) (image : Files) → IsImage (rebooted pick directory) image
    → image ≡ reading_of (rebooted pick directory)
crash_settles pick directory image is = settled_image (rebooted pick directory) image is
