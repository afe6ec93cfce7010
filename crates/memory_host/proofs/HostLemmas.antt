-- The moments of the host in memory, call after call.
use Rattle.std.proofs.Common.{◌≡◌, ◌⊎◌, ◌==◌, ℕ, Bool, true, false, List, [], ◌∷◌, cond, sym, ap, subst, ◌∙◌, refl, inl, inr, arith, Result}
use Rattle.std.specs.Prelude.{Option, Some, None, Ok, Err, is_some, option_map}
use Rattle.std.specs.FinMap as finite
use Rattle.std.specs.Cmp.Lexicographic.{nat_list_cmp_total}
use Rattle.std.proofs.lemmas.Bool.{eqb-true}
use Rattle.host_calls.specs.declared.child.Asked.{Asked}
use Rattle.host_calls.specs.declared.fault.HostFault.{HostFault}
use Rattle.host_calls.specs.declared.fault.HostFault.TheVariants.{Failed, Memory}
use Rattle.host_calls.specs.Directory.{Body, Files, Directory, IsFresh, IsHeldAt, IsImage, IsMade, IsMadeInPart, IsSameElsewhere, IsSynced, IsSyncedInPart, IsWritten, IsWrittenInPart, MayHold, MayHoldAt, durable_body, names_of, settled, with_body, with_changed, with_file, with_names_durable, written_body}
use Rattle.host_calls.specs.declared.child.Child.{Child}
use Rattle.host_calls.specs.declared.fault.StartFault.TheVariants.{Failed as NoStart}
use Rattle.host_calls.specs.Session.{CallsInside}
use Rattle.host_calls.specs.World.{FileCall, HandsOver, StartCall, HasEachImage, LeavesOnly, WithinCall, World, moments}
use Rattle.host_calls.proofs.DirectoryLemmas.{all_are_some, get-files_of, reading_of-settled, settled_image, reading_is_image}
use Rattle.memory_host.specs.Host.{after_reboot, memory_session, memory_world, progress_of, world_of}
use Rattle.memory_host.specs.Plan.{next_part, progress_after_call}
use Rattle.memory_host.specs.Planned.{ChangesAsPlanned}
use Rattle.memory_host.specs.declared.failing_list.Part.{Part}
use Rattle.memory_host.specs.declared.failing_list.Part.TheVariants.{Nothing}
use Rattle.memory_host.specs.declared.memory_host.MemoryHost.{MemoryHost}
use Rattle.memory_host.specs.Past.{CallLog, after_call, history_of, moment_of, with_handed}
use Rattle.memory_host.specs.inside.Story.{state_of, with_next}
use Rattle.memory_host.specs.declared.past_call.PastCall.{PastCall}
use Rattle.memory_host.specs.declared.past_call.PastCall.TheVariants.{HandedOver, Rebooted}
use Rattle.memory_host.proofs.PastLemmas.{history_next}

-- a call that changed nothing, and so has failed
pub call_failed : {T : Type 0} (done part : Directory → Directory → Type 0) (old new : World) (fault : HostFault) → new ≡ old
    → FileCall {T = T} done part old new (Err fault)
call_failed done part old new Failed same = record {
  outcome = inl (ap (λ w. w.now.directory) same);
  handed = ap (λ w. w.now.handed) same;
  asked = ap (λ w. w.asked) same;
  leaves = record { more = []; run = ap moments same; each = tt };
}
call_failed done part old new Memory same = record {
  outcome = same;
  handed = ap (λ w. w.now.handed) same;
  asked = ap (λ w. w.asked) same;
  leaves = record { more = []; run = ap moments same; each = tt };
}

-- the world after one more call
world_next : (call : PastCall) (story : CallLog) (asked : List Asked) → world_of (with_next call story) asked ≡ record {
  now = moment_of (after_call call (state_of story));
  before = moment_of (state_of story) ∷ (history_of story).before;
  asked = asked;
}
world_next call story asked =
    ap (λ past. record { now = moment_of past.now; before = past.before; asked = asked }) (history_next call story)

-- the answer of a call that succeeds
abbrev fine : Result (Unit {0}) HostFault
fine = Ok tt

-- a call that did its work, and failed then or not
pub call_done : (call : PastCall) (story : CallLog) (asked : List Asked) (new : World) (done part : Directory → Directory
    → Type 0) (fails : Bool) (result : Result (Unit {0}) HostFault) → new ≡ world_of (with_next call story) asked
    → (after_call call (state_of story)).handed ≡ (state_of story).handed → done (state_of story).directory
    (after_call call (state_of story)).directory → part (state_of story).directory (after_call call (state_of story)).directory
    → result ≡ cond fails (Err Failed) fine → FileCall done part (world_of story asked) new result
call_done call story asked new done part fails result is handed is_done is_part answer =
    subst (λ w. FileCall done part (world_of story asked) w result) (sym (is ∙ world_next call story asked))
    (subst (λ r. FileCall done part (world_of story asked) next r) (sym answer) (by_answer fails))
  where
    next : World
    next = record {
      now = moment_of (after_call call (state_of story));
      before = moment_of (state_of story) ∷ (history_of story).before;
      asked = asked;
    }

    leaves : LeavesOnly (WithinCall done (moment_of (state_of story))) (world_of story asked) next
    leaves =
        let here : HasEachImage (WithinCall done (moment_of (state_of story))) next.now =
        λ image at. (inr ((after_call call (state_of story)).directory, is_done, at), handed) in
        record { more = next.now ∷ []; run = refl; each = (here, tt) }

    by_answer : (b : Bool) → FileCall done part (world_of story asked) next (cond b (Err Failed) fine)
    by_answer true = record { outcome = inr is_part; handed = handed; asked = refl; leaves = leaves }
    by_answer false = record { outcome = is_done; handed = handed; asked = refl; leaves = leaves }

no_memory : (fails : Bool) → cond fails (Err Failed) fine ≡ Err Memory → ⊥
no_memory true is = cc
no_memory false is = cc

-- a call that changes the directory goes as planned: it did its work, and failed then or not
pub change_done : (call : PastCall) (done part : Directory → Directory → Type 0) (old new : MemoryHost)
    (past : CallLog) (planned : Option Part) (result : Result (Unit {0}) HostFault) → past ≡ with_next call old.past
    → memory_world new ≡ world_of past old.asked.items → (after_call call (state_of old.past)).handed ≡ (state_of old.past).handed
    → done (state_of old.past).directory (after_call call (state_of old.past)).directory → part (state_of old.past).directory
    (after_call call (state_of old.past)).directory → CallsInside Failed (memory_session old) (memory_session new) result
    → progress_of new ≡ progress_after_call (progress_of old) → result ≡ cond (is_some planned) (Err Failed) fine
    → planned ≡ next_part (progress_of old) → ¬ (planned ≡ Some Nothing) → ChangesAsPlanned done part old new result
change_done call done part old new past planned result goes_on known handed is_done is_part inside counted answer next works = record {
  inside = inside;
  files = call_done call old.past old.asked.items (memory_world new) done part (is_some planned) result world handed is_done is_part answer;
  nothing = λ is. absurd (works (next ∙ is));
  all = λ is some. (
    answer ∙ ap (λ one. cond (is_some one) (Err Failed) fine) (next ∙ is),
    subst (λ w. done (state_of old.past).directory w.now.directory) (sym (world ∙ world_next call old.past old.asked.items)) is_done,
  );
  passes = λ none failed. let passed : result ≡ fine = answer ∙ ap (λ one. cond (is_some one) (Err Failed) fine) (next ∙ none) in cc;
  count = record { counted = λ some. counted; uncounted = λ memory. absurd (no_memory (is_some planned) (sym answer ∙ memory)) };
} where
  world : memory_world new ≡ world_of (with_next call old.past) old.asked.items
  world = known ∙ ap (λ story. world_of story old.asked.items) goes_on

-- What syncs leave.

-- what a crash leaves of a synced body it could leave before
may_hold-synced : (body : Body) (bytes : List ℕ) → MayHold (durable_body body) bytes → MayHold body bytes
may_hold-synced body bytes is = by_sync body body.is_synced refl is where
  by_sync : (one : Body) (synced : Bool) → one.is_synced ≡ synced → IsSameElsewhere (durable_body one) bytes → MayHold one bytes
  by_sync one true synced same = rw synced (record { counted = same.counted; durable = λ place durable. same.durable place refl })
  by_sync one false synced same = rw synced (omega (arith, same.counted))

-- one body that holds less leaves images that were possible before
may_stand-less : (old new : ℕ → Body) → ((number : ℕ) (bytes : List ℕ) → MayHold (new number) bytes → MayHold (old number) bytes)
    → (held : Option ℕ) (holds : Option (List ℕ)) → MayHoldAt new held holds → MayHoldAt old held holds
may_stand-less old new less None None is = tt
may_stand-less old new less None (Some bytes) is = absurd is
may_stand-less old new less (Some number) None is = absurd is
may_stand-less old new less (Some number) (Some bytes) is = less number bytes is

synced_less : (bodies : ℕ → Body) (number other : ℕ) (bytes : List ℕ)
    → MayHold (with_body bodies number (durable_body (bodies number)) other) bytes → MayHold (bodies other) bytes
synced_less bodies number other bytes is = by_number (other == number) refl is where
  by_number : (b : Bool) → (other == number) ≡ b → MayHold (cond b (durable_body (bodies number)) (bodies other)) bytes
      → MayHold (bodies other) bytes
  by_number true same at =
      subst (λ n. MayHold (bodies n) bytes) (sym (eqb-true other number same)) (may_hold-synced (bodies number) bytes at)
  by_number false same at = at

-- the same files by their look-ups
same_files : (first second : Files) → ((name : List ℕ) → finite.get first name ≡ finite.get second name) → first ≡ second
same_files first second alike =
    finite.same_map nat_list_cmp_total (finite.slice_cmp-IsAntisymmetric finite.nat_cmp-IsAntisymmetric) first second alike

bytes_stay : (bodies : ℕ → Body) (number other : ℕ)
    → (with_body bodies number (durable_body (bodies number)) other).bytes ≡ (bodies other).bytes
bytes_stay bodies number other = by_number (other == number) refl where
  by_number : (b : Bool) → (other == number) ≡ b → (cond b (durable_body (bodies number)) (bodies other)).bytes ≡ (bodies other).bytes
  by_number true same = ap (λ n. (bodies n).bytes) (sym (eqb-true other number same))
  by_number false same = refl

pub part_synced : (directory : Directory) (number : ℕ) → IsSyncedInPart directory (with_changed number durable_body directory)
part_synced directory number = record {
  reading = same_files _ _ (λ name. get-files_of (with_changed number durable_body directory).body (names_of directory) name
      ∙ by_held (finite.get (names_of directory) name) ∙ sym (get-files_of directory.body (names_of directory) name));
  images = λ image is. record {
    names = is.names;
    chosen = is.chosen;
    each = λ name. may_stand-less directory.body (with_changed number durable_body directory).body (synced_less directory.body number)
        (finite.get is.names name) (finite.get image name) (is.each name);
  };
} where
  by_held : (held : Option ℕ) → option_map (λ n. (with_body directory.body number (durable_body (directory.body number)) n).bytes) held
      ≡ option_map (λ n. (directory.body n).bytes) held
  by_held None = refl
  by_held (Some other) = ap Some (bytes_stay directory.body number other)

pub part_names : (directory : Directory) → IsSyncedInPart directory (with_names_durable directory)
part_names directory = record {
  reading = refl;
  images = λ image is. record {
    names = names_of directory;
    chosen = all_are_some directory.pending directory.durable;
    each = λ name. subst (λ names. MayHoldAt directory.body (finite.get names name) (finite.get image name)) is.chosen (is.each name);
  };
}

pub part_settled : (directory : Directory) → IsSyncedInPart directory (settled directory)
part_settled directory = record {
  reading = reading_of-settled directory;
  images = λ image is. subst (IsImage directory) (sym (settled_image directory image is)) (reading_is_image directory);
}

-- What the calls do.

pub done_made : (directory : Directory) (number : ℕ) (name bytes : List ℕ) → IsFresh directory number
    → IsMade name bytes directory (with_file name number bytes directory)
done_made directory number name bytes fresh = record { number = number; fresh = fresh; made = refl }

pub part_made : (directory : Directory) (number : ℕ) (name bytes : List ℕ) → IsFresh directory number
    → IsMadeInPart name bytes directory (with_file name number bytes directory)
part_made directory number name bytes fresh =
    record { part = bytes; shorter = omega arith; made = done_made directory number name bytes fresh }

pub done_written : (directory : Directory) (number offset : ℕ) (name bytes : List ℕ) → IsHeldAt (names_of directory) name number
    → IsWritten name offset bytes directory (with_changed number (written_body offset bytes) directory)
done_written directory number offset name bytes held = record { number = number; held = held; written = refl }

pub part_written : (directory : Directory) (number offset : ℕ) (name bytes : List ℕ) → IsHeldAt (names_of directory) name number
    → IsWrittenInPart name offset bytes directory (with_changed number (written_body offset bytes) directory)
part_written directory number offset name bytes held =
    record { part = bytes; as_long = refl; written = done_written directory number offset name bytes held }

pub done_synced : (directory : Directory) (number : ℕ) (name : List ℕ) → IsHeldAt (names_of directory) name number
    → IsSynced name directory (with_changed number durable_body directory)
done_synced directory number name held = record { number = number; held = held.held; synced = refl }

-- A start.

module _ (number body nice : ℕ) (story : CallLog) (asked : List Asked) (name : List ℕ)
    (held : IsHeldAt (names_of (state_of story).directory) name body) where
  started_world : Bool → World
  started_world started = record {
    now = moment_of (with_handed number body nice started (state_of story));
    before = moment_of (state_of story) ∷ (history_of story).before;
    asked = asked;
  }

  hands : (started : Bool) → HandsOver number name nice started (world_of story asked).now (started_world started).now
  unfolding started_world
  hands started = record {
    script = ((state_of story).directory.body body).bytes;
    read = get-files_of (state_of story).directory.body (names_of (state_of story).directory) name
        ∙ ap (option_map (λ n. ((state_of story).directory.body n).bytes)) held.held;
    handed = refl;
  }

  leaves_start : (started : Bool) → LeavesOnly (λ image scripts. IsImage (state_of story).directory image × ((scripts
      ≡ (state_of story).handed) ⊎ (scripts ≡ (started_world started).now.handed))) (world_of story asked) (started_world started)
  unfolding started_world
  leaves_start started =
      let here : HasEachImage (λ image scripts. IsImage (state_of story).directory image × ((scripts ≡ (state_of story).handed)
      ⊎ (scripts ≡ (started_world started).now.handed))) (started_world started).now = λ image at. (at, inr refl) in
      record { more = (started_world started).now ∷ []; run = refl; each = (here, tt) }

  -- a child came of it
  pub start_done : (new : World) (child : Child) → new ≡ world_of (with_next (HandedOver number body nice true) story) asked
      → StartCall number name nice (world_of story asked) new (Ok child)
  unfolding started_world
  start_done new child is = subst (λ w. StartCall number name nice (world_of story asked) w (Ok child))
      (sym (is ∙ world_next (HandedOver number body nice true) story asked))
      (record { outcome = hands true; directory = refl; asked = refl; leaves = leaves_start true })

  -- no child came of it
  pub start_failed : (new : World) → new ≡ world_of (with_next (HandedOver number body nice false) story) asked
      → StartCall {T = Child} number name nice (world_of story asked) new (Err NoStart)
  unfolding started_world
  start_failed new is = subst (λ w. StartCall {T = Child} number name nice (world_of story asked) w (Err NoStart))
      (sym (is ∙ world_next (HandedOver number body nice false) story asked))
      (record { outcome = hands false; directory = refl; asked = refl; leaves = leaves_start false })

-- the world after a crash
pub reboot_world : (pick : ℕ) (story : CallLog) (asked : List Asked)
    → world_of (with_next (Rebooted pick) story) asked ≡ after_reboot pick (world_of story asked)
reboot_world pick story asked = world_next (Rebooted pick) story asked
