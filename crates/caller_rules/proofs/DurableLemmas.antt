-- Calls that are durable, one after another.
use Rattle.std.proofs.Common.{◌≡◌, ◌++◌, ◌∷◌, [], List, ℕ, Bool, true, false, ap, ◌∙◌, sym, refl}
use Rattle.std.proofs.lemmas.List.{append_assoc, append-nil}
use Rattle.system_calls.specs.SystemCall.{SystemCall}
use Rattle.system_calls.specs.Calls.{Continues, sync_call}
use Rattle.system_calls.specs.declared.call.Answered.{Answered}
use Rattle.system_calls.specs.declared.call.Answered.TheVariants.{Status, LinkStatus, DirectoryMade, FilePut, FileCreated, Synced, Read, FileLocked, DirectoryLocked, LockAwaited, LockReleased, CanonicalPath, WorkingDirectory, Variable, UserLookedUp, IsTerminal, ErrorWritten, Seconds, ProcessNumber}
use Rattle.caller_rules.specs.OwnSpool.{AreDurable, AreDurablyMade, IsFileDurable, IsMadeDurable, name_syncs, parent_of}

begin_with : (first a b : List SystemCall) → Continues first a → Continues first (a ++ b)
begin_with first a b h = (h.0 ++ b, ap (λ calls. calls ++ b) h.1 ∙ append_assoc first h.0 b)

made_with : (path : List ℕ) (what : Answered) (a b : List SystemCall) → IsMadeDurable path what a → IsMadeDurable path what (a ++ b)
made_with path (DirectoryMade true) a b h = begin_with (name_syncs path) a b h
made_with path (DirectoryMade false) a b h = tt
made_with path (FilePut true) a b h = begin_with (sync_call (parent_of path) true ∷ []) a b h
made_with path (FilePut false) a b h = tt
made_with path (Status _) a b h = tt
made_with path (LinkStatus _) a b h = tt
made_with path (FileCreated _) a b h = tt
made_with path (Synced _) a b h = tt
made_with path (Read _ _) a b h = tt
made_with path (FileLocked _) a b h = tt
made_with path (DirectoryLocked _) a b h = tt
made_with path (LockAwaited _) a b h = tt
made_with path LockReleased a b h = tt
made_with path (CanonicalPath _) a b h = tt
made_with path (WorkingDirectory _) a b h = tt
made_with path (Variable _) a b h = tt
made_with path (UserLookedUp _) a b h = tt
made_with path (IsTerminal _) a b h = tt
made_with path (ErrorWritten _) a b h = tt
made_with path (Seconds _) a b h = tt
made_with path (ProcessNumber _) a b h = tt

durable_with : (a b : List SystemCall) → AreDurable a → AreDurable b → AreDurable (a ++ b)
durable_with [] b h k = k
durable_with (call ∷ a) b h k = (made_with call.path call.answered a b h.0, durable_with a b h.1 k)

-- one after another
pub durably_with : {a b c : List SystemCall} → AreDurablyMade a b → AreDurablyMade b c → AreDurablyMade a c
durably_with {a} h k = record {
  calls = h.calls ++ k.calls;
  asked = k.asked ∙ ap (λ calls. calls ++ k.calls) h.asked ∙ append_assoc a h.calls k.calls;
  durable = durable_with h.calls k.calls h.durable k.durable;
}

-- nothing was asked
pub durably_nothing : (a : List SystemCall) → AreDurablyMade a a
durably_nothing a = record { calls = []; asked = sym (append-nil a); durable = tt }

-- these calls, which are durable
pub durably : {a b : List SystemCall} (calls : List SystemCall) → b ≡ a ++ calls → AreDurable calls → AreDurablyMade a b
durably calls e h = record { calls = calls; asked = e; durable = h }

-- a file and the directory that it lies in
pub file_durably : {a b : List SystemCall} (path : List ℕ) → IsFileDurable path a b → AreDurablyMade a b
file_durably path h = durably _ h (([], refl), (tt, tt))
