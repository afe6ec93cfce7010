-- One more call in the past.
use Rattle.std.proofs.Common.{◌≡◌, ◌+◌, ◌<◌, ◌≤◌, ℕ, List, [], ◌∷◌, ◌++◌, length, sym, ap, subst, ◌∙◌, refl, arith, length-append}
use Rattle.std.specs.Prelude.{Bool, true, Some, None, IsSome, IsSomeAnd, is_some, option_map}
use Rattle.std.specs.FinMap as finite
use Rattle.host_calls.specs.declared.child.Handed.{Handed}
use Rattle.host_calls.specs.Directory.{Made, Renamed, Removed, names_of, IsFresh, IsHeldAt, made_body, reading_of, settled, with_body, with_changed, with_change, with_names_durable, written_body, durable_body}
use Rattle.host_calls.proofs.DirectoryLemmas.{all_are_some, get-files_of}
use Rattle.host_calls.specs.World.{IsWithinFile}
use Rattle.memory_host.specs.inside.Bodies.{body_of, kept_at, kept_made, kept_written, kept_synced, kept_crashed, none_kept, with_kept, with_each}
use Rattle.memory_host.specs.Crash.{picked_names, rebooted}
use Rattle.memory_host.specs.Past.{History, State, CallLog, after_call, history_of, with_call, with_calls, with_directory, with_handed, with_new_file}
use Rattle.memory_host.specs.inside.Story.{state_of, with_next}
use Rattle.memory_host.specs.inside.Table.{HoldsSameDurable, HoldsSameNow, KeepsPlaces, durable_in, changed_at, has_place, meant, now_in, pending_of, picked_holders, touches, where_touched}
use Rattle.memory_host.specs.inside.Known.{AreBodied, ListsUnsettled, AreNamesKept, IsStateKept}
use Rattle.memory_host.specs.declared.bodies.Bodies.{Bodies}
use Rattle.memory_host.specs.declared.name_table.NameTable.{NameTable}
use Rattle.memory_host.specs.declared.past_call.PastCall.{PastCall}
use Rattle.memory_host.specs.declared.pending.Change.TheVariants as kept
use Rattle.memory_host.proofs.BodiedLemmas.{crashed-durable, bodied_crashed, bodied_made, bodied_settled, bodied_synced, bodied_written, length-with_each, length-with_kept}
use Rattle.memory_host.proofs.NamedLemmas.{named_change, named_crash, named_same, named_sync}
use Rattle.memory_host.proofs.SoundLemmas.{picked_chosen, sound_change, sound_chosen}

with_calls-push : (calls : List PastCall) (call : PastCall) (past : History)
    → with_calls (calls ++ call ∷ []) past ≡ with_call call (with_calls calls past)
with_calls-push [] call past = refl
with_calls-push (first ∷ later) call past = with_calls-push later call (with_call first past)

-- one more call is one more moment
pub history_next : (call : PastCall) (story : CallLog) → history_of (with_next call story) ≡ with_call call (history_of story)
unfolding history_of
history_next call story = with_calls-push story.calls call _

-- what is kept after one more call
pub known_next : (call : PastCall) (story : CallLog) (before calls : List PastCall) (names : NameTable) (bodies : Bodies) (handed : List
    Handed) → calls ≡ before ++ call ∷ [] → before ≡ story.calls → IsStateKept (after_call call (state_of story)) names bodies handed
    → IsStateKept (state_of (record { opening = story.opening; calls = calls })) names bodies handed
known_next call story before calls names bodies handed more same_before is =
    let same : state_of (record { opening = story.opening; calls = calls }) ≡ after_call call (state_of story) =
    ap (λ all. state_of (record { opening = story.opening; calls = all })) (more ∙ ap (λ all. all ++ call ∷ []) same_before)
    ∙ ap (λ past. past.now) (history_next call story) in
    subst (λ at. IsStateKept at names bodies handed) (sym same) is

-- the same calls
pub known_kept : (story : CallLog) (calls : List PastCall) (names : NameTable) (bodies : Bodies) (handed : List Handed)
    → calls ≡ story.calls → IsStateKept (state_of story) names bodies handed
    → IsStateKept (state_of (record { opening = story.opening; calls = calls })) names bodies handed
known_kept story calls names bodies handed same is =
    subst (λ all. IsStateKept (state_of (record { opening = story.opening; calls = all })) names bodies handed) (sym same) is

-- What is read.

module _ (at : State) (names : NameTable) (bodies : Bodies) (handed : List Handed) (is : IsStateKept at names bodies handed) where
  -- the number that the table holds is held by the name alone
  pub held_at : (name : List ℕ) (number : ℕ) → now_in names.held name ≡ Some number → IsHeldAt (names_of at.directory) name number
  held_at name number found =
      let held : finite.get (names_of at.directory) name ≡ Some number = is.named.now_names name ∙ found in
      record {
        held = held;
        alone = λ other also.
            is.sound.apart (names_of at.directory) (all_are_some at.directory.pending at.directory.durable) other name number also held;
      }

  -- the number is that of a body
  pub number_known : (name : List ℕ) (number : ℕ) → IsHeldAt (names_of at.directory) name number → number < length bodies.list.items
  number_known name number held = subst (λ n. number < n) is.counted
      (is.sound.below (names_of at.directory) (all_are_some at.directory.pending at.directory.durable) name number held.held)

  -- the bytes of the body are what the file reads as
  pub reading_known : (name : List ℕ) (number : ℕ) → IsHeldAt (names_of at.directory) name number
      → finite.get (reading_of at.directory) name ≡ Some (kept_at bodies.list.items number).bytes
  reading_known name number held = get-files_of at.directory.body (names_of at.directory) name
      ∙ ap (option_map (λ n. (at.directory.body n).bytes)) held.held ∙ ap (λ body. Some body.bytes) (is.bodied.each number)

  -- a name that holds nothing has no file
  pub none_known : (name : List ℕ) → now_in names.held name ≡ None → finite.get (reading_of at.directory) name ≡ None
  none_known name none = get-files_of at.directory.body (names_of at.directory) name
      ∙ ap (option_map (λ n. (at.directory.body n).bytes)) (is.named.now_names name ∙ none)

  -- so a file that exists is held
  pub held_known : (name : List ℕ) → IsSome (finite.get (reading_of at.directory) name) → ¬ (now_in names.held name ≡ None)
  held_known name there none =
      let same : finite.get (reading_of at.directory) name ≡ None = none_known name none in
      let found : is_some (finite.get (reading_of at.directory) name) ≡ true = there in
      cc

  -- the range lies within the body
  pub within_known : (name : List ℕ) (number offset count : ℕ) → IsHeldAt (names_of at.directory) name number
      → IsWithinFile (reading_of at.directory) name offset count → offset + count ≤ length (kept_at bodies.list.items number).bytes
  within_known name number offset count held within =
      subst (λ file. IsSomeAnd file (λ bytes. offset + count ≤ length bytes)) (reading_known name number held) within

  -- the next number is fresh
  pub fresh_known : IsFresh at.directory at.next
  fresh_known chosen is_chosen name found =
      let small : at.next < at.next = is.sound.below chosen is_chosen name at.next found in
      absurd (omega arith)

-- bodies that hold the same
pub known_alike : (at : State) (names : NameTable) (bodies more : Bodies) (handed : List Handed) → IsStateKept at names bodies handed
    → more.list.items ≡ bodies.list.items → more.unsettled.items ≡ bodies.unsettled.items → IsStateKept at names more handed
known_alike at names bodies more handed is list unsettled = record {
  named = is.named;
  bodied = record {
    each = λ number. is.bodied.each number ∙ ap (λ l. body_of (kept_at l number)) (sym list);
    listed = subst (λ l. ListsUnsettled l more.unsettled.items) (sym list)
        (subst (ListsUnsettled bodies.list.items) (sym unsettled) is.bodied.listed);
  };
  counted = is.counted ∙ ap length (sym list);
  scripts = is.scripts;
  sound = is.sound;
}

-- What is kept after each call.

module _ (at : State) (names after : NameTable) (bodies more : Bodies) (handed : List Handed)
    (is : IsStateKept at names bodies handed) where
  -- a table that holds the same
  pub known_same : HoldsSameNow names.held after.held → HoldsSameDurable names.held after.held → after.pending.items ≡ names.pending.items
      → ((name : List ℕ) → has_place names.held name ≡ true → has_place after.held name ≡ true) → IsStateKept at after bodies handed
  known_same now durable pending places = record {
    named = named_same at.directory.durable at.directory.pending names after is.named now durable pending places;
    bodied = is.bodied;
    counted = is.counted;
    scripts = is.scripts;
    sound = is.sound;
  }

  -- a file was made
  pub known_made : (name bytes : List ℕ) (number : ℕ) → number ≡ length bodies.list.items
      → ((other : List ℕ) → now_in after.held other ≡ changed_at (meant (kept.Made name number)) (now_in names.held) other)
      → HoldsSameDurable names.held after.held → KeepsPlaces names.held after.held → ((other : List ℕ)
      → touches (kept.Made name number) other ≡ true → has_place names.held other ≡ true) → after.pending.items ≡ names.pending.items
      ++ kept.Made name number ∷ [] → more.list.items ≡ bodies.list.items ++ kept_made bytes ∷ [] → more.unsettled.items
      ≡ bodies.unsettled.items ++ length bodies.list.items ∷ [] → IsStateKept (with_new_file name bytes at) after more handed
  known_made name bytes number is_next now durable places has pending list unsettled =
      let same : number ≡ at.next = is_next ∙ sym is.counted in
      record {
        named = subst (λ n. AreNamesKept at.directory.durable (Made name n ∷ at.directory.pending) after) same (named_change
            at.directory.durable at.directory.pending names after is.named (kept.Made name number) now durable places has pending);
        bodied = subst (λ n. AreBodied (with_body at.directory.body n (made_body bytes)) more) (sym is.counted)
            (bodied_made at.directory.body bodies more is.bodied bytes list unsettled);
        counted = ap (λ n. n + 1) is.counted ∙ sym (ap length list ∙ length-append bodies.list.items (kept_made bytes ∷ []));
        scripts = is.scripts;
        sound = sound_change at.directory.durable at.directory.pending at.next (Made name at.next) refl is.sound;
      }

  -- a name was moved or removed
  pub known_renamed : (from to : List ℕ) → ((other : List ℕ) → now_in after.held other ≡ changed_at (meant (kept.Renamed from to))
      (now_in names.held) other) → HoldsSameDurable names.held after.held → KeepsPlaces names.held after.held → ((other : List ℕ)
      → touches (kept.Renamed from to) other ≡ true → has_place names.held other ≡ true) → after.pending.items ≡ names.pending.items
      ++ kept.Renamed from to ∷ [] → IsStateKept (with_directory (with_change (Renamed from to) at.directory) at) after bodies handed
  known_renamed from to now durable places has pending = record {
    named =
        named_change at.directory.durable at.directory.pending names after is.named (kept.Renamed from to) now durable places has pending;
    bodied = is.bodied;
    counted = is.counted;
    scripts = is.scripts;
    sound = sound_change at.directory.durable at.directory.pending at.next (Renamed from to) tt is.sound;
  }

  pub known_removed : (name : List ℕ)
      → ((other : List ℕ) → now_in after.held other ≡ changed_at (meant (kept.Removed name)) (now_in names.held) other)
      → HoldsSameDurable names.held after.held → KeepsPlaces names.held after.held → ((other : List ℕ) → touches (kept.Removed name) other
      ≡ true → has_place names.held other ≡ true) → after.pending.items ≡ names.pending.items ++ kept.Removed name ∷ []
      → IsStateKept (with_directory (with_change (Removed name) at.directory) at) after bodies handed
  known_removed name now durable places has pending = record {
    named = named_change at.directory.durable at.directory.pending names after is.named (kept.Removed name) now durable places has pending;
    bodied = is.bodied;
    counted = is.counted;
    scripts = is.scripts;
    sound = sound_change at.directory.durable at.directory.pending at.next (Removed name) tt is.sound;
  }

  -- the names were synced
  pub known_names : HoldsSameNow names.held after.held
      → ((name : List ℕ) → durable_in after.held name ≡ where_touched names.pending.items (now_in names.held) (durable_in names.held) name)
      → after.pending.items ≡ [] → IsStateKept (with_directory (with_names_durable at.directory) at) after bodies handed
  known_names now durable none = record {
    named = named_sync at.directory.durable at.directory.pending names after is.named now durable none;
    bodied = is.bodied;
    counted = is.counted;
    scripts = is.scripts;
    sound = sound_chosen at.directory.durable at.directory.pending at.next (names_of at.directory)
        (all_are_some at.directory.pending at.directory.durable) is.sound;
  }

  -- all was synced
  pub known_settled : HoldsSameNow names.held after.held
      → ((name : List ℕ) → durable_in after.held name ≡ where_touched names.pending.items (now_in names.held) (durable_in names.held) name)
      → after.pending.items ≡ [] → more.list.items ≡ with_each kept_synced bodies.unsettled.items bodies.list.items
      → IsStateKept (with_directory (settled at.directory) at) after more handed
  known_settled now durable none done = record {
    named = named_sync at.directory.durable at.directory.pending names after is.named now durable none;
    bodied = bodied_settled at.directory.body bodies more is.bodied done;
    counted = is.counted ∙ sym (ap length done ∙ length-with_each kept_synced refl bodies.unsettled.items bodies.list.items);
    scripts = is.scripts;
    sound = sound_chosen at.directory.durable at.directory.pending at.next (names_of at.directory)
        (all_are_some at.directory.pending at.directory.durable) is.sound;
  }

  -- the directory crashed
  pub known_crashed : (pick : ℕ) → ((name : List ℕ) → now_in after.held name ≡ picked_holders pick
      (pending_of names.pending.items) (where_touched names.pending.items (durable_in names.held) (now_in names.held)) name)
      → ((name : List ℕ) → durable_in after.held name ≡ where_touched names.pending.items (now_in after.held) (durable_in names.held) name)
      → after.pending.items ≡ [] → more.list.items ≡ with_each (kept_crashed pick) bodies.unsettled.items bodies.list.items
      → IsStateKept (with_directory (rebooted pick at.directory) at) after more handed
  known_crashed pick now durable none done = record {
    named = named_crash at.directory.durable at.directory.pending names after is.named pick now durable none;
    bodied = bodied_crashed at.directory.body bodies more is.bodied pick done;
    counted = is.counted ∙ sym (ap length done
        ∙ length-with_each (kept_crashed pick) (crashed-durable pick none_kept) bodies.unsettled.items bodies.list.items);
    scripts = is.scripts;
    sound = sound_chosen at.directory.durable at.directory.pending at.next (picked_names pick at.directory.pending at.directory.durable)
        (picked_chosen pick at.directory.pending at.directory.durable) is.sound;
  }

  -- a range was written
  pub known_written : (number offset : ℕ) (bytes : List ℕ) → number < length bodies.list.items → more.list.items
      ≡ with_kept (kept_written offset bytes) number bodies.list.items → more.unsettled.items ≡ bodies.unsettled.items ++ number ∷ []
      → IsStateKept (with_directory (with_changed number (written_body offset bytes) at.directory) at) names more handed
  known_written number offset bytes inside done unsettled = record {
    named = is.named;
    bodied = bodied_written at.directory.body bodies more is.bodied offset bytes number inside done unsettled;
    counted = is.counted ∙ sym (ap length done ∙ length-with_kept (kept_written offset bytes) number bodies.list.items);
    scripts = is.scripts;
    sound = is.sound;
  }

  -- a file was synced
  pub known_synced : (number : ℕ) → more.list.items ≡ with_kept kept_synced number bodies.list.items → more.unsettled.items
      ≡ bodies.unsettled.items → IsStateKept (with_directory (with_changed number durable_body at.directory) at) names more handed
  known_synced number done same = record {
    named = is.named;
    bodied = bodied_synced at.directory.body bodies more is.bodied number done same;
    counted = is.counted ∙ sym (ap length done ∙ length-with_kept kept_synced number bodies.list.items);
    scripts = is.scripts;
    sound = is.sound;
  }

  -- a script was started
  pub known_handed : (number body nice : ℕ) (started : Bool) (scripts : List Handed)
      → scripts ≡ handed ++ record { number = number; script = (at.directory.body body).bytes; nice = nice; started = started } ∷ []
      → IsStateKept (with_handed number body nice started at) names bodies scripts
  known_handed number body nice started scripts more = record {
    named = is.named;
    bodied = is.bodied;
    counted = is.counted;
    scripts = ap (λ all. all ++ record { number = number; script = (at.directory.body body).bytes; nice = nice; started = started }
        ∷ []) is.scripts ∙ sym more;
    sound = is.sound;
  }

-- the script is what the file reads as
pub script_more : (handed room more : List Handed) (number : ℕ) (script bytes : List ℕ) (nice : ℕ) (started : Bool) → room ≡ handed
    → more ≡ room ++ record { number = number; script = script; nice = nice; started = started } ∷ [] → script ≡ bytes
    → more ≡ handed ++ record { number = number; script = bytes; nice = nice; started = started } ∷ []
script_more handed room more number script bytes nice started same pushed is = pushed ∙ rw (same, is) refl
