-- What a crash leaves while a range of a file is written over.
use Rattle.std.proofs.Common.{◌≡◌, ℕ, ◌+◌, ◌≤◌, Bool, true, false, List, [], ◌∷◌, length, take, drop, sym, ap, subst, ◌∙◌, refl, inl, inr, arith, Result, Ok, Err}
use Rattle.std.specs.Prelude.{Option, Some, None, IsSome, IsSomeAnd, MatchBool, OnOk, option_map}
use Rattle.std.specs.FinMap as map
use Rattle.std.proofs.lemmas.Bool.Decides.{eqb_tells}
use Rattle.std.proofs.lemmas.List.{ext_get_or, length-drop, length-take-le}
use Rattle.host_calls.specs.declared.fault.HostFault.{HostFault}
use Rattle.host_calls.specs.Directory.{AreAfterSome, Body, Change, Files, Directory, IsHeldAt, IsImage, IsSameElsewhere, IsSynced, IsSyncedInPart, IsWritten, IsWrittenInPart, MayHold, MayHoldAt, Names, durable_body, names_after, names_of, overwritten, reading_of, with_body, with_changed, written_body}
use Rattle.host_calls.specs.World.{FileCall, IsWithinFile, World, reading}
use Rattle.host_calls.proofs.DirectoryLemmas.{all_are_some, get-files_of}
use Rattle.whole_file.specs.Others.{ChangesFiles}
use Rattle.whole_file.proofs.OthersLemmas.{changes_none, changes_then, get-with_value_other, get-with_value_same, held_reads, one_or_other, reading_holds, reads_elsewhere, holds_elsewhere, with_body-other, with_body-same, with_value}
use Rattle.start_journal.specs.inside.Overwrite.{IsDurableFile, IsOverwriting, IsOverwritten}
use Rattle.start_journal.proofs.OverwrittenBodies.{IsOver, IsSteady, over_steady}
use Rattle.start_journal.proofs.ByteRanges.{over_own}

-- One directory.

-- where no change of names is pending, each choice of names is that of the reading
pub durable_names : (pending : List Change) (durable names : Names) → pending ≡ [] → AreAfterSome pending durable names
    → names ≡ names_after pending durable
durable_names [] durable names none is = is
durable_names (change ∷ older) durable names none is = cc

-- what a name reads as that holds a body
reads_body : (directory : Directory) (name : List ℕ) (number : ℕ) → map.get (names_of directory) name ≡ Some number
    → map.get (reading_of directory) name ≡ Some (directory.body number).bytes
reads_body directory name number held = get-files_of directory.body (names_of directory) name
    ∙ ap (option_map (λ at. (directory.body at).bytes)) held

-- a file that has the same bytes in every image has a steady body
durable_steady : (directory : Directory) (name : List ℕ) (number : ℕ) → IsDurableFile name directory
    → map.get (names_of directory) name ≡ Some number → IsSteady (directory.body number)
durable_steady directory name number durable held = λ bytes may.
    let image : Files = with_value (reading_of directory) name (Some bytes) in
    let at : map.get image name ≡ Some bytes = get-with_value_same (reading_of directory) name (Some bytes) in
    let is : IsImage directory image = record {
      names = names_of directory;
      chosen = all_are_some directory.pending directory.durable;
      each = λ other. elim (one_or_other other name) [
        | inl same ↦ rw same (rw (at, held) may)
        | inr differ ↦ rw (get-with_value_other (reading_of directory) name other (Some bytes) differ)
            (reading_holds directory.body (names_of directory) other)
      ];
    } in
    let both : Some bytes ≡ Some (directory.body number).bytes = sym at ∙ durable.same image is ∙ reads_body directory name number held in
    cc

-- what a crash leaves once the range is written
module _ (name : List ℕ) (offset : ℕ) (bytes : List ℕ) (directory : Directory) (number : ℕ) (held : IsHeldAt (names_of directory) name
    number) (durable : IsDurableFile name directory) (within : offset + length bytes ≤ length (directory.body number).bytes) where
  abbrev bodies : ℕ → Body
  bodies = with_body directory.body number (written_body offset bytes (directory.body number))

  abbrev written : Directory
  written = with_changed number (written_body offset bytes) directory

  -- no name but this one holds the body
  held_alone : (other : List ℕ) → ¬ (other ≡ name) → ¬ (map.get (names_of directory) other ≡ Some number)
  held_alone other differ same = differ (held.alone other same)

  -- what an image has at the name
  found_over : (holds : Option (List ℕ)) → MayHoldAt bodies (Some number) holds
      → (found : List ℕ) × (holds ≡ Some found) × IsOver offset (length bytes) (directory.body number).bytes found
  found_over None is = absurd is
  found_over (Some found) is = (
    found,
    refl,
    over_steady (directory.body number) offset bytes within (durable_steady directory name number durable held.held) found
        (subst (λ (body : Body). MayHold body found)
        (with_body-same directory.body number (written_body offset bytes (directory.body number))) is),
  )

  -- an image has other files as one of before, and the name's file but for the range
  pub written_leaves : (image : Files) → IsImage written image → IsOverwriting name offset (length bytes) directory image
  written_leaves image is =
      let names : is.names ≡ names_of directory = durable_names directory.pending directory.durable is.names durable.durable is.chosen in
      let holds : (other : List ℕ) → MayHoldAt bodies (map.get (names_of directory) other) (map.get image other) =
      λ other. subst (λ (list : Names). MayHoldAt bodies (map.get list other) (map.get image other)) names (is.each other) in
      let here = found_over (map.get image name) (subst (λ at. MayHoldAt bodies at (map.get image name)) held.held (holds name)) in
      let value : Option (List ℕ) = map.get (reading_of directory) name in
      record {
        alone = record {
          from = with_value image name value;
          was = record {
            names = names_of directory;
            chosen = all_are_some directory.pending directory.durable;
            each = λ other. elim (one_or_other other name) [
              | inl same ↦ rw same (rw (get-with_value_same image name value) (reading_holds directory.body (names_of directory) name))
              | inr differ ↦ rw (get-with_value_other image name other value differ)
                  (holds_elsewhere directory.body bodies number (λ at apart. with_body-other directory.body number at _ apart)
                  (map.get (names_of directory) other) (map.get image other) (held_alone other differ) (holds other))
            ];
          };
          others = λ other differ. sym (get-with_value_other image name other value differ);
        };
        part = here.2.part;
        as_long = here.2.as_long;
        written = here.1 ∙ ap Some here.2.is
            ∙ ap (option_map (λ old. overwritten old offset here.2.part)) (sym (reads_body directory name number held.held));
      }

-- A file that is synced.

-- what a synced body may hold, the body before its sync may hold too
before_sync : (body : Body) (found : List ℕ) → IsSameElsewhere (durable_body body) found → MayHold body found
before_sync body found same = by_sync body.is_synced refl where
  by_sync : (synced : Bool) → body.is_synced ≡ synced → MayHold body found
  by_sync true is = subst (λ b. MatchBool b (IsSameElsewhere body found) (length found ≤ length body.bytes)) (sym is)
      (record { counted = same.counted; durable = λ place durable. same.durable place refl })
  by_sync false is =
      subst (λ b. MatchBool b (IsSameElsewhere body found) (length found ≤ length body.bytes)) (sym is) (omega (arith, same.counted))

module _ (directory : Directory) (number : ℕ) where
  abbrev synced_bodies : ℕ → Body
  synced_bodies = with_body directory.body number (durable_body (directory.body number))

  -- what is allowed after a sync was allowed before it
  holds_before : (held : Option ℕ) (holds : Option (List ℕ)) → MayHoldAt synced_bodies held holds → MayHoldAt directory.body held holds
  holds_before None holds is = is
  holds_before (Some held) None is = is
  holds_before (Some held) (Some found) is = elim (eqb_tells held number) [
    | inl same ↦
        let here : synced_bodies held ≡ durable_body (directory.body number) = ap synced_bodies same.1
        ∙ with_body-same directory.body number (durable_body (directory.body number)) in
        subst (λ at. MayHold (directory.body at) found) (sym same.1)
        (before_sync (directory.body number) found (subst (λ (body : Body). MayHold body found) here is))
    | inr apart ↦ subst (λ (body : Body). MayHold body found) (with_body-other directory.body number held _ apart.1) is
  ]

  -- so a sync makes no image
  sync_leaves : (image : Files) → IsImage (with_changed number durable_body directory) image → IsImage directory image
  sync_leaves image is = record {
    names = is.names;
    chosen = is.chosen;
    each = λ name. holds_before (map.get is.names name) (map.get image name) (is.each name);
  }

  -- and the file reads as before in each
  sync_holds : (holds : Option (List ℕ)) → MayHoldAt synced_bodies (Some number) holds → holds ≡ Some (directory.body number).bytes
  sync_holds None is = absurd is
  sync_holds (Some found) is =
      let same : IsSameElsewhere (durable_body (directory.body number)) found =
      subst (λ (body : Body). MayHold body found) (with_body-same directory.body number (durable_body (directory.body number))) is in
      ap Some (ext_get_or 0 found (directory.body number).bytes same.counted (λ place inside. same.durable place refl))

  -- each name reads as before
  sync_reads : (name : List ℕ) → map.get (reading_of (with_changed number durable_body directory)) name
      ≡ map.get (reading_of directory) name
  sync_reads name = get-files_of synced_bodies (names_of directory) name ∙ by_body (map.get (names_of directory) name)
      ∙ sym (get-files_of directory.body (names_of directory) name)
    where
      by_body : (at : Option ℕ) → option_map (λ body. (synced_bodies body).bytes) at ≡ option_map (λ body. (directory.body body).bytes) at
      by_body None = refl
      by_body (Some at) = elim (eqb_tells at number) [
        | inl same ↦ ap (λ n. Some (synced_bodies n).bytes) same.1
            ∙ ap (λ (body : Body). Some body.bytes) (with_body-same directory.body number (durable_body (directory.body number)))
            ∙ ap (λ n. Some (directory.body n).bytes) (sym same.1)
        | inr apart ↦ ap (λ (body : Body). Some body.bytes) (with_body-other directory.body number at _ apart.1)
      ]

-- Both calls.

-- a range within a file lies in the body that the name holds
range_inside : (directory : Directory) (name : List ℕ) (offset count number : ℕ) → map.get (names_of directory) name ≡ Some number
    → IsWithinFile (reading_of directory) name offset count → offset + count ≤ length (directory.body number).bytes
range_inside directory name offset count number held within =
    subst (λ content. IsSomeAnd content (λ bytes. offset + count ≤ length bytes)) (reads_body directory name number held) within

-- the directory once the range is written and the file is synced
module _ (name : List ℕ) (offset : ℕ) (bytes : List ℕ) (old written new : Directory) (durable : IsDurableFile name old)
    (within : IsWithinFile (reading_of old) name offset (length bytes)) (writes : IsWritten name offset bytes old written) where
  abbrev over_directory : Directory
  over_directory = with_changed writes.number (written_body offset bytes) old

  inside : offset + length bytes ≤ length (old.body writes.number).bytes
  inside = range_inside old name offset (length bytes) writes.number writes.held.held within

  -- an image of the written directory
  pub leaves_written : (image : Files) → IsImage written image → IsOverwriting name offset (length bytes) old image
  leaves_written image is = written_leaves name offset bytes old writes.number writes.held durable inside image
      (subst (λ (directory : Directory). IsImage directory image) writes.written is)

  -- the file exists to be synced
  pub written_held : IsSome (map.get (reading_of written) name)
  written_held = subst (λ (directory : Directory). IsSome (map.get (reading_of directory) name)) (sym writes.written)
      (held_reads over_directory name writes.number writes.held.held)

  -- an image of the synced directory is one of the written directory
  pub leaves_synced : IsSynced name written new → (image : Files) → IsImage new image → IsImage written image
  leaves_synced syncs image is =
      sync_leaves written syncs.number image (subst (λ (directory : Directory). IsImage directory image) syncs.synced is)

  -- what the name reads as
  reads_written : map.get (reading_of written) name
      ≡ option_map (λ content. overwritten content offset bytes) (map.get (reading_of old) name)
  reads_written =
      ap (λ (directory : Directory). map.get (reading_of directory) name) writes.written
      ∙ reads_body over_directory name writes.number writes.held.held
      ∙ ap (λ (body : Body). Some body.bytes) (with_body-same old.body writes.number (written_body offset bytes (old.body writes.number)))
      ∙ ap (option_map (λ content. overwritten content offset bytes)) (sym (reads_body old name writes.number writes.held.held))

  -- and what other names read as
  others_written : (other : List ℕ) → ¬ (other ≡ name) → map.get (reading_of written) other ≡ map.get (reading_of old) other
  others_written other differ =
      ap (λ (directory : Directory). map.get (reading_of directory) other) writes.written
      ∙ get-files_of over_directory.body (names_of old) other
      ∙ reads_elsewhere old.body over_directory.body writes.number (λ at apart. with_body-other old.body writes.number at _ apart)
      (map.get (names_of old) other) (λ same. differ (writes.held.alone other same))
      ∙ sym (get-files_of old.body (names_of old) other)

  module _ (syncs : IsSynced name written new) where
    -- a name reads as before the sync
    reads_synced : (other : List ℕ) → map.get (reading_of new) other ≡ map.get (reading_of written) other
    reads_synced other = ap (λ (directory : Directory). map.get (reading_of directory) other) syncs.synced
        ∙ sync_reads written syncs.number other

    pending_none : new.pending ≡ []
    pending_none = ap (λ (directory : Directory). directory.pending) (syncs.synced
        ∙ ap (with_changed syncs.number durable_body) writes.written) ∙ durable.durable

    written_none : written.pending ≡ []
    written_none = ap (λ (directory : Directory). directory.pending) writes.written ∙ durable.durable

    -- in each image the file has the new bytes
    same_there : (image : Files) → IsImage new image → map.get image name ≡ map.get (reading_of new) name
    same_there image is =
        let at : IsImage (with_changed syncs.number durable_body written) image =
        subst (λ (directory : Directory). IsImage directory image) syncs.synced is in
        let names : at.names ≡ names_of written = durable_names written.pending written.durable at.names written_none at.chosen in
        let held : map.get at.names name ≡ Some syncs.number = ap (λ (list : Names). map.get list name) names ∙ syncs.held in
        sync_holds written syncs.number (map.get image name)
        (subst (λ some. MayHoldAt (synced_bodies written syncs.number) some (map.get image name)) held (at.each name))
        ∙ sym (reads_synced name ∙ reads_body written name syncs.number syncs.held)

    pub is_overwritten : IsOverwritten name offset bytes old new
    is_overwritten = record {
      durable = record { durable = pending_none; same = same_there };
      written = reads_synced name ∙ reads_written;
      alone = λ image is. (leaves_written image (leaves_synced syncs image is)).alone;
      others = λ other differ. reads_synced other ∙ others_written other differ;
    }

-- before any call the range has its own bytes
overwriting_start : (name : List ℕ) (offset count : ℕ) (directory : Directory) → IsDurableFile name directory → IsWithinFile
    (reading_of directory) name offset count → (image : Files) → IsImage directory image → IsOverwriting name offset count directory image
overwriting_start name offset count directory durable within image is = by_content (map.get (reading_of directory) name) refl within where
  by_content : (content : Option (List ℕ)) → map.get (reading_of directory) name ≡ content
      → IsSomeAnd content (λ bytes. offset + count ≤ length bytes) → IsOverwriting name offset count directory image
  by_content None at inside = absurd inside
  by_content (Some bytes) at inside = record {
    alone = record { from = image; was = is; others = λ other differ. refl };
    part = take count (drop offset bytes);
    as_long = length-take-le count (drop offset bytes) (omega (arith, length-drop offset bytes));
    written = durable.same image is ∙ at ∙ ap Some (sym (over_own bytes offset count inside))
        ∙ ap (option_map (λ old. overwritten old offset (take count (drop offset bytes)))) (sym at);
  }

-- the call that writes
pub write_files : {T : Type 0} (name : List ℕ) (offset : ℕ) (bytes : List ℕ) (old new : World) (result : Result T HostFault)
    → IsDurableFile name old.now.directory → IsWithinFile (reading old) name offset (length bytes) → FileCall (IsWritten name offset bytes)
    (IsWrittenInPart name offset bytes) old new result → ChangesFiles (IsOverwriting name offset (length bytes) old.now.directory) old new
write_files name offset bytes old new result durable within call =
    changes_then (IsOverwriting name offset (length bytes) old.now.directory) _ _ old old new result (changes_none _ old) call
    (λ image within_call. elim within_call [
      | inl is ↦ overwriting_start name offset (length bytes) old.now.directory durable within image is
      | inr done ↦ leaves_written name offset bytes old.now.directory done.0 done.0 durable within done.1 image done.2
    ])

-- the call that syncs, after it
module _ {T : Type 0} (name : List ℕ) (offset : ℕ) (bytes : List ℕ) (old written new : World) (value : T) (result : Result T HostFault)
    (durable : IsDurableFile name old.now.directory) (within : IsWithinFile (reading old) name offset (length bytes))
    (writes : FileCall (IsWritten name offset bytes) (IsWrittenInPart name offset bytes) old written (Ok value)) where
  pub held_to_sync : IsSome (map.get (reading written) name)
  held_to_sync = written_held name offset bytes old.now.directory written.now.directory written.now.directory durable within writes.outcome

  pub sync_files : FileCall (IsSynced name) IsSyncedInPart written new result
      → ChangesFiles (IsOverwriting name offset (length bytes) old.now.directory) old new
  sync_files call =
      changes_then (IsOverwriting name offset (length bytes) old.now.directory) _ _ old written new result
      (write_files name offset bytes old written (Ok value) durable within writes) call (λ image within_call. elim within_call [
        | inl is ↦ leaves_written name offset bytes old.now.directory written.now.directory written.now.directory durable
            within writes.outcome image is
        | inr done ↦ leaves_written name offset bytes old.now.directory written.now.directory done.0 durable within writes.outcome image
            (leaves_synced name offset bytes old.now.directory written.now.directory done.0 durable within
            writes.outcome done.1 image done.2)
      ])

  pub all_overwritten : FileCall (IsSynced name) IsSyncedInPart written new result
      → OnOk result (IsOverwritten name offset bytes old.now.directory new.now.directory)
  all_overwritten call = by_answer result call where
    by_answer : (answer : Result T HostFault) → FileCall (IsSynced name) IsSyncedInPart written new answer
        → OnOk answer (IsOverwritten name offset bytes old.now.directory new.now.directory)
    by_answer (Ok done) is =
        is_overwritten name offset bytes old.now.directory written.now.directory new.now.directory durable within writes.outcome is.outcome
    by_answer (Err fault) is = tt
