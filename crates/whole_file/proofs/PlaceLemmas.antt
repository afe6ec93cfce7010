-- What a crash leaves while a file is replaced.
use Rattle.std.proofs.Common.{◌≡◌, ◌⊎◌, ℕ, List, [], ◌∷◌, ◌++◌, sym, ap, subst, ◌∙◌, refl, inl, inr, Result, Ok, Err, OnOk}
use Rattle.std.specs.Prelude.{Option, Some, None, IsSome, option_map}
use Rattle.std.proofs.lemmas.List.{ext_get_or}
use Rattle.std.specs.FinMap as map
use Rattle.host_calls.specs.Directory.{AreAfterSome, Body, Change, Files, Directory, IsFresh, IsHeldAt, IsImage, IsInNoImage, IsMade, IsMadeInPart, IsRenamed, IsSynced, IsSyncedInPart, HasNamesSynced, MayHold, MayHoldAt, Names, durable_body, files_of, made_body, moved, names_of, reading_of, with_body, with_change, with_changed, with_file, with_names_durable}
use Rattle.host_calls.specs.Directory.{Made, Renamed}
use Rattle.host_calls.specs.World.{FileCall, World}
use Rattle.host_calls.proofs.DirectoryLemmas.{all_are_some, get-files_of, get-insert_other, get-insert_same, get-remove_other, get-remove_same}
use Rattle.host_calls.specs.declared.fault.HostFault.{HostFault}
use Rattle.whole_file.specs.Others.{ChangesFiles, IsEither}
use Rattle.whole_file.specs.Placement.{IsPlaced, IsPlacing}
use Rattle.whole_file.proofs.OthersLemmas.{changes_none, changes_then, held_reads, names_durable, none_holds, reads_elsewhere, with_body-other, with_body-same, get-with_value_other, get-with_value_same, in_no_choice, one_or_other, reading_holds, holds_elsewhere, with_value}

-- At all names but two the image has what a choice of the start's changes holds, and at the target that or the bytes.
record IsNear (temp target bytes : List ℕ) (start : Directory) (image : Files) : Type 0 where
  before : Names
  chosen : AreAfterSome start.pending start.durable before
  others : (name : List ℕ) → ¬ (name ≡ temp) → ¬ (name ≡ target) → MayHoldAt start.body (map.get before name) (map.get image name)
  placed : MayHoldAt start.body (map.get before target) (map.get image target) ⊎ (map.get image target ≡ Some bytes)

-- an image of the start that has what this one has, but for the target, where it has what may be there
record IsBack (temp target : List ℕ) (start : Directory) (image : Files) (value : Option (List ℕ)) : Type 0 where
  from : Files
  was : IsImage start from
  others : (name : List ℕ) → ¬ (IsEither temp target name) → map.get image name ≡ map.get from name
  at_target : map.get from target ≡ value

back : (temp target bytes : List ℕ) (start : Directory) (image : Files) → ¬ (temp ≡ target) → IsInNoImage start temp
    → (near : IsNear temp target bytes start image) → (value : Option (List ℕ)) → MayHoldAt start.body (map.get near.before target) value
    → IsBack temp target start image value
back temp target bytes start image differ no_temp near value holds =
    let bare : Files = with_value image temp None in
    let from : Files = with_value bare target value in
    let at_target : map.get from target ≡ value = get-with_value_same bare target value in
    let at_temp : map.get from temp ≡ None = get-with_value_other bare target temp value differ ∙ get-with_value_same image temp None in
    let elsewhere : (name : List ℕ) → ¬ (name ≡ temp) → ¬ (name ≡ target) → map.get image name ≡ map.get from name =
    λ name not_temp not_target.
    sym (get-with_value_other bare target name value not_target ∙ get-with_value_other image temp name None not_temp) in
    record {
      from = from;
      was = record {
        names = near.before;
        chosen = near.chosen;
        each = λ name. elim (one_or_other name target) [
          | inl is ↦ rw is (rw at_target holds)
          | inr not_target ↦ elim (one_or_other name temp) [
            | inl is ↦ rw is (rw (at_temp, in_no_choice start temp no_temp near.before near.chosen) tt)
            | inr not_temp ↦ subst (MayHoldAt start.body (map.get near.before name)) (elsewhere name not_temp not_target)
                (near.others name not_temp not_target)
          ]
        ];
      };
      others = λ name neither_one. elsewhere name (λ is. neither_one (inl is)) (λ is. neither_one (inr is));
      at_target = at_target;
    }

-- what is near is an image of the start, or placed
near_placing : (temp target bytes : List ℕ) (start : Directory) (image : Files) → ¬ (temp ≡ target) → IsInNoImage start temp
    → IsNear temp target bytes start image → IsPlacing temp target bytes start image
near_placing temp target bytes start image differ no_temp near = elim near.placed [
  | inl holds ↦ let was : IsBack temp target start image (map.get image target) =
      back temp target bytes start image differ no_temp near (map.get image target) holds in
      record { alone = record { from = was.from; was = was.was; others = was.others }; placed = inl (sym was.at_target) }
  | inr new ↦ let was : IsBack temp target start image (map.get (files_of start.body near.before) target) =
      back temp target bytes start image differ no_temp near _ (reading_holds start.body near.before target) in
      record { alone = record { from = was.from; was = was.was; others = was.others }; placed = inr new }
]

-- the start, with one body more and changes of names after its own
abbrev grown : Directory → (ℕ → Body) → List Change → Directory
grown start bodies changes = record { durable = start.durable; pending = changes ++ start.pending; body = bodies }

-- no other body has changed
abbrev AreElsewhere : (ℕ → Body) → (ℕ → Body) → ℕ → Type 0
AreElsewhere bodies others number = (other : ℕ) → ¬ (other ≡ number) → others other ≡ bodies other

-- a name of the start is as before, where the names that were chosen hold what the start's choice holds
holds_before : (start : Directory) (bodies : ℕ → Body) (number : ℕ) → IsFresh start number → AreElsewhere start.body bodies number
    → (before names : Names) → AreAfterSome start.pending start.durable before → (name : List ℕ) (holds : Option (List ℕ)) → map.get names
    name ≡ map.get before name → MayHoldAt bodies (map.get names name) holds → MayHoldAt start.body (map.get before name) holds
holds_before start bodies number fresh elsewhere before names chosen name holds same is =
    holds_elsewhere start.body bodies number elsewhere (map.get before name) holds (fresh before chosen name)
    (subst (λ held. MayHoldAt bodies held holds) same is)

-- the temporary file was made
near_made : (temp target bytes : List ℕ) (start : Directory) (bodies : ℕ → Body) (number : ℕ) (image : Files) → ¬ (temp ≡ target)
    → IsFresh start number → AreElsewhere start.body bodies number → IsImage (grown start bodies (Made temp number ∷ [])) image
    → IsNear temp target bytes start image
near_made temp target bytes start bodies number image differ fresh elsewhere is =
    let before : Names = is.chosen.0 in
    let held : (name : List ℕ) → ¬ (name ≡ temp) → map.get is.names name ≡ map.get before name = λ name not_temp. elim is.chosen.2 [
      | inl same ↦ ap (λ names. map.get names name) same
      | inr made ↦ ap (λ names. map.get names name) made ∙ get-insert_other before temp name number not_temp
    ] in
    let holds : (name : List ℕ) → ¬ (name ≡ temp) → MayHoldAt start.body (map.get before name) (map.get image name) =
    λ name not_temp. holds_before start bodies number fresh elsewhere before is.names is.chosen.1 name (map.get image name)
    (held name not_temp) (is.each name) in
    record {
      before = before;
      chosen = is.chosen.1;
      others = λ name not_temp not_target. holds name not_temp;
      placed = inl (holds target (λ same. differ (sym same)));
    }

-- What the names hold after the temporary file was made and perhaps renamed: the start's choice, or the new body at the target.
record IsChosen (temp target : List ℕ) (start : Directory) (number : ℕ) (names : Names) : Type 0 where
  before : Names
  chosen : AreAfterSome start.pending start.durable before
  others : (name : List ℕ) → ¬ (name ≡ temp) → ¬ (name ≡ target) → map.get names name ≡ map.get before name
  placed : (map.get names target ≡ map.get before target) ⊎ (map.get names target ≡ Some number)

-- the names after the temporary file was made, or not
chosen_made : (temp target : List ℕ) (start : Directory) (number : ℕ) (names : Names) → ¬ (temp ≡ target)
    → AreAfterSome (Made temp number ∷ start.pending) start.durable names → IsChosen temp target start number names
chosen_made temp target start number names differ chosen =
    let held : (name : List ℕ) → ¬ (name ≡ temp) → map.get names name ≡ map.get chosen.0 name = λ name not_temp. elim chosen.2 [
      | inl same ↦ ap (λ some. map.get some name) same
      | inr made ↦ ap (λ some. map.get some name) made ∙ get-insert_other chosen.0 temp name number not_temp
    ] in
    record {
      before = chosen.0;
      chosen = chosen.1;
      others = λ name not_temp not_target. held name not_temp;
      placed = inl (held target (λ same. differ (sym same)));
    }

-- names that hold a body at the temporary name and then move it to the target
moved_names : (temp target : List ℕ) (number : ℕ) (before names : Names) → names ≡ map.insert before temp number
    → moved (map.get names temp) temp target names ≡ map.insert (map.remove (map.insert before temp number) temp) target number
moved_names temp target number before names made =
    let held : map.get names temp ≡ Some number = ap (λ some. map.get some temp) made ∙ get-insert_same before temp number in
    ap (λ found. moved found temp target names) held ∙ ap (λ some. map.insert (map.remove some temp) target number) made

-- the names after the temporary file was renamed too, or not
chosen_renamed : (temp target : List ℕ) (start : Directory) (number : ℕ) (names : Names) → ¬ (temp ≡ target) → IsInNoImage start temp
    → AreAfterSome (Renamed temp target ∷ Made temp number ∷ start.pending) start.durable names → IsChosen temp target start number names
chosen_renamed temp target start number names differ no_temp chosen = elim chosen.2 [
  | inl same ↦ rw same (chosen_made temp target start number chosen.0 differ chosen.1)
  | inr renamed ↦ elim chosen.1.2 [
    | inl absent ↦
        let none : map.get chosen.0 temp ≡ None = ap (λ some. map.get some temp) absent
        ∙ in_no_choice start temp no_temp chosen.1.0 chosen.1.1 in
        let same : names ≡ chosen.0 = renamed ∙ ap (λ found. moved found temp target chosen.0) none in
        rw same (chosen_made temp target start number chosen.0 differ chosen.1)
    | inr made ↦
        let before : Names = chosen.1.0 in
        let all : names ≡ map.insert (map.remove (map.insert before temp number) temp) target number = renamed
        ∙ moved_names temp target number before chosen.0 made in
        record {
          before = before;
          chosen = chosen.1.1;
          others = λ name not_temp not_target. ap (λ some. map.get some name) all
              ∙ get-insert_other (map.remove (map.insert before temp number) temp) target name number not_target
              ∙ get-remove_other (map.insert before temp number) temp name not_temp
              ∙ get-insert_other before temp name number not_temp;
          placed =
              inr (ap (λ some. map.get some target) all ∙ get-insert_same (map.remove (map.insert before temp number) temp) target number);
        }
  ]
]

-- where the body is durable, its bytes alone are possible
durable_holds : (bodies : ℕ → Body) (number : ℕ) (bytes : List ℕ) → bodies number ≡ durable_body (made_body bytes)
    → (holds : Option (List ℕ)) → MayHoldAt bodies (Some number) holds → holds ≡ Some bytes
durable_holds bodies number bytes whole None is = absurd is
durable_holds bodies number bytes whole (Some other) is =
    let held : MayHold (durable_body (made_body bytes)) other = subst (λ body. MayHold body other) whole is in
    ap Some (ext_get_or 0 other bytes held.counted (λ place inside. held.durable place refl))

-- the temporary file was made whole and then perhaps renamed
near_renamed : (temp target bytes : List ℕ) (start : Directory) (bodies : ℕ → Body) (number : ℕ) (image : Files) → ¬ (temp ≡ target)
    → IsInNoImage start temp → IsFresh start number → AreElsewhere start.body bodies number → bodies number ≡ durable_body (made_body bytes)
    → IsImage (grown start bodies (Renamed temp target ∷ Made temp number ∷ [])) image → IsNear temp target bytes start image
near_renamed temp target bytes start bodies number image differ no_temp fresh elsewhere whole is =
    let names : IsChosen temp target start number is.names = chosen_renamed temp target start number is.names differ no_temp is.chosen in
    let holds : (name : List ℕ) → map.get is.names name ≡ map.get names.before name
    → MayHoldAt start.body (map.get names.before name) (map.get image name) =
    λ name same.
    holds_before start bodies number fresh elsewhere names.before is.names names.chosen name (map.get image name) same (is.each name) in
    record {
      before = names.before;
      chosen = names.chosen;
      others = λ name not_temp not_target. holds name (names.others name not_temp not_target);
      placed = elim names.placed [
        | inl same ↦ inl (holds target same)
        | inr new ↦ inr (durable_holds bodies number bytes whole (map.get image target)
            (subst (λ held. MayHoldAt bodies held (map.get image target)) new (is.each target)))
      ];
    }

-- the start's own images
placing_start : (temp target bytes : List ℕ) (start : Directory) (image : Files) → IsImage start image
    → IsPlacing temp target bytes start image
placing_start temp target bytes start image is =
    record { alone = record { from = image; was = is; others = λ name neither_one. refl }; placed = inl refl }

-- the temporary file is whole and not renamed yet
pub record IsWhole (temp bytes : List ℕ) (start new : Directory) : Type 0 where
  number : ℕ
  bodies : ℕ → Body
  fresh : IsFresh start number
  elsewhere : AreElsewhere start.body bodies number
  whole : bodies number ≡ durable_body (made_body bytes)
  grown_is : new ≡ grown start bodies (Made temp number ∷ [])

-- a file that was made and then synced is whole
pub made_whole : (temp bytes : List ℕ) (start made synced : Directory) → IsMade temp bytes start made → IsSynced temp made synced
    → IsWhole temp bytes start synced
made_whole temp bytes start made synced is_made is_synced =
    let number : ℕ = is_made.number in
    let first : ℕ → Body = with_body start.body number (made_body bytes) in
    let held : map.get (names_of made) temp ≡ Some number = ap (λ directory. map.get (names_of directory) temp) is_made.made
    ∙ get-insert_same (names_of start) temp number in
    let same : is_synced.number ≡ number = cc (held, is_synced.held) in
    let bodies : ℕ → Body = with_body first number (durable_body (first number)) in
    record {
      number = number;
      bodies = bodies;
      fresh = is_made.fresh;
      elsewhere = λ other differ. with_body-other first number other _ differ ∙ with_body-other start.body number other _ differ;
      whole = with_body-same first number _ ∙ ap durable_body (with_body-same start.body number (made_body bytes));
      grown_is = is_synced.synced ∙ ap (λ some. with_changed some durable_body made) same
          ∙ ap (λ directory. with_changed number durable_body directory) is_made.made;
    }

-- an image of the directory once the temporary file is made
made_placing : (temp target bytes : List ℕ) (start made : Directory) → ¬ (temp ≡ target) → IsInNoImage start temp
    → IsMade temp bytes start made → (image : Files) → IsImage made image → IsPlacing temp target bytes start image
made_placing temp target bytes start made differ no_temp is_made image is =
    let number : ℕ = is_made.number in
    near_placing temp target bytes start image differ no_temp
    (near_made temp target bytes start (with_body start.body number (made_body bytes)) number image differ is_made.fresh
    (λ other elsewhere. with_body-other start.body number other _ elsewhere)
    (subst (λ directory. IsImage directory image) is_made.made is))

-- an image of the directory once the temporary file is whole
whole_placing : (temp target bytes : List ℕ) (start directory : Directory) → ¬ (temp ≡ target) → IsInNoImage start temp
    → IsWhole temp bytes start directory → (image : Files) → IsImage directory image → IsPlacing temp target bytes start image
whole_placing temp target bytes start directory differ no_temp whole image is =
    near_placing temp target bytes start image differ no_temp
    (near_made temp target bytes start whole.bodies whole.number image differ whole.fresh whole.elsewhere
    (subst (λ some. IsImage some image) whole.grown_is is))

-- an image of the directory once the temporary file is renamed
renamed_placing : (temp target bytes : List ℕ) (start directory renamed : Directory) → ¬ (temp ≡ target) → IsInNoImage start temp
    → IsWhole temp bytes start directory → IsRenamed temp target directory renamed → (image : Files) → IsImage renamed image
    → IsPlacing temp target bytes start image
renamed_placing temp target bytes start directory renamed differ no_temp whole is_renamed image is =
    near_placing temp target bytes start image differ no_temp
    (near_renamed temp target bytes start whole.bodies whole.number image differ no_temp whole.fresh whole.elsewhere whole.whole
    (subst (λ some. IsImage some image) (is_renamed ∙ ap (with_change (Renamed temp target)) whole.grown_is) is))

-- the call that makes the temporary file
create_files : {T : Type 0} (temp target bytes : List ℕ) (old new : World) (result : Result T HostFault) → ¬ (temp ≡ target)
    → IsInNoImage old.now.directory temp → FileCall (IsMade temp bytes) (IsMadeInPart temp bytes) old new result
    → ChangesFiles (IsPlacing temp target bytes old.now.directory) old new
create_files temp target bytes old new result differ no_temp call =
    let start : Directory = old.now.directory in
    changes_then (IsPlacing temp target bytes start) _ _ old old new result (changes_none _ old) call (λ image within. elim within [
      | inl is ↦ placing_start temp target bytes start image is
      | inr done ↦ made_placing temp target bytes start done.0 differ no_temp done.1 image done.2
    ])

-- the call that syncs it
sync_files : {T : Type 0} (temp target bytes : List ℕ) (old made new : World) (result : Result T HostFault) → ¬ (temp ≡ target)
    → IsInNoImage old.now.directory temp → ChangesFiles (IsPlacing temp target bytes old.now.directory) old made
    → IsMade temp bytes old.now.directory made.now.directory → FileCall (IsSynced temp) IsSyncedInPart made new result
    → ChangesFiles (IsPlacing temp target bytes old.now.directory) old new
sync_files temp target bytes old made new result differ no_temp before is_made call =
    let start : Directory = old.now.directory in
    changes_then (IsPlacing temp target bytes start) _ _ old made new result before call (λ image within. elim within [
      | inl is ↦ made_placing temp target bytes start made.now.directory differ no_temp is_made image is
      | inr done ↦ whole_placing temp target bytes start done.0 differ no_temp
          (made_whole temp bytes start made.now.directory done.0 is_made done.1) image done.2
    ])

-- the call that renames it
rename_files : {T : Type 0} (temp target bytes : List ℕ) (old synced new : World) (result : Result T HostFault) → ¬ (temp ≡ target)
    → IsInNoImage old.now.directory temp → ChangesFiles (IsPlacing temp target bytes old.now.directory) old synced
    → IsWhole temp bytes old.now.directory synced.now.directory → FileCall (IsRenamed temp target) (IsRenamed temp target) synced new result
    → ChangesFiles (IsPlacing temp target bytes old.now.directory) old new
rename_files temp target bytes old synced new result differ no_temp before whole call =
    let start : Directory = old.now.directory in
    changes_then (IsPlacing temp target bytes start) _ _ old synced new result before call (λ image within. elim within [
      | inl is ↦ whole_placing temp target bytes start synced.now.directory differ no_temp whole image is
      | inr done ↦ renamed_placing temp target bytes start synced.now.directory done.0 differ no_temp whole done.1 image done.2
    ])

-- the call that syncs the names
sync_names_files : {T : Type 0} (temp target bytes : List ℕ) (old renamed new : World) (directory : Directory) (result : Result T HostFault)
    → ¬ (temp ≡ target) → IsInNoImage old.now.directory temp → ChangesFiles (IsPlacing temp target bytes old.now.directory) old renamed
    → IsWhole temp bytes old.now.directory directory → IsRenamed temp target directory renamed.now.directory
    → FileCall HasNamesSynced IsSyncedInPart renamed new result → ChangesFiles (IsPlacing temp target bytes old.now.directory) old new
sync_names_files temp target bytes old renamed new directory result differ no_temp before whole is_renamed call =
    let start : Directory = old.now.directory in
    let placing : (image : Files) → IsImage renamed.now.directory image → IsPlacing temp target bytes start image =
    renamed_placing temp target bytes start directory renamed.now.directory differ no_temp whole is_renamed in
    changes_then (IsPlacing temp target bytes start) _ _ old renamed new result before call (λ image within. elim within [
      | inl is ↦ placing image is
      | inr done ↦ placing image (names_durable renamed.now.directory image (subst (λ some. IsImage some image) done.1 done.2))
    ])

-- the temporary file exists until it is renamed
pub made_held : (temp bytes : List ℕ) (start made : Directory) → IsMade temp bytes start made → IsSome (map.get (reading_of made) temp)
made_held temp bytes start made is_made = rw is_made.made
    (held_reads (with_file temp is_made.number bytes start) temp is_made.number (get-insert_same (names_of start) temp is_made.number))

pub whole_held : (temp bytes : List ℕ) (start directory : Directory) → IsWhole temp bytes start directory
    → IsSome (map.get (reading_of directory) temp)
whole_held temp bytes start directory whole = rw whole.grown_is (held_reads (grown start whole.bodies (Made temp whole.number ∷ [])) temp
    whole.number (get-insert_same (names_of start) temp whole.number))

-- the names at the end
abbrev end_names : List ℕ → List ℕ → ℕ → Names → Names
end_names temp target number before = map.insert (map.remove (map.insert before temp number) temp) target number

-- what they hold
end_target : (temp target : List ℕ) (number : ℕ) (before : Names) → map.get (end_names temp target number before) target ≡ Some number
end_target temp target number before = get-insert_same (map.remove (map.insert before temp number) temp) target number

end_temp : (temp target : List ℕ) (number : ℕ) (before : Names) → ¬ (temp ≡ target)
    → map.get (end_names temp target number before) temp ≡ None
end_temp temp target number before differ = get-insert_other (map.remove (map.insert before temp number) temp) target temp number differ
    ∙ get-remove_same (map.insert before temp number) temp

end_others : (temp target : List ℕ) (number : ℕ) (before : Names) (name : List ℕ) → ¬ (name ≡ temp) → ¬ (name ≡ target)
    → map.get (end_names temp target number before) name ≡ map.get before name
end_others temp target number before name not_temp not_target =
    get-insert_other (map.remove (map.insert before temp number) temp) target name number not_target
    ∙ get-remove_other (map.insert before temp number) temp name not_temp
    ∙ get-insert_other before temp name number not_temp

-- the directory at the end
abbrev end_directory : List ℕ → List ℕ → ℕ → (ℕ → Body) → Directory → Directory
end_directory temp target number bodies start =
    record { durable = end_names temp target number (names_of start); pending = []; body = bodies }

-- the target holds its file alone
end_alone : (temp target : List ℕ) (start : Directory) (number : ℕ) → ¬ (temp ≡ target) → IsFresh start number
    → IsHeldAt (end_names temp target number (names_of start)) target number
end_alone temp target start number differ fresh =
    let before : Names = names_of start in
    record {
      held = end_target temp target number before;
      alone = λ other held. elim (one_or_other other target) [
        | inl is ↦ is
        | inr not_target ↦ elim (one_or_other other temp) [
          | inl is ↦ let both : None ≡ Some number = sym (end_temp temp target number before differ)
              ∙ subst (λ name. map.get (end_names temp target number before) name ≡ Some number) is held in
              cc
          | inr not_temp ↦ absurd (fresh before (all_are_some start.pending start.durable) other
              (sym (end_others temp target number before other not_temp not_target) ∙ held))
        ]
      ];
    }

-- all of it was done
end_placed : (temp target bytes : List ℕ) (start : Directory) (bodies : ℕ → Body) (number : ℕ) → ¬ (temp ≡ target)
    → IsFresh start number → AreElsewhere start.body bodies number → bodies number ≡ durable_body (made_body bytes)
    → IsPlaced temp target bytes start (end_directory temp target number bodies start)
end_placed temp target bytes start bodies number differ fresh elsewhere whole =
    let before : Names = names_of start in
    let names : Names = end_names temp target number before in
    let new : Directory = end_directory temp target number bodies start in
    let holds : (image : Files) (is : IsImage new image) (name : List ℕ) (held : Option ℕ) → map.get names name ≡ held
    → MayHoldAt bodies held (map.get image name) =
    λ image is name held same.
    subst (λ some. MayHoldAt bodies some (map.get image name)) (ap (λ some. map.get some name) is.chosen ∙ same) (is.each name) in
    record {
      placed = λ image is. durable_holds bodies number bytes whole (map.get image target)
          (holds image is target (Some number) (end_target temp target number before));
      no_temp = λ image is. none_holds bodies (map.get image temp) (holds image is temp None (end_temp temp target number before differ));
      durable = refl;
      others = λ name neither_one.
          let same : map.get names name ≡ map.get before name =
          end_others temp target number before name (λ is. neither_one (inl is)) (λ is. neither_one (inr is)) in
          get-files_of bodies names name
          ∙ ap (option_map (λ held. (bodies held).bytes)) same
          ∙ reads_elsewhere start.body bodies number elsewhere (map.get before name)
          (fresh before (all_are_some start.pending start.durable) name)
          ∙ sym (get-files_of start.body before name);
      alone = (number, end_alone temp target start number differ fresh);
    }

-- after all four calls
all_placed : (temp target bytes : List ℕ) (start directory renamed new : Directory) → ¬ (temp ≡ target) → IsWhole temp bytes start directory
    → IsRenamed temp target directory renamed → HasNamesSynced renamed new → IsPlaced temp target bytes start new
all_placed temp target bytes start directory renamed new differ whole is_renamed named =
    let number : ℕ = whole.number in
    let grown_is : renamed ≡ grown start whole.bodies (Renamed temp target ∷ Made temp number ∷ []) = is_renamed
    ∙ ap (with_change (Renamed temp target)) whole.grown_is in
    let names : moved (map.get (map.insert (names_of start) temp number) temp) temp target (map.insert (names_of start) temp number)
    ≡ end_names temp target number (names_of start) =
    moved_names temp target number (names_of start) (map.insert (names_of start) temp number) refl in
    let ended : new ≡ end_directory temp target number whole.bodies start =
    named ∙ ap with_names_durable grown_is ∙ ap (λ some. record { durable = some; pending = []; body = whole.bodies }) names in
    subst (IsPlaced temp target bytes start) (sym ended)
    (end_placed temp target bytes start whole.bodies number differ whole.fresh whole.elsewhere whole.whole)

-- the file is being placed since the old world
abbrev Placing : List ℕ → List ℕ → List ℕ → World → World → Type 0
Placing temp target bytes old new = ChangesFiles (IsPlacing temp target bytes old.now.directory) old new

-- The calls so far, of which all but the last are done.
module _ {T : Type 0} (temp target bytes : List ℕ) (old : World) (differ : ¬ (temp ≡ target))
    (no_temp : IsInNoImage old.now.directory temp) where
  abbrev Makes : World → Result T HostFault → Type 0
  Makes new result = FileCall (IsMade temp bytes) (IsMadeInPart temp bytes) old new result

  abbrev Syncs : World → World → Result T HostFault → Type 0
  Syncs made new result = FileCall (IsSynced temp) IsSyncedInPart made new result

  abbrev Renames : World → World → Result T HostFault → Type 0
  Renames synced new result = FileCall (IsRenamed temp target) (IsRenamed temp target) synced new result

  pub to_made : (new : World) (result : Result T HostFault) → Makes new result → Placing temp target bytes old new
  to_made new result first = create_files temp target bytes old new result differ no_temp first

  pub to_synced : (made new : World) (a : T) (result : Result T HostFault) → Makes made (Ok a) → Syncs made new result
      → Placing temp target bytes old new
  to_synced made new a result first second =
      sync_files temp target bytes old made new result differ no_temp (to_made made (Ok a) first) first.outcome second

  pub to_whole : (made synced : World) (a b : T) → Makes made (Ok a) → Syncs made synced (Ok b)
      → IsWhole temp bytes old.now.directory synced.now.directory
  to_whole made synced a b first second =
      made_whole temp bytes old.now.directory made.now.directory synced.now.directory first.outcome second.outcome

  pub to_renamed : (made synced new : World) (a b : T) (result : Result T HostFault) → Makes made (Ok a) → Syncs made synced (Ok b)
      → Renames synced new result → Placing temp target bytes old new
  to_renamed made synced new a b result first second third =
      rename_files temp target bytes old synced new result differ no_temp (to_synced made synced a (Ok b) first second)
      (to_whole made synced a b first second) third

  pub to_end : (made synced renamed new : World) (a b c : T) (result : Result T HostFault) → Makes made (Ok a) → Syncs made synced (Ok b)
      → Renames synced renamed (Ok c) → FileCall HasNamesSynced IsSyncedInPart renamed new result → Placing temp target bytes old new
  to_end made synced renamed new a b c result first second third fourth =
      sync_names_files temp target bytes old renamed new synced.now.directory result differ no_temp
      (to_renamed made synced renamed a b (Ok c) first second third) (to_whole made synced a b first second) third.outcome fourth

  pub to_placed : (made synced renamed new : World) (a b c : T) (result : Result T HostFault) → Makes made (Ok a)
      → Syncs made synced (Ok b) → Renames synced renamed (Ok c) → FileCall HasNamesSynced IsSyncedInPart renamed new result
      → OnOk result (IsPlaced temp target bytes old.now.directory new.now.directory)
  to_placed made synced renamed new a b c (Ok d) first second third fourth =
      all_placed temp target bytes old.now.directory synced.now.directory renamed.now.directory new.now.directory differ
      (to_whole made synced a b first second) third.outcome fourth.outcome
  to_placed made synced renamed new a b c (Err fault) first second third fourth = tt
