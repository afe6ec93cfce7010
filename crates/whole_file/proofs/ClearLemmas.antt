-- What a crash leaves while files are removed.
use Rattle.std.proofs.Common.{◌≡◌, ◌≢◌, ℕ, ◌+◌, ◌<◌, ◌≤◌, List, [], length, sym, ap, subst, ◌∙◌, refl, inl, inr, arith, Result, Ok, Err, OnOk}
use Rattle.std.specs.Prelude.{◌⊎◌, Option, None, IsSome, Contains, option_map, slice_index_or}
use Rattle.std.specs.FinMap as map
use Rattle.std.proofs.Math.Nat.{eq-or-lt_of_le}
use Rattle.std.proofs.lemmas.List.{get_or_default}
use Rattle.host_calls.specs.declared.fault.HostFault.{HostFault}
use Rattle.host_calls.specs.Directory.{Body, Files, Directory, IsImage, IsRemoved, IsSyncedInPart, HasNamesSynced, MayHoldAt, Names, Removed, files_of, names_of, reading_of, with_change}
use Rattle.host_calls.specs.World.{FileCall, World}
use Rattle.host_calls.proofs.DirectoryLemmas.{get-files_of, get-remove_other, get-remove_same}
use Rattle.whole_file.specs.Removal.{AreCleared, AreFiles, IsClearing}
use Rattle.whole_file.specs.Others.{ChangesFiles}
use Rattle.whole_file.proofs.OthersLemmas.{changes_then, get-with_value_other, get-with_value_same, names_durable, none_holds, one_or_other, reading_holds, with_value}

-- the first of the names were removed, and nothing else has changed
pub record HasRemoved (names : List (List ℕ)) (count : ℕ) (start new : Directory) : Type 0 where
  pub body : new.body ≡ start.body
  pub gone : (place : ℕ) → place < count → map.get (names_of new) (slice_index_or names place []) ≡ None
  pub kept : (name : List ℕ) → ((place : ℕ) → place < count → name ≢ slice_index_or names place [])
      → map.get (names_of new) name ≡ map.get (names_of start) name
  pub images : (image : Files) → IsImage new image → IsClearing names start image

-- the start's own images
leaves_start : (names : List (List ℕ)) (start : Directory) (image : Files) → IsImage start image → IsClearing names start image
leaves_start names start image is =
    record { alone = record { from = image; was = is; others = λ name other. refl }; less = λ name. inl refl }

-- before any was removed
pub none_removed : (names : List (List ℕ)) (start : Directory) → HasRemoved names 0 start start
none_removed names start =
    record { body = refl; gone = λ place inside. absurd (omega arith); kept = λ name other. refl; images = leaves_start names start }

-- the name at a place is in the list
pub is_contained : (names : List (List ℕ)) (place : ℕ) → place < length names → Contains names (slice_index_or names place [])
is_contained names place inside = (place, inside, get_or_default names place _ [] inside)

-- the name that is at a place, whatever serves as no name
pub at_place : (names : List (List ℕ)) (count : ℕ) (name : List ℕ) → count < length names → name ≡ slice_index_or names count name
    → name ≡ slice_index_or names count []
at_place names count name inside is = is ∙ get_or_default names count name [] inside

-- an image after one name was removed, and the image of before that it comes from
record IsBack (name : List ℕ) (directory : Directory) (image : Files) : Type 0 where
  from : Files
  was : IsImage directory from
  others : (other : List ℕ) → ¬ (other ≡ name) → map.get image other ≡ map.get from other
  less : (map.get image name ≡ map.get from name) ⊎ (map.get image name ≡ None)

back : (name : List ℕ) (directory : Directory) (image : Files) → IsImage (with_change (Removed name) directory) image
    → IsBack name directory image
back name directory image is = elim is.chosen.2 [
  | inl same ↦ record {
    from = image;
    was = record {
      names = is.chosen.0;
      chosen = is.chosen.1;
      each = λ other. subst (λ names. MayHoldAt directory.body (map.get names other) (map.get image other)) same (is.each other);
    };
    others = λ other differ. refl;
    less = inl refl;
  }
  | inr removed ↦
      let before : Names = is.chosen.0 in
      let value : Option (List ℕ) = map.get (files_of directory.body before) name in
      let held : (other : List ℕ) → ¬ (other ≡ name) → map.get is.names other ≡ map.get before other =
      λ other differ. ap (λ names. map.get names other) removed ∙ get-remove_other before name other differ in
      let gone : map.get is.names name ≡ None = ap (λ names. map.get names name) removed ∙ get-remove_same before name in
      record {
        from = with_value image name value;
        was = record {
          names = before;
          chosen = is.chosen.1;
          each = λ other. elim (one_or_other other name) [
            | inl same ↦ rw same (rw (get-with_value_same image name value) (reading_holds directory.body before name))
            | inr differ ↦ rw (get-with_value_other image name other value differ)
                (subst (λ some. MayHoldAt directory.body some (map.get image other)) (held other differ) (is.each other))
          ];
        };
        others = λ other differ. sym (get-with_value_other image name other value differ);
        less = inr (none_holds directory.body (map.get image name)
            (subst (λ some. MayHoldAt directory.body some (map.get image name)) gone (is.each name)));
      }
]

-- an image after one more name was removed
removed_leaves : (names : List (List ℕ)) (name : List ℕ) (start directory : Directory) → Contains names name
    → ((image : Files) → IsImage directory image → IsClearing names start image) → (image : Files)
    → IsImage (with_change (Removed name) directory) image → IsClearing names start image
removed_leaves names name start directory among leaves image is =
    let once : IsBack name directory image = back name directory image is in
    let before : IsClearing names start once.from = leaves once.from once.was in
    record {
      alone = record {
        from = before.alone.from;
        was = before.alone.was;
        others = λ other apart. once.others other (λ same. apart (subst (Contains names) (sym same) among))
            ∙ before.alone.others other apart;
      };
      less = λ other. elim (one_or_other other name) [
        | inl same ↦ rw same (elim once.less [
          | inl was ↦ elim (before.less name) [ inl of_start ↦ inl (was ∙ of_start) | inr gone ↦ inr (was ∙ gone) ]
          | inr gone ↦ inr gone
        ])
        | inr differ ↦ elim (before.less
            other) [ inl of_start ↦ inl (once.others other differ ∙ of_start) | inr gone ↦ inr (once.others other differ ∙ gone) ]
      ];
    }

-- a place whose name is not that of the last place comes before it
earlier : (names : List (List ℕ)) (count place : ℕ) → place < count + 1
    → ¬ (slice_index_or names place [] ≡ slice_index_or names count []) → place < count
earlier names count place early differ =
    let at_most : place ≤ count = omega arith in
    elim (eq-or-lt_of_le at_most) [ inl same ↦ absurd (differ (ap (λ at. slice_index_or names at []) same)) | inr below ↦ below ]

-- one more name was removed
pub one_more : (names : List (List ℕ)) (count : ℕ) (name : List ℕ) (start directory new : Directory) → count < length names
    → name ≡ slice_index_or names count [] → HasRemoved names count start directory → IsRemoved name directory new
    → HasRemoved names (count + 1) start new
one_more names count name start directory new inside here before removed =
    let names_are : names_of new ≡ map.remove (names_of directory) name = ap names_of removed in
    record {
      body = ap (λ (some : Directory). some.body) removed ∙ before.body;
      gone = λ place early. ap (λ some. map.get some (slice_index_or names place [])) names_are
          ∙ elim (one_or_other (slice_index_or names place []) name) [
            | inl same ↦ ap (map.get (map.remove (names_of directory) name)) same ∙ get-remove_same (names_of directory) name
            | inr differ ↦ get-remove_other (names_of directory) name (slice_index_or names place []) differ
                ∙ before.gone place (earlier names count place early (λ same. differ (same ∙ sym here)))
          ];
      kept = λ other apart. ap (λ some. map.get some other) names_are
          ∙ get-remove_other (names_of directory) name other (λ same. apart count (omega arith) (same ∙ here))
          ∙ before.kept other (λ place early. apart place (omega arith));
      images = λ image is. removed_leaves names name start directory (subst (Contains names) (sym here) (is_contained names count inside))
          before.images image (subst (λ some. IsImage some image) removed is);
    }

-- the calls that remove the names, one more of them
pub remove_files : {T : Type 0} (names : List (List ℕ)) (count : ℕ) (name : List ℕ) (old before new : World) (result : Result T HostFault)
    → count < length names → name ≡ slice_index_or names count [] → ChangesFiles (IsClearing names old.now.directory) old before
    → HasRemoved names count old.now.directory before.now.directory → FileCall (IsRemoved name) (IsRemoved name) before new result
    → ChangesFiles (IsClearing names old.now.directory) old new
remove_files names count name old before new result inside here changes removed call =
    let start : Directory = old.now.directory in
    changes_then (IsClearing names start) _ _ old before new result changes call (λ image within. elim within [
      | inl is ↦ removed.images image is
      | inr done ↦ removed_leaves names name start before.now.directory (subst (Contains names) (sym here)
          (is_contained names count inside)) removed.images image (subst (λ some. IsImage some image) done.1 done.2)
    ])

-- the call that syncs the names
pub sync_files : {T : Type 0} (names : List (List ℕ)) (count : ℕ) (old before new : World) (result : Result T HostFault)
    → ChangesFiles (IsClearing names old.now.directory) old before → HasRemoved names count old.now.directory before.now.directory
    → FileCall HasNamesSynced IsSyncedInPart before new result → ChangesFiles (IsClearing names old.now.directory) old new
sync_files names count old before new result changes removed call =
    changes_then (IsClearing names old.now.directory) _ _ old before new result changes call (λ image within. elim within [
      | inl is ↦ removed.images image is
      | inr done ↦ removed.images image (names_durable before.now.directory image (subst (λ some. IsImage some image) done.1 done.2))
    ])

-- the next name is still there
pub still_held : (names : List (List ℕ)) (count : ℕ) (name : List ℕ) (start directory : Directory) → count < length names
    → name ≡ slice_index_or names count [] → AreFiles names (reading_of start) → HasRemoved names count start directory
    → IsSome (map.get (reading_of directory) name)
still_held names count name start directory inside here files removed =
    let apart : (place : ℕ) → place < count → name ≢ slice_index_or names place [] =
    λ place early same. files.different place count [] early inside (sym same ∙ here) in
    let same : map.get (reading_of directory) name ≡ map.get (reading_of start) name =
    get-files_of directory.body (names_of directory) name
    ∙ ap (λ (body : ℕ → Body). option_map (λ number. (body number).bytes) (map.get (names_of directory) name)) removed.body
    ∙ ap (option_map (λ number. (start.body number).bytes)) (removed.kept name apart)
    ∙ sym (get-files_of start.body (names_of start) name) in
    rw same (files.held name (subst (Contains names) (sym here) (is_contained names count inside)))

-- all of it was done
all_cleared : (names : List (List ℕ)) (start directory new : Directory) → HasRemoved names (length names) start directory
    → HasNamesSynced directory new → AreCleared names start new
all_cleared names start directory new removed named = rw named (record {
  gone = λ name among image is.
      let held : map.get is.names name ≡ None = ap (λ some. map.get some name) is.chosen
      ∙ subst (λ some. map.get (names_of directory) some ≡ None) (get_or_default names among.0 [] name among.1 ∙ among.2)
      (removed.gone among.0 among.1) in
      none_holds directory.body (map.get image name)
      (subst (λ some. MayHoldAt directory.body some (map.get image name)) held (is.each name));
  durable = refl;
  others = λ name apart.
      get-files_of directory.body (names_of directory) name
      ∙ ap (λ (body : ℕ → Body). option_map (λ number. (body number).bytes) (map.get (names_of directory) name)) removed.body
      ∙ ap (option_map (λ number. (start.body number).bytes))
      (removed.kept name (λ place inside same. apart (subst (Contains names) (sym same) (is_contained names place inside))))
      ∙ sym (get-files_of start.body (names_of start) name);
})

-- the same by the answer of the last call
pub cleared : {T : Type 0} (names : List (List ℕ)) (count : ℕ) (start : Directory) (before new : World) (result : Result T HostFault)
    → count ≡ length names → HasRemoved names count start before.now.directory → FileCall HasNamesSynced IsSyncedInPart before new result
    → OnOk result (AreCleared names start new.now.directory)
cleared names count start before new (Ok value) ended removed call = all_cleared names start before.now.directory new.now.directory
    (subst (λ all. HasRemoved names all start before.now.directory) ended removed) call.outcome
cleared names count start before new (Err fault) ended removed call = tt
