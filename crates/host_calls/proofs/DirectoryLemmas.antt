-- What readings and images say of a directory.
use Rattle.std.proofs.Common.{◌≡◌, ℕ, Bool, true, false, List, [], ◌∷◌, length, cond, sym, ap, subst, ◌∙◌, refl, inr, arith}
use Rattle.std.specs.Prelude.{Option, Some, None, option_map, map, slice_index}
use Rattle.std.specs.Ordering.{eq_by_cmp}
use Rattle.std.specs.Cmp.Lexicographic.{nat_list_cmp_total}
use Rattle.std.proofs.lemmas.Map.Text.{is_eq-slice_cmp}
use Rattle.std.proofs.lemmas.Slice.Eq.{bytes_eq-Decides}
use Rattle.std.proofs.lemmas.Bool.{false_from_ne_true}
use Rattle.std.proofs.lemmas.List.{ext_get_or}
use Rattle.std.specs.FinMap as finite
use Rattle.std.specs.FinMap.{FinMap, entries, find, same_map, get-from_entries, get-insert, get-remove, get-entries, slice_cmp-IsAntisymmetric, nat_cmp-IsAntisymmetric}
use Rattle.host_calls.specs.Directory.{Body, Change, Files, Directory, IsImage, Names, MayHold, MayHoldAt, AreAfterSome, name_cmp, names_after, names_of, files_of, reading_of, settled, durable_body}

-- all of the pending changes are some of them
pub all_are_some : (pending : List Change) (durable : Names) → AreAfterSome pending durable (names_after pending durable)
all_are_some [] durable = refl
all_are_some (change ∷ older) durable = (names_after older durable, all_are_some older durable, inr refl)

-- a choice of two values, changed
option_map-cond : {X Y : Type 0} (f : X → Y) (b : Bool) (first : X) (other : Option X)
    → cond b (Some (f first)) (option_map f other) ≡ option_map f (cond b (Some first) other)
option_map-cond f true first other = refl
option_map-cond f false first other = refl

-- what a list of entries gives at a name, where the values are changed
find-map : {X Y : Type 0} (f : X → Y) (list : List (List ℕ × X)) (name : List ℕ)
    → find name_cmp name (map (λ entry. (entry.0, f entry.1)) list) ≡ option_map f (find name_cmp name list)
find-map f [] name = refl
find-map f (entry ∷ others) name = ap (cond (eq_by_cmp name_cmp name entry.0) (Some (f entry.1))) (find-map f others name)
    ∙ option_map-cond f (eq_by_cmp name_cmp name entry.0) entry.1 (find name_cmp name others)

-- what the files of a directory read as at a name
pub get-files_of : (body : ℕ → Body) (names : Names) (name : List ℕ)
    → finite.get (files_of body names) name ≡ option_map (λ number. (body number).bytes) (finite.get names name)
unfolding files_of
get-files_of body names name = get-from_entries nat_list_cmp_total _ name ∙ find-map (λ number. (body number).bytes) (entries names) name
    ∙ ap (option_map _) (sym (get-entries names name))

-- two names are equal, or the order tells them apart
pub eq_by_cmp-same : (name : List ℕ) → eq_by_cmp name_cmp name name ≡ true
eq_by_cmp-same name = is_eq-slice_cmp name name ∙ (bytes_eq-Decides name name).1 refl

pub eq_by_cmp-other : (name other : List ℕ) → ¬ (other ≡ name) → eq_by_cmp name_cmp other name ≡ false
eq_by_cmp-other name other differ = is_eq-slice_cmp other name
    ∙ false_from_ne_true _ (λ same. differ ((bytes_eq-Decides other name).0 same))

module _ {X : Type 0} where
  pub get-insert_same : (files : FinMap name_cmp X) (name : List ℕ) (value : X)
      → finite.get (finite.insert files name value) name ≡ Some value
  get-insert_same files name value = get-insert nat_list_cmp_total files name value name
      ∙ ap (λ b. cond b (Some value) (finite.get files name)) (eq_by_cmp-same name)

  pub get-insert_other : (files : FinMap name_cmp X) (name other : List ℕ) (value : X) → ¬ (other ≡ name)
      → finite.get (finite.insert files name value) other ≡ finite.get files other
  get-insert_other files name other value differ = get-insert nat_list_cmp_total files name value other
      ∙ ap (λ b. cond b (Some value) (finite.get files other)) (eq_by_cmp-other name other differ)

  pub get-remove_same : (files : FinMap name_cmp X) (name : List ℕ) → finite.get (finite.remove files name) name ≡ None
  get-remove_same files name = get-remove nat_list_cmp_total files name name
      ∙ ap (λ b. cond b None (finite.get files name)) (eq_by_cmp-same name)

  pub get-remove_other : (files : FinMap name_cmp X) (name other : List ℕ) → ¬ (other ≡ name)
      → finite.get (finite.remove files name) other ≡ finite.get files other
  get-remove_other files name other differ = get-remove nat_list_cmp_total files name other
      ∙ ap (λ b. cond b None (finite.get files other)) (eq_by_cmp-other name other differ)

  -- two maps that answer alike at each name are equal
  pub same_names : (first second : FinMap name_cmp X) → ((name : List ℕ) → finite.get first name ≡ finite.get second name) → first ≡ second
  same_names first second alike = same_map nat_list_cmp_total (slice_cmp-IsAntisymmetric nat_cmp-IsAntisymmetric) first second alike

-- what a body reads as is among what a crash may leave of it
MayHold-bytes : (bodies : ℕ → Body) (number : ℕ) → MayHold (bodies number) (bodies number).bytes
MayHold-bytes bodies number = by_sync (bodies number) (bodies number).is_synced refl where
  by_sync : (body : Body) (synced : Bool) → body.is_synced ≡ synced → MayHold body body.bytes
  by_sync body true is = rw is (record { counted = refl; durable = λ place durable. refl })
  by_sync body false is = rw is (omega arith)

-- what a choice of names reads as is among what a crash may leave
MayHoldAt-files_of : (bodies : ℕ → Body) (held : Option ℕ) → MayHoldAt bodies held (option_map (λ number. (bodies number).bytes) held)
MayHoldAt-files_of bodies None = tt
MayHoldAt-files_of bodies (Some number) = MayHold-bytes bodies number

-- the reading is an image
pub reading_is_image : (directory : Directory) → IsImage directory (reading_of directory)
reading_is_image directory = record {
  names = names_of directory;
  chosen = all_are_some directory.pending directory.durable;
  each = λ name.
      rw (get-files_of directory.body (names_of directory) name) (MayHoldAt-files_of directory.body (finite.get (names_of directory) name));
}

-- the reading of a settled directory is that of before
pub reading_of-settled : (directory : Directory) → reading_of (settled directory) ≡ reading_of directory
reading_of-settled directory =
    same_names _ _ (λ name. get-files_of _ (names_of directory) name ∙ sym (get-files_of directory.body (names_of directory) name))

-- two lists are equal where they are as long and have the same at each place
same_places : (first second : List ℕ) → length first ≡ length second
    → ((place : ℕ) → slice_index first place ≡ slice_index second place) → first ≡ second
same_places first second counted alike = ext_get_or 0 first second counted (λ place inside. alike place)

-- what is at a name of settled bodies is what they read as
settled_holds : (bodies : ℕ → Body) (held : Option ℕ) (holds : Option (List ℕ))
    → MayHoldAt (λ number. durable_body (bodies number)) held holds → holds ≡ option_map (λ number. (bodies number).bytes) held
settled_holds bodies None None is = refl
settled_holds bodies None (Some bytes) is = absurd is
settled_holds bodies (Some number) None is = absurd is
settled_holds bodies (Some number) (Some bytes) is =
    ap Some (same_places bytes (bodies number).bytes is.counted (λ place. is.durable place refl))

-- a settled directory has its reading as its only image
pub settled_image : (directory : Directory) (image : Files) → IsImage (settled directory) image → image ≡ reading_of directory
settled_image directory image is = same_names _ _ (λ name.
    let holds : MayHoldAt (settled directory).body (finite.get (names_of directory) name) (finite.get image name) =
    subst (λ names. MayHoldAt (settled directory).body (finite.get names name) (finite.get image name)) is.chosen (is.each name) in
    settled_holds directory.body (finite.get (names_of directory) name) (finite.get image name) holds
    ∙ sym (get-files_of directory.body (names_of directory) name))
