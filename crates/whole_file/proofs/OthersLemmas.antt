-- What calls on files leave, one after another.
use Rattle.std.proofs.Common.{◌≡◌, ◌⊎◌, ℕ, Bool, true, false, List, [], sym, ap, subst, ◌∙◌, refl, inl, inr, arith, Result}
use Rattle.std.specs.Prelude.{Option, Some, None, IsSome, option_map, ◌==◌, if◌then◌else◌}
use Rattle.std.specs.FinMap as map
use Rattle.std.specs.Str.{bytes_eq}
use Rattle.std.proofs.lemmas.Bool.Decides.{nat_tests}
use Rattle.std.proofs.lemmas.Slice.Eq.{bytes_eq-Decides}
use Rattle.host_calls.specs.declared.fault.HostFault.{HostFault}
use Rattle.host_calls.specs.Directory.{AreAfterSome, Body, Files, Directory, IsImage, IsInNoImage, MayHold, MayHoldAt, Names, files_of, names_of, reading_of, with_body, with_names_durable}
use Rattle.host_calls.specs.World.{FileCall, TimePasses, IsWithin, World}
use Rattle.host_calls.proofs.DirectoryLemmas.{all_are_some, get-insert_other, get-insert_same, get-remove_other, get-remove_same, get-files_of, reading_is_image}
use Rattle.host_calls.proofs.WorldLemmas.{call_then, leaves_none, leaves_weaker}
use Rattle.whole_file.specs.Others.{ChangesFiles, IsEither}

-- before any call
pub changes_none : (P : Files → Type 0) (world : World) → ChangesFiles P world world
changes_none P world = record { handed = refl; asked = refl; leaves = leaves_none _ world world refl }

-- one call after others: it is enough that what the call lets a crash leave has P
pub changes_then : {T : Type 0} (P : Files → Type 0) (done part : Directory → Directory → Type 0) (first second third : World)
    (result : Result T HostFault) → ChangesFiles P first second → FileCall done part second third result
    → ((image : Files) → IsWithin done second.now.directory image → P image) → ChangesFiles P first third
changes_then P done part first second third result before call within = record {
  handed = call.handed ∙ before.handed;
  asked = call.asked ∙ before.asked;
  leaves = call_then (λ image handed. P image × (handed ≡ first.now.handed)) done part first second third result before.leaves call
      (λ image is. (within image is, before.handed));
}

-- two names are the same or not
pub one_or_other : (first second : List ℕ) → (first ≡ second) ⊎ (¬ (first ≡ second))
one_or_other first second = by_test (bytes_eq first second) refl where
  by_test : (test : Bool) → bytes_eq first second ≡ test → (first ≡ second) ⊎ (¬ (first ≡ second))
  by_test true is = inl ((bytes_eq-Decides first second).0 is)
  by_test false is = inr (λ same. let impossible : true ≡ false = sym ((bytes_eq-Decides first second).1 same) ∙ is in cc)

-- a name that is neither of two
pub neither : (first second name : List ℕ) → ¬ (name ≡ first) → ¬ (name ≡ second) → ¬ (IsEither first second name)
neither first second name not_first not_second either = elim either [ inl is ↦ not_first is | inr is ↦ not_second is ]

-- the files with a value or none at a name
pub with_value : Files → List ℕ → Option (List ℕ) → Files
with_value files name None = map.remove files name
with_value files name (Some value) = map.insert files name value

pub get-with_value_same : (files : Files) (name : List ℕ) (value : Option (List ℕ)) → map.get (with_value files name value) name ≡ value
unfolding with_value
get-with_value_same files name None = get-remove_same files name
get-with_value_same files name (Some value) = get-insert_same files name value

pub get-with_value_other : (files : Files) (name other : List ℕ) (value : Option (List ℕ)) → ¬ (other ≡ name)
    → map.get (with_value files name value) other ≡ map.get files other
unfolding with_value
get-with_value_other files name other None differ = get-remove_other files name other differ
get-with_value_other files name other (Some value) differ = get-insert_other files name other value differ

-- the bodies but one, after that one has changed
pub with_body-other : (bodies : ℕ → Body) (number other : ℕ) (body : Body) → ¬ (other ≡ number)
    → with_body bodies number body other ≡ bodies other
with_body-other bodies number other body differ =
    let test : (other == number) ≡ false = grind (arith, nat_tests) in
    ap (λ b. if b then body else bodies other) test

pub with_body-same : (bodies : ℕ → Body) (number : ℕ) (body : Body) → with_body bodies number body number ≡ body
with_body-same bodies number body =
    let test : (number == number) ≡ true = grind (arith, nat_tests) in
    ap (λ b. if b then body else bodies number) test

-- what may be at a name that does not hold the one body that differs
pub holds_elsewhere : (bodies others : ℕ → Body) (number : ℕ) → ((other : ℕ) → ¬ (other ≡ number) → others other ≡ bodies other)
    → (held : Option ℕ) (holds : Option (List ℕ)) → ¬ (held ≡ Some number) → MayHoldAt others held holds → MayHoldAt bodies held holds
holds_elsewhere bodies others number elsewhere None None differ is = tt
holds_elsewhere bodies others number elsewhere None (Some bytes) differ is = is
holds_elsewhere bodies others number elsewhere (Some held) None differ is = is
holds_elsewhere bodies others number elsewhere (Some held) (Some bytes) differ is =
    subst (λ body. MayHold body bytes) (elsewhere held (λ same. differ (ap Some same))) is

-- nothing may be at a name alone where nothing is held
pub nothing_holds : (bodies : ℕ → Body) (held : Option ℕ) → MayHoldAt bodies held None → held ≡ None
nothing_holds bodies None is = refl
nothing_holds bodies (Some number) is = absurd is

-- nothing but nothing is possible where nothing is held
pub none_holds : (bodies : ℕ → Body) (holds : Option (List ℕ)) → MayHoldAt bodies None holds → holds ≡ None
none_holds bodies None is = refl
none_holds bodies (Some bytes) is = absurd is

-- what a name reads as that does not hold the one body that differs
pub reads_elsewhere : (bodies others : ℕ → Body) (number : ℕ) → ((other : ℕ) → ¬ (other ≡ number) → others other ≡ bodies other)
    → (held : Option ℕ) → ¬ (held ≡ Some number) → option_map (λ at. (others at).bytes) held ≡ option_map (λ at. (bodies at).bytes) held
reads_elsewhere bodies others number elsewhere None differ = refl
reads_elsewhere bodies others number elsewhere (Some held) differ =
    ap (λ (body : Body). Some body.bytes) (elsewhere held (λ same. differ (ap Some same)))

-- what names read as may be there
pub reading_holds : (bodies : ℕ → Body) (names : Names) (name : List ℕ)
    → MayHoldAt bodies (map.get names name) (map.get (files_of bodies names) name)
reading_holds bodies names name =
    let directory : Directory = record { durable = names; pending = []; body = bodies } in
    let is : IsImage directory (files_of bodies names) = reading_is_image directory in
    subst (λ chosen. MayHoldAt bodies (map.get chosen name) (map.get (files_of bodies names) name)) is.chosen (is.each name)

-- a name that is in no image is in no choice of the pending changes
pub in_no_choice : (directory : Directory) (name : List ℕ) → IsInNoImage directory name → (names : Names)
    → AreAfterSome directory.pending directory.durable names → map.get names name ≡ None
in_no_choice directory name no_image names chosen =
    let image : Files = files_of directory.body names in
    let none : map.get image name ≡ None =
    no_image image (record { names = names; chosen = chosen; each = reading_holds directory.body names }) in
    nothing_holds directory.body (map.get names name)
    (subst (MayHoldAt directory.body (map.get names name)) none (reading_holds directory.body names name))

-- a name that is held is in the reading
pub held_reads : (directory : Directory) (name : List ℕ) (number : ℕ) → map.get (names_of directory) name ≡ Some number
    → IsSome (map.get (reading_of directory) name)
held_reads directory name number held = rw (get-files_of directory.body (names_of directory) name, held) refl

-- once the names are durable, no image is new
pub names_durable : (directory : Directory) (image : Files) → IsImage (with_names_durable directory) image → IsImage directory image
names_durable directory image is = record {
  names = is.names;
  chosen = subst (AreAfterSome directory.pending directory.durable) (sym is.chosen) (all_are_some directory.pending directory.durable);
  each = is.each;
}

-- calls on files starts nothing
pub changes_go_on : (P : Files → Type 0) (old new : World) → ChangesFiles P old new → TimePasses old new
changes_go_on P old new changes = record {
  asked = changes.asked;
  handed = changes.handed;
  leaves = leaves_weaker (λ image handed. P image × (handed ≡ old.now.handed)) (λ image handed. handed ≡ old.now.handed) old new
      (λ image handed is. is.1) changes.leaves;
}
