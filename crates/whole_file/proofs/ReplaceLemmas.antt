-- How a file is replaced where a call before may have been cut off.
use Rattle.std.proofs.Common.{◌≡◌, ◌≢◌, ◌∙◌, ℕ, zero, suc, ◌<◌, List, [], ◌∷◌, length, inl, inr, refl, sym, subst, arith, Contains}
use Rattle.std.specs.Prelude.{Option, None, IsSome, OnOk, Result, Ok, Err, slice_index_or}
use Rattle.std.specs.FinMap as finite
use Rattle.host_calls.specs.Directory.{Files, Directory, IsImage}
use Rattle.host_calls.specs.World.{World, reading}
use Rattle.whole_file.specs.Removal.{AreCleared, AreFiles, IsClearing}
use Rattle.whole_file.specs.Others.{ChangesFiles, IsEither}
use Rattle.whole_file.specs.Placement.{IsPlaced, IsPlacing}
use Rattle.whole_file.specs.TempFiles.{IsDurableAt, IsWithout}
use Rattle.whole_file.proofs.ChangesJoined.{changes_end, changes_on, changes_weaker, left_alone}
use Rattle.whole_file.proofs.OthersLemmas.{changes_none}

-- a name among one alone is that one
is_the_name : (one name : List ℕ) → Contains (one ∷ []) name → name ≡ one
is_the_name one name has = at has.0 has.1 has.2 where
  at : (place : ℕ) → place < length (one ∷ []) → slice_index_or (one ∷ []) place name ≡ name → name ≡ one
  at zero inside same = sym same
  at (suc place) inside same = absurd (omega (arith, inside))

-- the name is that of a file, once
pub name_is_file : (name : List ℕ) (files : Files) → IsSome (finite.get files name) → AreFiles (name ∷ []) files
name_is_file name files some = record {
  held = λ other has. subst (λ n. IsSome (finite.get files n)) (sym (is_the_name name other has)) some;
  different = λ i j d before inside same. (omega arith);
}

-- nothing is changed where there is no such file
pub none_cleared : (name : List ℕ) (old new : World) → new ≡ old → ChangesFiles (IsClearing (name ∷ []) old.now.directory) old new
none_cleared name old new same =
    subst (λ now. ChangesFiles (IsClearing (name ∷ []) old.now.directory) old now) (sym same)
    (changes_none (IsClearing (name ∷ []) old.now.directory) old)

pub none_left : (name : List ℕ) (old new : World) (content : Option (List ℕ)) → new ≡ old → IsDurableAt name old.now.directory
    → content ≡ finite.get (reading old) name → content ≡ None → IsWithout name old.now.directory new.now.directory
none_left name old new content same durable is none =
    subst (λ (now : World). IsWithout name old.now.directory now.now.directory) (sym same)
    (record { gone = λ image was. durable image was ∙ sym is ∙ none; others = λ other differs. refl })

-- and where it is removed, others read as before
name_cleared : (name : List ℕ) (old new : Directory) → AreCleared (name ∷ []) old new → IsWithout name old new
name_cleared name old new cleared = record {
  gone = cleared.gone name (0, omega arith, refl);
  others = λ other differs. cleared.others other (λ has. differs (is_the_name name other has));
}

pub removed : {T E : Type 0} (result : Result T E) (name : List ℕ) (old new : Directory) → OnOk result (AreCleared (name ∷ []) old new)
    → OnOk result (IsWithout name old new)
removed (Ok done) name old new cleared = name_cleared name old new cleared
removed (Err fault) name old new cleared = tt

-- the target is placed after what was left was removed
placed_after : (temp target bytes : List ℕ) (old middle new : Directory) → IsWithout temp old middle → IsPlaced temp target bytes middle new
    → IsPlaced temp target bytes old new
placed_after temp target bytes old middle new cleared placed = record {
  placed = placed.placed;
  no_temp = placed.no_temp;
  durable = placed.durable;
  others = λ name other. placed.others name other ∙ cleared.others name (λ is. other (inl is));
  alone = placed.alone;
}

pub replaced : {T E : Type 0} (result : Result T E) (temp target bytes : List ℕ) (old middle new : Directory) → IsWithout temp old middle
    → OnOk result (IsPlaced temp target bytes middle new) → OnOk result (IsPlaced temp target bytes old new)
replaced (Ok done) temp target bytes old middle new cleared placed = placed_after temp target bytes old middle new cleared placed
replaced (Err fault) temp target bytes old middle new cleared placed = tt

-- what is cleared is placed in part
module _ (temp target bytes : List ℕ) (differ : temp ≢ target) (old middle new : World)
    (clears : ChangesFiles (IsClearing (temp ∷ []) old.now.directory) old middle) where
  -- an image of the start, with nothing removed
  uncleared : (image : Files) → IsImage old.now.directory image → IsClearing (temp ∷ []) old.now.directory image
  uncleared image is = record { alone = left_alone (Contains (temp ∷ [])) old.now.directory image is; less = λ name. inl refl }

  not_temp : (name : List ℕ) → ¬ (IsEither temp target name) → ¬ (Contains (temp ∷ []) name)
  not_temp name neither has = neither (inl (is_the_name temp name has))

  not_target : ¬ (Contains (temp ∷ []) target)
  not_target has = differ (sym (is_the_name temp target has))

  cleared_is_placing : (image : Files) → IsClearing (temp ∷ []) old.now.directory image
      → IsPlacing temp target bytes old.now.directory image
  cleared_is_placing image is = record {
    alone = record { from = is.alone.from; was = is.alone.was; others = λ name other. is.alone.others name (not_temp name other) };
    placed = inl (is.alone.others target not_target);
  }

  placing_since : (image : Files) → IsPlacing temp target bytes middle.now.directory image
      → IsPlacing temp target bytes old.now.directory image
  placing_since image is =
      let from = changes_end (IsClearing (temp ∷ []) old.now.directory) old middle clears uncleared is.alone.from is.alone.was in
      record {
        alone = record {
          from = from.alone.from;
          was = from.alone.was;
          others = λ name other. is.alone.others name other ∙ from.alone.others name (not_temp name other);
        };
        placed = elim is.placed [
          | inl same ↦ inl (same ∙ from.alone.others target not_target)
          | inr put ↦ inr put
        ];
      }

  -- what was left could not be removed
  pub cleared_alone : ChangesFiles (IsPlacing temp target bytes old.now.directory) old middle
  cleared_alone = changes_weaker (IsClearing (temp ∷ []) old.now.directory) (IsPlacing temp target bytes old.now.directory) old middle
      cleared_is_placing clears

  pub placed_since : ChangesFiles (IsPlacing temp target bytes middle.now.directory) middle new
      → ChangesFiles (IsPlacing temp target bytes old.now.directory) old new
  placed_since places =
      changes_on (IsClearing (temp ∷ []) old.now.directory) (IsPlacing temp target bytes middle.now.directory)
      (IsPlacing temp target bytes old.now.directory)
      old middle new cleared_is_placing placing_since clears places
