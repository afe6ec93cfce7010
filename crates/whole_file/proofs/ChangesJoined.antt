-- How calls that only change files join.
use Rattle.std.proofs.Common.{◌≡◌, ℕ, List, refl, ◌∙◌}
use Rattle.std.specs.Prelude.{Contains}
use Rattle.host_calls.specs.Directory.{Files, Directory, IsImage}
use Rattle.host_calls.specs.World.{World}
use Rattle.host_calls.proofs.WorldLemmas.{at_end, leaves_then, leaves_weaker}
use Rattle.whole_file.specs.Removal.{IsClearing}
use Rattle.whole_file.specs.Others.{ChangesFiles, LeavesOthers}

-- an image of the start has its own files
abbrev pub left_alone : (may_change : List ℕ → Type 0) (start : Directory) (image : Files) → IsImage start image
    → LeavesOthers may_change start image
left_alone may_change start image is = record { from = image; was = is; others = λ name other. refl }

-- one call after another, where what a crash in each leaves has the property
pub changes_on : (P Q R : Files → Type 0) (first second third : World) → ((image : Files) → P image → R image)
    → ((image : Files) → Q image → R image) → ChangesFiles P first second → ChangesFiles Q second third → ChangesFiles R first third
changes_on P Q R first second third of_first of_second before after = record {
  handed = after.handed ∙ before.handed;
  asked = after.asked ∙ before.asked;
  leaves = leaves_then _ first second third
      (leaves_weaker _ _ first second (λ image handed is. (of_first image is.0, is.1)) before.leaves)
      (leaves_weaker _ _ second third (λ image handed is. (of_second image is.0, is.1 ∙ before.handed)) after.leaves);
}

-- a call after another, where what the later one leaves has the property of the earlier one
pub changes_join : (P Q : Files → Type 0) (first second third : World) → ChangesFiles P first second → ChangesFiles Q second third
    → ((image : Files) → Q image → P image) → ChangesFiles P first third
changes_join P Q first second third before after weaker = changes_on P Q P first second third (λ image is. is) weaker before after

-- a call leaves what has a weaker property too
pub changes_weaker : (P Q : Files → Type 0) (old new : World) → ((image : Files) → P image → Q image) → ChangesFiles P old new
    → ChangesFiles Q old new
changes_weaker P Q old new weaker changes = record {
  handed = changes.handed;
  asked = changes.asked;
  leaves = leaves_weaker _ _ old new (λ image handed is. (weaker image is.0, is.1)) changes.leaves;
}

-- the images of a call's end have the property, where those of its start have it
pub changes_end : (P : Files → Type 0) (old new : World) → ChangesFiles P old new
    → ((image : Files) → IsImage old.now.directory image → P image) → (image : Files) → IsImage new.now.directory image → P image
changes_end P old new changes start image is =
    (at_end (λ files handed. P files × (handed ≡ old.now.handed)) old new changes.leaves (λ files was. (start files was, refl)) image is).0

-- files that are removed leave the others alone
pub clears_alone : (names : List (List ℕ)) (start : Directory) (old new : World) → ChangesFiles (IsClearing names start) old new
    → ChangesFiles (LeavesOthers (Contains names) start) old new
clears_alone names start old new changes = changes_weaker _ _ old new (λ image is. is.alone) changes
