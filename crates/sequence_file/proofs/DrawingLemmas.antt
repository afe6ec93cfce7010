-- What a crash leaves while a number is drawn.
use Rattle.std.proofs.Common.{◌≡◌, ◌+◌, ℕ, true, List, sym, subst, inl, inr}
use Rattle.host_calls.specs.Directory.{Files, Directory}
use Rattle.host_calls.specs.World.{World}
use Rattle.host_calls.proofs.WorldLemmas.{leaves_weaker}
use Rattle.whole_file.specs.Others.{ChangesFiles}
use Rattle.whole_file.specs.Placement.{IsPlacing}
use Rattle.sequence_file.specs.Draw.{EachGivesNumber, IsDrawing}
use Rattle.sequence_file.specs.Sequence.{GivesNumber, SpellsIn, sequence_file}
use Rattle.whole_file.specs.Temporary.{temporary_file}

-- while the file of the next number is placed, an image gives the last number or the next one
placing_drawing : (last : ℕ) (text : List ℕ) (start : Directory) (image : Files) → SpellsIn true text (last + 1)
    → EachGivesNumber last start → IsPlacing temporary_file sequence_file text start image → IsDrawing last start image
placing_drawing last text start image spelled gives placing = record {
  alone = placing.alone;
  gives = elim placing.placed [
    | inl same ↦ inl (subst (λ content. GivesNumber content last) (sym same) (gives placing.alone.from placing.alone.was))
    | inr new ↦ inr (subst (λ content. GivesNumber content (last + 1)) (sym new) (true, spelled))
  ];
}

-- the call that places it
pub drawing : (last : ℕ) (temp target text : List ℕ) (old new : World) → temp ≡ temporary_file
    → target ≡ sequence_file → SpellsIn true text (last + 1) → EachGivesNumber last old.now.directory
    → ChangesFiles (IsPlacing temp target text old.now.directory) old new → ChangesFiles (IsDrawing last old.now.directory) old new
drawing last temp target text old new is_temp is_target spelled gives changes =
    let start : Directory = old.now.directory in
    let named : (image : Files) → IsPlacing temp target text start image → IsPlacing temporary_file sequence_file text start image =
    λ image placing. subst (λ name. IsPlacing temporary_file name text start image) is_target
    (subst (λ name. IsPlacing name target text start image) is_temp placing) in
    record {
      handed = changes.handed;
      asked = changes.asked;
      leaves = leaves_weaker _ _ old new
          (λ image handed is. (placing_drawing last text start image spelled gives (named image is.0), is.1)) changes.leaves;
    }
