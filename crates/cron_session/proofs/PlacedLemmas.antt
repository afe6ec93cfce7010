-- The mark of a minute, as it is placed under the names that are given.
use Rattle.std.proofs.Common.{◌≡◌, ℕ, List, [], subst}
use Rattle.std.specs.Prelude.{OnOk, Result}
use Rattle.host_calls.specs.Directory.{Directory}
use Rattle.host_calls.specs.World.{World}
use Rattle.whole_file.specs.Others.{ChangesFiles}
use Rattle.whole_file.specs.Placement.{IsPlaced, IsPlacing}
use Rattle.cron_session.specs.Mark.{cron_mark_text}
use Rattle.cron_session.specs.MarkNames.{mark_file, mark_temp}

module _ (temp target bytes : List ℕ) (minute : ℕ) (temp_is : temp ≡ mark_temp) (target_is : target ≡ mark_file)
    (bytes_are : bytes ≡ cron_mark_text minute) where
  pub placing_named : (old new : World) → ChangesFiles (IsPlacing temp target bytes old.now.directory) old new
      → ChangesFiles (IsPlacing mark_temp mark_file (cron_mark_text minute) old.now.directory) old new
  placing_named old new places =
      subst (λ (one : List ℕ). ChangesFiles (IsPlacing mark_temp mark_file one old.now.directory) old new) bytes_are
      (subst (λ (one : List ℕ). ChangesFiles (IsPlacing mark_temp one bytes old.now.directory) old new) target_is
      (subst (λ (one : List ℕ). ChangesFiles (IsPlacing one target bytes old.now.directory) old new) temp_is places))

  pub placed_named : {T E : Type 0} (result : Result T E) (old new : Directory) → OnOk result (IsPlaced temp target bytes old new)
      → OnOk result (IsPlaced mark_temp mark_file (cron_mark_text minute) old new)
  placed_named result old new placed =
      subst (λ (one : List ℕ). OnOk result (IsPlaced mark_temp mark_file one old new)) bytes_are
      (subst (λ (one : List ℕ). OnOk result (IsPlaced mark_temp one bytes old new)) target_is
      (subst (λ (one : List ℕ). OnOk result (IsPlaced one target bytes old new)) temp_is placed))
