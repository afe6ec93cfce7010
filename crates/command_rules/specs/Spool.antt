-- What a command leaves in the spool, by its cause.
use Rattle.std.specs.Prelude.{◌≡◌, List, MatchBool, Err}
use Rattle.host_calls.specs.declared.damage.Damage.{Damage}
use Rattle.host_calls.specs.World.{World, reading}
use Rattle.step_runs.specs.Attempts.{Achieves, Attempts, IsUnbegun}
use Rattle.listing_text.specs.declared.cause.Cause.{Cause}
use Rattle.listing_text.specs.declared.cause.Cause.TheVariants.{Done, Refused, FileFault, InputFault, OutputFault, Busy, Memory, Damaged}
use Rattle.listing_text.specs.declared.refusal.Refusal.{Refusal}
use Rattle.spool_model.specs.declared.step.Step.{Step}
use Rattle.spool_model.specs.JobTable.{JobTable}
use Rattle.spool_shows.specs.Shown.{shown_by}
use Rattle.command_rules.specs.Checks.{check_of, is_earlier_check, of_spool}
use Rattle.command_rules.specs.Requested.{AreNoSteps, OrNone}

-- the directory shows the damage, and reads as before
pub record FindsDamage (old new : World) (damage : Damage) : Type 0 where
  pub shown : shown_by (reading old) ≡ Err damage
  pub unbegun : IsUnbegun old new
  pub same : reading new ≡ reading old

-- What is left after a refusal: the spool as it was, or, where it rests on the table, the shown table without a step.
abbrev pub RefusalLeaves : Refusal → World → World → Type 0
RefusalLeaves refusal old new = MatchBool (is_earlier_check of_spool (check_of refusal)) (Achieves AreNoSteps old new) (new ≡ old)

-- What is left by the cause: all steps where the command is done, or only its output failed; a prefix of them where it
-- failed on the way; none where it was refused or the directory is damaged, which then reads as before.
abbrev pub SpoolEnds : (JobTable → List Step → Type 0) → World → World → Cause → Type 0
SpoolEnds AreSteps old new Done = Achieves AreSteps old new
SpoolEnds AreSteps old new OutputFault = Achieves AreSteps old new
SpoolEnds AreSteps old new FileFault = Attempts (OrNone AreSteps) old new
SpoolEnds AreSteps old new Memory = Attempts (OrNone AreSteps) old new
SpoolEnds AreSteps old new (Damaged damage) = FindsDamage old new damage
SpoolEnds AreSteps old new (Refused refusal) = RefusalLeaves refusal old new
SpoolEnds AreSteps old new InputFault = new ≡ old
SpoolEnds AreSteps old new Busy = new ≡ old
SpoolEnds AreSteps old new _ = ⊥
