-- The work of a turn within its session (own).
use Rattle.std.specs.Prelude.{◌≡◌, Bool, true, List, Option, Result, Ok, Err, IfErr}
use Rattle.host_calls.specs.declared.child.Ending.{Ending}
use Rattle.host_calls.specs.Causes.{HasCause}
use Rattle.host_calls.specs.Damages.{IfDamaged}
use Rattle.host_calls.specs.Session.{IsInside, KeepsCounts, Session}
use Rattle.host_calls.specs.World.{World}
use Rattle.step_runs.specs.Current.{Kept}
use Rattle.host_calls.specs.declared.store_fault.StoreFault.{StoreFault}
use Rattle.host_calls.specs.declared.store_fault.StoreFault.TheVariants as fault
use Rattle.host_calls.specs.StoreFaults.{IsReadingFault}
use Rattle.daemon_turn.specs.declared.kid.Kid.{Kid}
use Rattle.spool_model.specs.declared.turn_step.TurnStep.{TurnStep}
use Rattle.host_calls.specs.SessionEnds.{end_after}
use Rattle.daemon_turn.specs.Decisions.{asked_kids, questions}
use Rattle.daemon_turn.specs.Kids.{AreKidsByNumber, AreChildren, AreKidsAfter, KeepsChildren}
use Rattle.daemon_turn.specs.TurnOutcome.{IsNoStepMade, DaemonAt, TurnLeaves}
use Rattle.daemon_turn.specs.StartOrder.{Turn}
use Rattle.daemon_turn.specs.inside.TurnParts.{MakesPart, TurnPart}
use Rattle.daemon_turn.specs.inside.Turned.{AreStepsBy}

-- an answer without what is kept
abbrev pub unit_of : Result Kept StoreFault → Result (Unit {0}) StoreFault
unit_of (Ok kept) = Ok tt
unit_of (Err fault) = Err fault

-- The steps of the turn were made on what is kept, or the first of them. The children are those after them, by
-- number.
pub record TurnsOn (tells : Bool) (before after : Session) (old new : World) (kept : Kept) (turn : Turn) (left : List Kid)
    (report : List TurnStep) (result : Result (Unit {0}) StoreFault) : Type 0 where
  pub outcome : Result Kept StoreFault
  pub same : result ≡ unit_of outcome
  pub part : TurnPart
  pub goes : MakesPart tells before after old new kept part outcome
  pub answers : List (Option Ending)
  pub are : AreStepsBy turn kept.table answers part outcome
  pub asked : part.questions ≡ questions (asked_kids kept.table turn.kids) answers
  pub written : report ≡ part.steps
  pub kids : AreKidsAfter kept.table part.steps turn.kids part.added left
  pub children : AreChildren after.children left

-- The work of a turn: a recovery, and the steps.
pub record TurnWorks (tells : Bool) (turn : Turn) (old new : DaemonAt) (steps : List TurnStep)
    (result : Result (Unit {0}) StoreFault) : Type 0 where
  pub inside : IsInside new.session
  pub counts : KeepsCounts old.session new.session
  pub kept : KeepsChildren old.session.children new.session.children
  pub cause : HasCause fault.FileFault old.session.file_faults new.session.file_faults result
  pub faults : IfErr result IsReadingFault
  pub children : AreChildren new.session.children new.daemon.kids
  pub ordered : AreKidsByNumber new.daemon.kids
  pub unread : IfDamaged fault.Damaged (λ damage. IsNoStepMade steps old.daemon new.daemon) result
  pub leaves : tells ≡ true → TurnLeaves turn steps old new (end_after result)
