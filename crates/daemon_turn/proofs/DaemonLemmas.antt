-- A turn of the daemon: a session, and the work within it.
use Rattle.std.proofs.Common.{◌≡◌, ◌++◌, ℕ, ℤ, Bool, true, List, [], append-nil, map, sym, ap, subst, ◌∙◌, refl, arith, inl, inr}
use Rattle.std.specs.Prelude.{Option, Result, Ok, Err, IfErr, IfOk}
use Rattle.std.specs.Fn.{CalledAtMut}
use Rattle.host_calls.specs.declared.child.Child.{Child}
use Rattle.host_calls.specs.declared.child.Ending.{Ending}
use Rattle.host_calls.specs.declared.child.Handed.{Handed}
use Rattle.host_calls.specs.declared.fault.EnterFault.{EnterFault}
use Rattle.host_calls.specs.declared.fault.EnterFault.TheVariants as entry
use Rattle.host_calls.specs.declared.host.Host.{Ghosts}
use Rattle.host_calls.specs.Causes.{Rose}
use Rattle.host_calls.specs.Session.{Enters, IsLeft, Session}
use Rattle.host_calls.specs.World.{World, reading}
use Rattle.host_calls.specs.SessionWork.{Calls, EndsSession, IsWorkUndone}
use Rattle.spool_model.specs.JobTable.{JobTable}
use Rattle.spool_shows.specs.Shown.{shown_by}
use Rattle.whole_file.proofs.OthersLemmas.{changes_none}
use Rattle.step_runs.specs.Attempts.{IsUnbegun}
use Rattle.step_runs.specs.Calls.{ShowsAsBefore}
use Rattle.step_runs.proofs.AttemptLemmas.{recoveries_begin_nothing}
use Rattle.host_calls.specs.declared.store_fault.StoreFault.{StoreFault}
use Rattle.host_calls.specs.declared.store_fault.StoreFault.TheVariants as fault
use Rattle.host_calls.proofs.SessionLemmas.{counts_on}
use Rattle.daemon_turn.specs.declared.kid.Kid.{Kid}
use Rattle.daemon_turn.specs.declared.mode.Mode.{Mode}
use Rattle.daemon_turn.specs.declared.turn_input.TurnInput.{TurnInput}
use Rattle.host_calls.specs.declared.turn_end.TurnEnd.{TurnEnd}
use Rattle.host_calls.specs.declared.turn_end.TurnEnd.TheVariants.{Done, Busy, FileFault, Damaged, Memory}
use Rattle.spool_model.specs.declared.turn_step.TurnStep.{TurnStep}
use Rattle.daemon_turn.specs.Daemons.{DaemonState}
use Rattle.daemon_turn.specs.Kids.{AreKidsByNumber, AreChildren}
use Rattle.daemon_turn.specs.TurnOutcome.{TurnHandsOver, IfNoTableRead, IsTurnIdle, IsNoStepMade, IsTurnStopped, IsTurnDone, DaemonAt, TurnLeaves, TurnsTo}
use Rattle.daemon_turn.specs.StartOrder.{Turn, turn_of}
use Rattle.host_calls.specs.StoreFaults.{IsReadingFault}
use Rattle.host_calls.specs.SessionEnds.{end_after, end_of_session}
use Rattle.daemon_turn.specs.inside.TurnWork.{TurnWorks}
use Rattle.host_calls.proofs.SessionEndLemmas.{is_fault, not_busy}

abbrev stand : Session → World → DaemonState → DaemonAt
stand session world daemon = record { session = session; world = world; daemon = daemon }

-- where nothing changed, no step was begun
unbegun_same : (old new : World) → new ≡ old → IsUnbegun old new
unbegun_same old new same =
    subst (IsUnbegun old) (sym same) (recoveries_begin_nothing old old (changes_none (ShowsAsBefore old.now.directory) old))

idle_same : (before after : Session) (old new : World) (daemon : DaemonState) → new ≡ old
    → IsTurnIdle [] (stand before old daemon) (stand after new daemon)
idle_same before after old new daemon same = record {
  none = record { none = refl; kids = refl };
  unbegun = unbegun_same old new same;
  shown = ap (λ (world : World). shown_by (reading world)) same;
  asked = ap (λ (world : World). world.asked) same;
}

-- a session that could not be entered
module _ (tells alone : Bool) (at : TurnInput) (before after : Session) (old new : World) (daemon : DaemonState) (of : EnterFault)
    (enters : Enters {T = Unit {0}} before after (Err of))
    (same : tells ≡ true → alone ≡ true → new ≡ old) (children : AreChildren before.children daemon.kids)
    (ordered : AreKidsByNumber daemon.kids) where
  not_entered : (end : TurnEnd) → (end ≡ Busy → Rose before.taken after.taken)
      → (end ≡ FileFault → Rose before.file_faults after.file_faults) →
      (tells ≡ true → alone ≡ true → TurnLeaves (turn_of daemon at) [] (stand before old daemon) (stand after new daemon) end)
      → IfNoTableRead end (IsNoStepMade [] daemon daemon) →
      TurnsTo tells alone at (stand before old daemon) (stand after new daemon) end []
  not_entered end busy fault leaves unread = record {
    outside = enters.inside;
    counts = enters.counts;
    kept = ([], enters.children ∙ sym (append-nil before.children));
    children = subst (λ (l : List Child). AreChildren l daemon.kids) (sym enters.children) children;
    ordered = ordered;
    limit = refl;
    interval = refl;
    busy = busy;
    fault = fault;
    unread = unread;
    leaves = leaves;
  }

  pub turn_busy : Rose before.taken after.taken → (end : TurnEnd) (steps : List TurnStep) → end ≡ Busy → steps ≡ []
      → TurnsTo tells alone at (stand before old daemon) (stand after new daemon) end steps
  turn_busy rose end steps is none =
      subst (λ (one : TurnEnd). TurnsTo tells alone at (stand before old daemon) (stand after new daemon) one steps) (sym is)
      (subst (TurnsTo tells alone at (stand before old daemon) (stand after new daemon) Busy) (sym none)
      (not_entered Busy (λ bad. rose) (λ bad. absurd (let impossible : Busy ≡ FileFault = bad in cc))
      (λ known is_alone. (idle_same before after old new daemon (same known is_alone), same known is_alone))
      (record { none = refl; kids = refl })))

  pub turn_failed : Rose before.file_faults after.file_faults → (end : TurnEnd) (steps : List TurnStep) → end ≡ FileFault → steps ≡ []
      → TurnsTo tells alone at (stand before old daemon) (stand after new daemon) end steps
  turn_failed rose end steps is none =
      subst (λ (one : TurnEnd). TurnsTo tells alone at (stand before old daemon) (stand after new daemon) one steps) (sym is)
      (subst (TurnsTo tells alone at (stand before old daemon) (stand after new daemon) FileFault) (sym none)
      (not_entered FileFault (λ bad. absurd (let impossible : FileFault ≡ Busy = bad in cc)) (λ bad. rose)
      (λ known is_alone. inl (idle_same before after old new daemon (same known is_alone))) tt))

  pub turn_wants : (end : TurnEnd) (steps : List TurnStep) → end ≡ Memory → steps ≡ []
      → TurnsTo tells alone at (stand before old daemon) (stand after new daemon) end steps
  turn_wants end steps is none =
      subst (λ (one : TurnEnd). TurnsTo tells alone at (stand before old daemon) (stand after new daemon) one steps) (sym is)
      (subst (TurnsTo tells alone at (stand before old daemon) (stand after new daemon) Memory) (sym none)
      (not_entered Memory (λ bad. absurd (let impossible : Memory ≡ Busy = bad in cc))
      (λ bad. absurd (let impossible : Memory ≡ FileFault = bad in cc))
      (λ known is_alone. inl (idle_same before after old new daemon (same known is_alone))) tt))

-- What is left within the session is left by the turn.
module _ (turn : Turn) (before between worked after : Session) (entered : between.children ≡ before.children)
    (left : after.children ≡ worked.children) (old new : World) (daemon now : DaemonState) where
  gave_at : (table : JobTable) (steps : List TurnStep) (given : List Handed) (answers : List (Option Ending)) →
      TurnHandsOver table steps given answers (stand between old daemon) (stand worked new now)
      → TurnHandsOver table steps given answers (stand before old daemon) (stand after new now)
  gave_at table steps given answers gave = record {
    handed = gave.handed;
    hands = gave.hands;
    prefixes = gave.prefixes;
    asked = gave.asked;
    added = gave.added;
    numbered = gave.numbered;
    children = left ∙ gave.children ∙ ap (λ (l : List Child). l ++ map (λ (kid : Kid). kid.child) gave.added) entered;
    kids = gave.kids;
  }

  whole_at : (steps : List TurnStep) → IsTurnDone turn steps (stand between old daemon) (stand worked new now)
      → IsTurnDone turn steps (stand before old daemon) (stand after new now)
  whole_at steps whole = record {
    table = whole.table;
    given = whole.given;
    answers = whole.answers;
    are = whole.are;
    achieved = whole.achieved;
    gave = gave_at whole.table steps whole.given whole.answers whole.gave;
  }

  stopped_at : (steps : List TurnStep) → IsTurnStopped turn steps (stand between old daemon) (stand worked new now)
      → IsTurnStopped turn steps (stand before old daemon) (stand after new now)
  stopped_at steps stopped = record {
    table = stopped.table;
    given = stopped.given;
    answers = stopped.answers;
    next = stopped.next;
    few = stopped.few;
    first = stopped.first;
    begun = stopped.begun;
    ends = stopped.ends;
    gave = gave_at stopped.table steps stopped.given stopped.answers stopped.gave;
  }

  idle_at : (steps : List TurnStep) → IsTurnIdle steps (stand between old daemon) (stand worked new now)
      → IsTurnIdle steps (stand before old daemon) (stand after new now)
  idle_at steps idle = record { none = idle.none; unbegun = idle.unbegun; shown = idle.shown; asked = idle.asked }

  pub leaves_at : (end : TurnEnd) (steps : List TurnStep) → TurnLeaves turn steps (stand between old daemon) (stand worked new now) end
      → TurnLeaves turn steps (stand before old daemon) (stand after new now) end
  leaves_at Done steps leaves = whole_at steps leaves
  leaves_at Busy steps leaves = (idle_at steps leaves.0, leaves.1)
  leaves_at FileFault steps (inl idle) = inl (idle_at steps idle)
  leaves_at FileFault steps (inr stopped) = inr (stopped_at steps stopped)
  leaves_at (Damaged damage) steps leaves = (idle_at steps leaves.0, leaves.1, leaves.2)
  leaves_at Memory steps (inl idle) = inl (idle_at steps idle)
  leaves_at Memory steps (inr stopped) = inr (stopped_at steps stopped)

-- by what came of the work

module _ (tells alone : Bool) (at : TurnInput) (before between worked after : Session) (old entered stood new : World)
    (daemon now : DaemonState) (limit : now.limit ≡ daemon.limit) (interval : now.interval ≡ daemon.interval)
    (steps : List TurnStep) (result : Result (Unit {0}) StoreFault) (enters : Enters {T = Unit {0}} {E = EnterFault} before between (Ok tt))
    (same : tells ≡ true → alone ≡ true → entered ≡ old)
    (works : TurnWorks tells (turn_of daemon at) (stand between entered daemon) (stand worked stood now) steps result)
    (left : IsLeft worked after) (kept : tells ≡ true → alone ≡ true → new ≡ stood) where
  unread_by : (of : Result (Unit {0}) StoreFault) → TurnWorks tells (turn_of daemon at) (stand between entered daemon)
      (stand worked stood now) steps of → IfNoTableRead (end_after of) (IsNoStepMade steps daemon now)
  unread_by (Ok done) is = tt
  unread_by (Err fault.FileFault) is = tt
  unread_by (Err (fault.Damaged damage)) is = is.unread damage refl
  unread_by (Err fault.Memory) is = tt
  unread_by (Err fault.QueueFull) is = tt
  unread_by (Err fault.NumbersUsedUp) is = tt

  leaves_by : tells ≡ true → alone ≡ true
      → TurnLeaves (turn_of daemon at) steps (stand before old daemon) (stand after new now) (end_after result)
  leaves_by known is_alone =
      subst (λ (world : World). TurnLeaves (turn_of daemon at) steps (stand before world daemon) (stand after new now) (end_after result))
      (same known is_alone)
      (subst (λ (world : World). TurnLeaves (turn_of daemon at) steps (stand before entered daemon) (stand after world now)
      (end_after result)) (sym (kept known is_alone))
      (leaves_at (turn_of daemon at) before between worked after enters.children left.children entered stood daemon now (end_after result)
      steps (works.leaves known)))

  pub turn_worked : (end : TurnEnd) → end ≡ end_after result
      → TurnsTo tells alone at (stand before old daemon) (stand after new now) end steps
  turn_worked end is =
      subst (λ (one : TurnEnd). TurnsTo tells alone at (stand before old daemon) (stand after new now) one steps) (sym is) (record {
        outside = left.outside;
        counts = counts_on before between after enters.counts (counts_on between worked after works.counts left.counts);
        kept = (works.kept.0, left.children ∙ works.kept.1 ∙ ap (λ (l : List Child). l ++ works.kept.0) enters.children);
        children = subst (λ (l : List Child). AreChildren l now.kids) (sym left.children) works.children;
        ordered = works.ordered;
        limit = limit;
        interval = interval;
        busy = λ bad. absurd (not_busy result bad);
        fault = λ bad. omega (arith, enters.counts.file_faults, works.cause.rose (is_fault result bad), left.counts.file_faults);
        unread = unread_by result works;
        leaves = leaves_by;
      })

-- the second as it is written
pub works_at : (tells : Bool) (daemon : DaemonState) (written now : ℤ) (load : Option ℕ) (mode : Mode) (old new : DaemonAt)
    (steps : List TurnStep) (result : Result (Unit {0}) StoreFault) → written ≡ now →
    TurnWorks tells (turn_of daemon (record { now = written; load = load; mode = mode })) old new steps result
    → TurnWorks tells (turn_of daemon (record { now = now; load = load; mode = mode })) old new steps result
works_at tells daemon written now load mode old new steps result same works =
    subst (λ (of : ℤ). TurnWorks tells (turn_of daemon (record { now = of; load = load; mode = mode })) old new steps result) same works

-- What came of the session: it could not begin, or the work was done in it.
module _ {H F : Type 0} (g : Ghosts H) (calls : Calls H F (Result (Unit {0}) StoreFault)) (work left : F) (old new : H) where
  pub reads_of_session : (result : Result (Result (Unit {0}) StoreFault) EnterFault) → EndsSession g calls work left old new result →
      ((first last : H) (done : Result (Unit {0}) StoreFault) → CalledAtMut calls work first done left last → IfErr done IsReadingFault) →
      IfOk result (λ done. IfErr done IsReadingFault)
  reads_of_session (Ok done) ends within = within ends.first ends.last done ends.did
  reads_of_session (Err fault) ends within = tt

  module _ (at : TurnInput) (daemon now : DaemonState) (limit : now.limit ≡ daemon.limit) (interval : now.interval ≡ daemon.interval)
      (children : AreChildren (g.session old).children daemon.kids) (ordered : AreKidsByNumber daemon.kids) (steps : List TurnStep)
      (still : left ≡ work → (now ≡ daemon) × (steps ≡ []))
      (within : (first last : H) (done : Result (Unit {0}) StoreFault) → CalledAtMut calls work first done left last →
      TurnWorks g.tells (turn_of daemon at) (stand (g.session first) (g.world first) daemon)
      (stand (g.session last) (g.world last) now) steps done) where
    abbrev Turned : DaemonState → TurnEnd → Type 0
    Turned is end =
        TurnsTo g.tells g.alone at (stand (g.session old) (g.world old) daemon) (stand (g.session new) (g.world new) is) end steps

    as_it_was : (fault : EnterFault) → IsWorkUndone g work left old new fault → (end : TurnEnd) → Turned daemon end → Turned now end
    as_it_was fault undone end turned = subst (λ (is : DaemonState). Turned is end) (sym (still undone.same).0) turned

    unentered : (fault : EnterFault) → IsWorkUndone g work left old new fault
        → Enters {T = Unit {0}} (g.session old) (g.session new) (Err fault)
    unentered fault undone =
        record { inside = undone.refused.left.outside; children = undone.refused.left.children; counts = undone.refused.left.counts }

    pub turn_of_session : (result : Result (Result (Unit {0}) StoreFault) EnterFault) → EndsSession g calls work left old new result →
        Turned now (end_of_session result)
    turn_of_session (Ok done) ends =
        turn_worked g.tells g.alone at (g.session old) (g.session ends.first) (g.session ends.last) (g.session new)
        (g.world old) (g.world ends.first) (g.world ends.last) (g.world new) daemon now limit interval steps done
        (record { inside = ends.begun.inside; children = ends.begun.children; counts = ends.begun.counts }) ends.begun.quiet.alone
        (within ends.first ends.last done ends.did) ends.over ends.quiet.alone (end_after done) refl
    turn_of_session (Err entry.Taken) ends =
        as_it_was entry.Taken ends Busy
        (turn_busy g.tells g.alone at (g.session old) (g.session new) (g.world old) (g.world new) daemon entry.Taken
        (unentered entry.Taken ends) ends.refused.quiet.alone children ordered (ends.refused.taken refl) Busy steps
        refl (still ends.same).1)
    turn_of_session (Err entry.Failed) ends =
        as_it_was entry.Failed ends FileFault
        (turn_failed g.tells g.alone at (g.session old) (g.session new) (g.world old) (g.world new) daemon entry.Failed
        (unentered entry.Failed ends) ends.refused.quiet.alone children ordered (ends.refused.failed refl) FileFault steps
        refl (still ends.same).1)
    turn_of_session (Err entry.Memory) ends =
        as_it_was entry.Memory ends Memory
        (turn_wants g.tells g.alone at (g.session old) (g.session new) (g.world old) (g.world new) daemon entry.Memory
        (unentered entry.Memory ends) ends.refused.quiet.alone children ordered Memory steps refl (still ends.same).1)
