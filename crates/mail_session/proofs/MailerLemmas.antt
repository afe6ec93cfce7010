-- A session of mail: the work within a session of the host.
use Rattle.std.proofs.Common.{◌≡◌, ◌∙◌, ◌++◌, ℕ, Bool, true, List, [], append-nil, map, refl, sym, ap, subst, inl, inr, arith}
use Rattle.std.specs.Prelude.{Result, Ok, Err, IfErr, IfOk}
use Rattle.std.specs.Fn.{CalledAtMut}
use Rattle.at_words.specs.Numbers.{are_distinct}
use Rattle.host_calls.specs.declared.child.Child.{Child}
use Rattle.host_calls.specs.declared.fault.EnterFault.{EnterFault}
use Rattle.host_calls.specs.declared.fault.EnterFault.TheVariants as entry
use Rattle.host_calls.specs.declared.host.Host.{Ghosts}
use Rattle.host_calls.specs.Causes.{Rose}
use Rattle.host_calls.specs.Session.{Enters, IsLeft, Session}
use Rattle.host_calls.specs.World.{World, reading}
use Rattle.host_calls.specs.SessionWork.{Calls, EndsSession, IsWorkUndone}
use Rattle.host_calls.proofs.SessionLemmas.{counts_on}
use Rattle.spool_shows.specs.Shown.{shown_by}
use Rattle.host_calls.specs.declared.store_fault.StoreFault.{StoreFault}
use Rattle.host_calls.specs.declared.store_fault.StoreFault.TheVariants as fault
use Rattle.host_calls.specs.StoreFaults.{IsReadingFault}
use Rattle.step_runs.specs.Calls.{ShowsAsBefore}
use Rattle.whole_file.proofs.OthersLemmas.{changes_none}
use Rattle.daemon_turn.specs.declared.kid.Kid.{Kid}
use Rattle.host_calls.specs.declared.turn_end.TurnEnd.{TurnEnd}
use Rattle.host_calls.specs.declared.turn_end.TurnEnd.TheVariants.{Busy, Damaged, Done, FileFault, Memory}
use Rattle.daemon_turn.specs.Kids.{AreChildren}
use Rattle.daemon_turn.specs.TurnOutcome.{IfNoTableRead}
use Rattle.host_calls.specs.SessionEnds.{end_after, end_of_session}
use Rattle.host_calls.proofs.SessionEndLemmas.{is_fault, not_busy}
use Rattle.mail_notes.specs.declared.note.Note.{Note}
use Rattle.mail_notes.specs.Hands.{Mailing}
use Rattle.mail_session.specs.SessionOutcome.{SessionHandsOver, IsMailIdle, IsNothingSent, IsMailStopped, IsMailDone, MailLeaves, PostSpool, PostsTo}
use Rattle.mail_session.specs.PostState.{PostState}
use Rattle.mail_session.specs.inside.SessionWork.{MailWorks}
use Rattle.mail_session.proofs.SessionLemmas.{recovery_leaves, recovery_now}

abbrev at : Session → World → PostState → PostSpool
at session world post = record { session = session; world = world; post = post }

idle_same : (before after : Session) (old new : World) (post : PostState) → new ≡ old
    → IsMailIdle [] (at before old post) (at after new post)
idle_same before after old new post same = record {
  none = record { none = refl; kids = refl };
  leaves = recovery_leaves old new unchanged;
  now = recovery_now old new unchanged;
  shown = ap (λ (world : World). shown_by (reading world)) same;
  asked = ap (λ (world : World). world.asked) same;
} where
  unchanged : Rattle.whole_file.specs.Others.ChangesFiles (ShowsAsBefore old.now.directory) old new
  unchanged = subst (Rattle.whole_file.specs.Others.ChangesFiles (ShowsAsBefore old.now.directory) old) (sym same)
      (changes_none (ShowsAsBefore old.now.directory) old)

-- a session that could not be entered
module _ (tells alone : Bool) (before after : Session) (old new : World) (post : PostState) (of : EnterFault)
    (enters : Enters {T = Unit {0}} before after (Err of))
    (same : tells ≡ true → alone ≡ true → new ≡ old) (children : AreChildren before.children post.kids) where
  not_entered : (end : TurnEnd) → (end ≡ Busy → Rose before.taken after.taken)
      → (end ≡ FileFault → Rose before.file_faults after.file_faults) →
      (tells ≡ true → alone ≡ true → MailLeaves [] (at before old post) (at after new post) end)
      → IfNoTableRead end (IsNothingSent [] post post) → (sent : List ℕ) → sent ≡ [] →
      PostsTo tells alone (at before old post) (at after new post) end sent
  not_entered end busy failed leaves unread sent none =
      subst (PostsTo tells alone (at before old post) (at after new post) end) (sym none) (record {
        outside = enters.inside;
        counts = enters.counts;
        kept = ([], enters.children ∙ sym (append-nil before.children));
        children = subst (λ (l : List Child). AreChildren l post.kids) (sym enters.children) children;
        program = refl;
        busy = busy;
        fault = failed;
        unread = unread;
        leaves = leaves;
      })

  pub post_busy : Rose before.taken after.taken → (sent : List ℕ) → sent ≡ []
      → PostsTo tells alone (at before old post) (at after new post) Busy sent
  post_busy rose = not_entered Busy (λ bad. rose) (λ bad. absurd (let impossible : Busy ≡ FileFault = bad in cc))
      (λ known is_alone. (idle_same before after old new post (same known is_alone), same known is_alone))
      (record { none = refl; kids = refl })

  pub post_failed : Rose before.file_faults after.file_faults → (sent : List ℕ) → sent ≡ []
      → PostsTo tells alone (at before old post) (at after new post) FileFault sent
  post_failed rose = not_entered FileFault (λ bad. absurd (let impossible : FileFault ≡ Busy = bad in cc)) (λ bad. rose)
      (λ known is_alone. inl (idle_same before after old new post (same known is_alone))) tt

  pub post_wants : (sent : List ℕ) → sent ≡ [] → PostsTo tells alone (at before old post) (at after new post) Memory sent
  post_wants = not_entered Memory (λ bad. absurd (let impossible : Memory ≡ Busy = bad in cc))
      (λ bad. absurd (let impossible : Memory ≡ FileFault = bad in cc))
      (λ known is_alone. inl (idle_same before after old new post (same known is_alone))) tt

-- What is left within the session is left by it.
module _ (before between worked after : Session) (entered : between.children ≡ before.children) (left : after.children ≡ worked.children)
    (old new : World) (post now : PostState) (sent : List ℕ) where
  gave_at : (made : List Note) (given : List Rattle.host_calls.specs.declared.child.Handed.Handed)
      (answers : List (Rattle.std.specs.Prelude.Option Rattle.host_calls.specs.declared.child.Ending.Ending)) (of : Mailing) →
      SessionHandsOver made given answers of sent (at between old post) (at worked new now)
      → SessionHandsOver made given answers of sent (at before old post) (at after new now)
  gave_at made given answers of gave = record {
    handed = gave.handed;
    hands = gave.hands;
    sent_are = gave.sent_are;
    asked = gave.asked;
    added = gave.added;
    numbered = gave.numbered;
    children = left ∙ gave.children ∙ ap (λ (l : List Child). l ++ map (λ (kid : Kid). kid.child) gave.added) entered;
    kids = gave.kids;
  }

  whole_at : IsMailDone sent (at between old post) (at worked new now) → IsMailDone sent (at before old post) (at after new now)
  whole_at whole = record {
    table = whole.table;
    notes = whole.notes;
    steps = whole.steps;
    read = whole.read;
    given = whole.given;
    answers = whole.answers;
    posted = whole.posted;
    stand = whole.stand;
    each_asked = whole.each_asked;
    gave = gave_at whole.steps whole.given whole.answers _ whole.gave;
    notices = whole.notices;
    others = whole.others;
  }

  stopped_at : IsMailStopped sent (at between old post) (at worked new now) → IsMailStopped sent (at before old post) (at after new now)
  stopped_at stopped = record {
    table = stopped.table;
    notes = stopped.notes;
    steps = stopped.steps;
    read = stopped.read;
    made = stopped.made;
    next = stopped.next;
    first = stopped.first;
    given = stopped.given;
    answers = stopped.answers;
    posted = stopped.posted;
    some_asked = stopped.some_asked;
    gave = gave_at stopped.made stopped.given stopped.answers _ stopped.gave;
  }

  idle_at : IsMailIdle sent (at between old post) (at worked new now) → IsMailIdle sent (at before old post) (at after new now)
  idle_at idle = record { none = idle.none; leaves = idle.leaves; now = idle.now; shown = idle.shown; asked = idle.asked }

  pub leaves_at : (end : TurnEnd) → MailLeaves sent (at between old post) (at worked new now) end
      → MailLeaves sent (at before old post) (at after new now) end
  leaves_at Done leaves = whole_at leaves
  leaves_at Busy leaves = (idle_at leaves.0, leaves.1)
  leaves_at FileFault (inl idle) = inl (idle_at idle)
  leaves_at FileFault (inr stopped) = inr (stopped_at stopped)
  leaves_at (Damaged damage) leaves = (idle_at leaves.0, leaves.1, leaves.2)
  leaves_at Memory (inl idle) = inl (idle_at idle)
  leaves_at Memory (inr stopped) = inr (stopped_at stopped)

-- By what came of the work.
module _ (tells alone : Bool) (before between worked after : Session) (old entered stood new : World) (post now : PostState)
    (program : now.program ≡ post.program) (sent : List ℕ)
    (result : Result (Unit {0}) StoreFault) (enters : Enters {T = Unit {0}} {E = EnterFault} before between (Ok tt)) (same : tells ≡ true
    → alone ≡ true → entered ≡ old)
    (works : MailWorks tells (at between entered post) (at worked stood now) sent result) (left : IsLeft worked after) (kept : tells ≡ true
    → alone ≡ true → new ≡ stood) where
  unread_by : (of : Result (Unit {0}) StoreFault) → MailWorks tells (at between entered post) (at worked stood now) sent of
      → IfNoTableRead (end_after of) (IsNothingSent sent post now)
  unread_by (Ok done) is = tt
  unread_by (Err fault.FileFault) is = tt
  unread_by (Err (fault.Damaged damage)) is = is.unread damage refl
  unread_by (Err fault.Memory) is = tt
  unread_by (Err fault.QueueFull) is = tt
  unread_by (Err fault.NumbersUsedUp) is = tt

  leaves_by : tells ≡ true → alone ≡ true → MailLeaves sent (at before old post) (at after new now) (end_after result)
  leaves_by known is_alone =
      subst (λ (world : World). MailLeaves sent (at before world post) (at after new now) (end_after result)) (same known is_alone)
      (subst (λ (world : World). MailLeaves sent (at before entered post) (at after world now) (end_after result))
      (sym (kept known is_alone))
      (leaves_at before between worked after enters.children left.children entered stood post now sent
      (end_after result) (works.leaves known)))

  pub post_worked : PostsTo tells alone (at before old post) (at after new now) (end_after result) sent
  post_worked = record {
    outside = left.outside;
    counts = counts_on before between after enters.counts (counts_on between worked after works.counts left.counts);
    kept = (works.kept.0, left.children ∙ works.kept.1 ∙ ap (λ (l : List Child). l ++ works.kept.0) enters.children);
    children = subst (λ (l : List Child). AreChildren l now.kids) (sym left.children) works.children;
    program = program;
    busy = λ bad. absurd (not_busy result bad);
    fault = λ bad. omega (arith, enters.counts.file_faults, works.cause.rose (is_fault result bad), left.counts.file_faults);
    unread = unread_by result works;
    leaves = leaves_by;
  }

-- What came of the session: it could not begin, or the work was done in it.
module _ {H F : Type 0} (g : Ghosts H) (calls : Calls H F (Result (Unit {0}) StoreFault)) (work left : F) (old new : H) where
  pub reads_of_session : (result : Result (Result (Unit {0}) StoreFault) EnterFault) → EndsSession g calls work left old new result →
      ((first last : H) (done : Result (Unit {0}) StoreFault) → CalledAtMut calls work first done left last → IfErr done IsReadingFault) →
      IfOk result (λ done. IfErr done IsReadingFault)
  reads_of_session (Ok done) ends within = within ends.first ends.last done ends.did
  reads_of_session (Err fault) ends within = tt

  module _ (post now : PostState) (program : now.program ≡ post.program)
      (children : AreChildren (g.session old).children post.kids) (sent : List ℕ)
      (still : left ≡ work → (now ≡ post) × (sent ≡ []))
      (within : (first last : H) (done : Result (Unit {0}) StoreFault) → CalledAtMut calls work first done left last →
      MailWorks g.tells (at (g.session first) (g.world first) post) (at (g.session last) (g.world last) now) sent done) where
    pub distinct_of_session : (result : Result (Result (Unit {0}) StoreFault) EnterFault) → EndsSession g calls work left old new result
        → are_distinct sent ≡ true
    distinct_of_session (Ok done) ends = (within ends.first ends.last done ends.did).distinct
    distinct_of_session (Err fault) ends = ap are_distinct (still ends.same).1

    abbrev Posted : PostState → TurnEnd → Type 0
    Posted is end = PostsTo g.tells g.alone (at (g.session old) (g.world old) post) (at (g.session new) (g.world new) is) end sent

    as_it_was : (fault : EnterFault) → IsWorkUndone g work left old new fault → (end : TurnEnd) → Posted post end → Posted now end
    as_it_was fault undone end posted = subst (λ (is : PostState). Posted is end) (sym (still undone.same).0) posted

    unentered : (fault : EnterFault) → IsWorkUndone g work left old new fault
        → Enters {T = Unit {0}} (g.session old) (g.session new) (Err fault)
    unentered fault undone =
        record { inside = undone.refused.left.outside; children = undone.refused.left.children; counts = undone.refused.left.counts }

    pub post_of_session : (result : Result (Result (Unit {0}) StoreFault) EnterFault) → EndsSession g calls work left old new result
        → Posted now (end_of_session result)
    post_of_session (Ok done) ends =
        post_worked g.tells g.alone (g.session old) (g.session ends.first) (g.session ends.last) (g.session new)
        (g.world old) (g.world ends.first) (g.world ends.last) (g.world new) post now program sent done
        (record { inside = ends.begun.inside; children = ends.begun.children; counts = ends.begun.counts }) ends.begun.quiet.alone
        (within ends.first ends.last done ends.did) ends.over ends.quiet.alone
    post_of_session (Err entry.Taken) ends =
        as_it_was entry.Taken ends Busy
        (post_busy g.tells g.alone (g.session old) (g.session new) (g.world old) (g.world new) post entry.Taken
        (unentered entry.Taken ends) ends.refused.quiet.alone children (ends.refused.taken refl) sent (still ends.same).1)
    post_of_session (Err entry.Failed) ends =
        as_it_was entry.Failed ends FileFault
        (post_failed g.tells g.alone (g.session old) (g.session new) (g.world old) (g.world new) post entry.Failed
        (unentered entry.Failed ends) ends.refused.quiet.alone children (ends.refused.failed refl) sent (still ends.same).1)
    post_of_session (Err entry.Memory) ends =
        as_it_was entry.Memory ends Memory
        (post_wants g.tells g.alone (g.session old) (g.session new) (g.world old) (g.world new) post entry.Memory
        (unentered entry.Memory ends) ends.refused.quiet.alone children sent (still ends.same).1)
