-- A session after its recovery: files that are left over are removed, and the steps are made.
use Rattle.std.proofs.Common.{◌≡◌, ◌≢◌, ◌∙◌, ◌++◌, ℕ, Bool, true, false, List, [], append_assoc, append-nil, map, refl, sym, ap, subst, inl, inr, arith}
use Rattle.std.specs.Prelude.{Contains, IfOk, IsErrAnd, IsSome, Option, None, Some, Result, Ok, Err, not}
use Rattle.std.specs.FinMap as finite
use Rattle.host_calls.specs.declared.child.Asked.{Asked}
use Rattle.host_calls.specs.declared.child.Child.{Child}
use Rattle.host_calls.specs.declared.child.Ending.{Ending}
use Rattle.host_calls.specs.declared.child.Handed.{Handed}
use Rattle.host_calls.specs.declared.fault.HostFault.{HostFault}
use Rattle.host_calls.specs.declared.fault.HostFault.TheVariants.{Failed}
use Rattle.host_calls.specs.Directory.{IsInNoImage}
use Rattle.host_calls.specs.Session.{CallsInside, Session}
use Rattle.host_calls.specs.World.{Moment, World, moments, reading}
use Rattle.host_calls.proofs.DirectoryLemmas.{reading_is_image}
use Rattle.host_calls.proofs.SessionLemmas.{counts_on}
use Rattle.spool_shows.proofs.Membership.{has_contained}
use Rattle.spool_model.specs.JobTable.{JobTable}
use Rattle.whole_file.specs.Removal.{AreCleared, AreFiles, IsClearing}
use Rattle.whole_file.specs.Others.{ChangesFiles}
use Rattle.whole_file.proofs.ChangesJoined.{changes_end, left_alone}
use Rattle.daemon_turn.specs.declared.kid.Kid.{Kid}
use Rattle.daemon_turn.specs.Decisions.{has_kid, questions}
use Rattle.daemon_turn.proofs.AskLemmas.{questions_of_none}
use Rattle.mail_notes.specs.declared.note.Note.{Note}
use Rattle.mail_notes.specs.Hands.{Mailing}
use Rattle.mail_notes.specs.Lines.{Fits}
use Rattle.mail_notes.specs.Names.{IsMailName, mail_file, mail_temp, notice_file}
use Rattle.mail_notes.specs.Runs.{AreNotesMade, AreNotesStopped}
use Rattle.mail_session.specs.declared.plan.MailPlan.{MailPlan}
use Rattle.mail_session.specs.Dues.{sent_numbers}
use Rattle.mail_session.specs.NoticeFiles.{ReadsBeside}
use Rattle.mail_session.specs.DueNotices.{MailPart}
use Rattle.mail_session.specs.Sessions.{IsCleared, AreNotesOpened}
use Rattle.mail_session.specs.inside.SessionWork.{RunsPlan, CarriesTo, GivesAsked, GoesFurther, Makes, MayRunPlan, ReadsNotices, steps_by}
use Rattle.mail_session.proofs.AskingLemmas.{after_none}
use Rattle.mail_session.proofs.NotingLemmas.{notice_apart}
use Rattle.mail_session.proofs.ReadLemmas.{notes_are_no_notice}
use Rattle.mail_session.proofs.SessionLemmas.{clearing_posts, leftovers_are_cleared, sessions_post, stopped_sessions_post}
use Rattle.mail_session.proofs.StaleLemmas.{notice_is_stale, stale_among, stale_are_files, stale_of_mail, stale_there, temp_among}

abbrev nothing : MailPart
nothing = record { made = []; next = []; added = [] }

-- the files that are left over may be removed
pub may_clear : (opened : World) (kids : List Kid) (plan : MailPlan) → MayRunPlan opened kids plan
    → AreFiles plan.stale.items (reading opened)
may_clear opened kids plan may =
    subst (λ (names : List (List ℕ)). AreFiles names (reading opened)) (sym may.stale) (stale_are_files kids (reading opened))

module _ (tells : Bool) (before between : Session) (old cleared : World) (plan : MailPlan) (kids : List Kid) (sent : List ℕ)
    (may : tells ≡ true → MayRunPlan old kids plan)
    (changes : tells ≡ true → ChangesFiles (IsClearing plan.stale.items old.now.directory) old cleared) where
  of_mail : (known : tells ≡ true) → (name : List ℕ) → Contains plan.stale.items name → IsMailName name × (name ≢ mail_file)
  of_mail known name among =
      stale_of_mail kids (reading old) name (subst (λ (names : List (List ℕ)). Contains names name) (may known).stale among)

  temp : (known : tells ≡ true) → IsSome (finite.get (reading old) mail_temp) → Contains plan.stale.items mail_temp
  temp known some = subst (λ (names : List (List ℕ)). Contains names mail_temp) (sym (may known).stale) (temp_among kids (reading old) some)

  -- a file could not be removed
  pub clear_stops : (program : List ℕ) (fault : HostFault) (result : Result (Unit {0}) HostFault) → IsErrAnd result (λ other. other ≡ fault)
      → CallsInside {T = Unit {0}} Failed before between (Err fault) →
      RunsPlan program tells before between old cleared plan kids kids sent sent result
  clear_stops program fault (Ok done) is inside = absurd is
  clear_stops program fault (Err other) is inside =
      subst (λ (one : HostFault). RunsPlan program tells before between old cleared plan kids kids sent sent (Err one)) (sym is) (record {
        part = nothing;
        answers = [];
        goes = record {
          inside = inside.stays.inside;
          counts = inside.stays.counts;
          cause = inside.cause;
          children = inside.stays.children ∙ sym (append-nil before.children);
          few = omega arith;
          prefix = (steps_by plan, refl);
          all = tt;
          kids_are = sym (append-nil _ ∙ after_none kids);
          sent_are = sym (append-nil sent);
        };
        files = λ known of notes table start same is_opened text_is due. record {
          given = [];
          numbered = refl;
          posted = clearing_posts of notes [] table plan.stale.items start old cleared is_opened (of_mail known) (changes known);
          handed = (changes known).handed ∙ sym (append-nil old.now.handed);
          hands = refl;
          asked_are = (changes known).asked ∙ sym (ap (λ (l : List Asked). old.asked ++ l) (questions_of_none kids) ∙ append-nil old.asked);
          ready = tt;
          alone = tt;
          further = record { more = (changes known).leaves.more; run = (changes known).leaves.run };
          reads = tt;
        };
      })

  module _ (inside : CallsInside {T = Unit {0}} Failed before between (Ok tt))
      (gone : tells ≡ true → plan.stale.items ≢ [] → AreCleared plan.stale.items old.now.directory cleared.now.directory) where
    pub is_cleared : (known : tells ≡ true) (notes : List Note) (table : JobTable) (start : World) → AreNotesOpened notes table start old
        → IsCleared notes table start cleared
    is_cleared known notes table start is_opened =
        leftovers_are_cleared notes table plan.stale.items start old cleared is_opened (of_mail known) (temp known)
        (changes known) (gone known)

    -- nothing is in the way of the steps
    pub no_temp_left : tells ≡ true → IsInNoImage cleared.now.directory mail_temp
    no_temp_left known = (is_cleared known (may known).notes (may known).table (may known).start (may known).is_opened).ready.no_temp

    clearing_of : (known : tells ≡ true) → IsClearing plan.stale.items old.now.directory (reading cleared)
    clearing_of known = changes_end (IsClearing plan.stale.items old.now.directory) old cleared (changes known)
        (λ one was. record { alone = left_alone (Contains plan.stale.items) old.now.directory one was; less = λ name. inl refl })
        (reading cleared) (reading_is_image cleared.now.directory)

    -- a notice of a child stays
    notice_kept : (known : tells ≡ true) (notes : List Note) (table : JobTable) (start : World) → AreNotesOpened notes table start old
        → (number : ℕ) → Fits number → has_kid kids number ≡ true →
        finite.get (reading cleared) (notice_file number) ≡ finite.get (reading old) (notice_file number)
    notice_kept known notes table start is number fits has =
        let clearing = clearing_of known in
        clearing.alone.others (notice_file number) (λ among. never (sym (stale_there kids (reading old) (notice_file number)
        (subst (λ (names : List (List ℕ)). Contains names (notice_file number)) (may known).stale among)).1
        ∙ notice_is_stale kids number fits ∙ ap not has))
        ∙ is.durable clearing.alone.from clearing.alone.was (notice_file number) (inr (inr (number, refl))) where
          never : true ≡ false → ⊥
          never bad = cc

    -- and one that belongs to none is gone
    notice_gone : (known : tells ≡ true) (notes : List Note) (table : JobTable) (start : World) → AreNotesOpened notes table start old
        → (number : ℕ) → Fits number → has_kid kids number ≡ false →
        (held : Option (List ℕ)) → finite.get (reading old) (notice_file number) ≡ held
        → finite.get (reading cleared) (notice_file number) ≡ None
    notice_gone known notes table start is number fits lacks None none =
        let clearing = clearing_of known in
        elim (clearing.less (notice_file number)) [
          | inl same ↦ same ∙ is.durable clearing.alone.from clearing.alone.was (notice_file number) (inr (inr (number, refl))) ∙ none
          | inr gone_now ↦ gone_now
        ]
    notice_gone known notes table start is number fits lacks (Some bytes) there =
        let among : Contains plan.stale.items (notice_file number) =
        subst (λ (names : List (List ℕ)). Contains names (notice_file number)) (sym (may known).stale)
        (stale_among kids (reading old) (notice_file number) (subst IsSome (sym there) refl)
        (notice_is_stale kids number fits ∙ ap not lacks)) in
        (gone known (λ none.
        has_contained [] (notice_file number) (subst (λ (names : List (List ℕ)). Contains names (notice_file number)) none among))).gone
        (notice_file number) among (reading cleared) (reading_is_image cleared.now.directory)

    reads_notices : (known : tells ≡ true) (notes : List Note) (table : JobTable) (start : World) → AreNotesOpened notes table start old
        → (numbers : List ℕ) (new : World) →
        ReadsBeside numbers cleared new → ReadsNotices kids numbers old new
    reads_notices known notes table start is numbers new reads = record {
      placed = reads.placed;
      stay = λ number fits none has.
          reads.stay (notice_file number) (λ same. notice_apart number (sym same)) (λ same. notes_are_no_notice number (sym same)) none
          ∙ notice_kept known notes table start is number fits has;
      gone = λ number fits none lacks.
          reads.stay (notice_file number) (λ same. notice_apart number (sym same)) (λ same. notes_are_no_notice number (sym same)) none
          ∙ notice_gone known notes table start is number fits lacks (finite.get (reading old) (notice_file number)) refl;
    }

    run_then : {new : World} (more : List Moment) → moments new ≡ more ++ moments cleared → (known : tells ≡ true) → GoesFurther old new
    run_then more run known = record {
      more = more ++ (changes known).leaves.more;
      run = run ∙ ap (λ (l : List Moment). more ++ l) (changes known).leaves.run
          ∙ sym (append_assoc more (changes known).leaves.more (moments old));
    }

    carries_by : (of : Mailing) (notes : List Note) (table : JobTable) (start new : World) (part : MailPart)
        (answers : List (Option Ending)) → tells ≡ true → AreNotesOpened notes table start old → IsCleared notes table start cleared →
        (result : Result (Unit {0}) HostFault) → IfOk result (λ done. ReadsBeside (sent_numbers part.made) cleared new)
        → GivesAsked of notes part (questions kids answers) cleared new result
        → CarriesTo of notes table kids part (questions kids answers) start old new result
    carries_by of notes table start new part answers known is_opened is (Ok done) reads gives =
        let made : AreNotesMade of notes part.made gives.given (questions kids answers) cleared new = gives.ends in
        record {
          given = gives.given;
          numbered = gives.numbered;
          posted = sessions_post of notes part.made gives.given (questions kids answers) table start cleared new is made;
          handed = made.handed ∙ ap (λ (l : List Handed). l ++ gives.given) (changes known).handed;
          hands = made.hands;
          asked_are = made.asked ∙ ap (λ (l : List Asked). l ++ questions kids answers) (changes known).asked;
          ready = made.ready;
          alone = λ image of_it.
              let now = made.alone image of_it in
              let clearing = changes_end (IsClearing plan.stale.items old.now.directory) old cleared (changes known)
              (λ one was. record { alone = left_alone (Contains plan.stale.items) old.now.directory one was; less = λ name. inl refl })
              now.from now.was in
              record {
                from = clearing.alone.from;
                was = clearing.alone.was;
                others = λ name other. now.others name other ∙ clearing.alone.others name (λ has. other (of_mail known name has).0);
              };
          further = run_then made.leaves.more made.leaves.run known;
          reads = reads_notices known notes table start is_opened (sent_numbers part.made) new reads;
        }
    carries_by of notes table start new part answers known is_opened is (Err fault) reads gives =
        let stopped : AreNotesStopped of notes part.made part.next gives.given (questions kids answers) cleared new = gives.ends in
        record {
          given = gives.given;
          numbered = gives.numbered;
          posted =
              stopped_sessions_post of notes part.made part.next gives.given (questions kids answers) table start cleared new is stopped;
          handed = stopped.handed ∙ ap (λ (l : List Handed). l ++ gives.given) (changes known).handed;
          hands = stopped.hands;
          asked_are = stopped.asked ∙ ap (λ (l : List Asked). l ++ questions kids answers) (changes known).asked;
          ready = tt;
          alone = tt;
          further = run_then stopped.leaves.more stopped.leaves.run known;
          reads = tt;
        }

    -- the steps were made, or the first of them
    pub carried : (program : List ℕ) (after : Session) (new : World) (left : List Kid) (more : List ℕ)
        (result : Result (Unit {0}) HostFault) →
        Makes program tells between after cleared new plan kids left sent more result
        → RunsPlan program tells before after old new plan kids left sent more result
    carried program after new left more result makes = record {
      part = makes.part;
      answers = makes.answers;
      goes = record {
        inside = makes.goes.inside;
        counts = counts_on before between after inside.stays.counts makes.goes.counts;
        cause = record {
          later = omega (arith, inside.stays.counts.file_faults, makes.goes.counts.file_faults);
          rose = λ bad. omega (arith, inside.stays.counts.file_faults, makes.goes.cause.rose bad);
        };
        children = makes.goes.children
            ∙ ap (λ (l : List Child). l ++ map (λ (kid : Kid). kid.child) makes.part.added) inside.stays.children;
        few = makes.goes.few;
        prefix = makes.goes.prefix;
        all = makes.goes.all;
        kids_are = makes.goes.kids_are;
        sent_are = makes.goes.sent_are;
      };
      files = λ known of notes table start same is_opened text_is due.
          let is = is_cleared known notes table start is_opened in
          carries_by of notes table start new makes.part makes.answers known is_opened is result (makes.reads known)
          (makes.files known of notes same is.ready text_is due);
    }
