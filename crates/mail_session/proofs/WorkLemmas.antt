-- The work of a session of mail: a recovery, and the steps.
use Rattle.std.proofs.Common.{◌≡◌, ◌∙◌, ◌++◌, ℕ, Bool, true, false, List, Option, [], ◌∷◌, append_assoc, append-nil, map, refl, sym, ap, subst, inl, inr, arith}
use Rattle.std.specs.Prelude.{Contains, IsErrAnd, Result, Ok, Err}
use Rattle.std.specs.FinMap as finite
use Rattle.at_words.specs.Numbers.{are_distinct}
use Rattle.host_calls.specs.declared.child.Asked.{Asked}
use Rattle.host_calls.specs.declared.child.Child.{Child}
use Rattle.host_calls.specs.declared.child.Ending.{Ending}
use Rattle.host_calls.specs.declared.child.Handed.{Handed}
use Rattle.host_calls.specs.declared.damage.Damage.{Damage}
use Rattle.host_calls.specs.declared.fault.HostFault.{HostFault}
use Rattle.host_calls.specs.declared.fault.HostFault.TheVariants as host
use Rattle.host_calls.specs.Session.{CallsInside, Session}
use Rattle.host_calls.specs.World.{Moment, World, moments, reading}
use Rattle.host_calls.proofs.DirectoryLemmas.{reading_is_image}
use Rattle.host_calls.proofs.SessionLemmas.{counts_on}
use Rattle.spool_model.specs.JobTable.{JobTable}
use Rattle.spool_shows.proofs.Membership.{Has, contained, has_contained, has_either, has_left, has_right}
use Rattle.host_calls.specs.declared.store_fault.StoreFault.{StoreFault}
use Rattle.host_calls.specs.declared.store_fault.StoreFault.TheVariants as fault
use Rattle.host_calls.specs.StoreFaults.{IsReadingFault, store_fault_of}
use Rattle.spool_store.specs.Recovery.{IsRecovered}
use Rattle.step_runs.specs.Calls.{ShowsAsBefore}
use Rattle.step_runs.proofs.ApartLemmas.{all_each}
use Rattle.step_runs.proofs.AttemptLemmas.{recoveries_begin_nothing}
use Rattle.whole_file.specs.Others.{ChangesFiles}
use Rattle.daemon_turn.specs.declared.kid.Kid.{Kid}
use Rattle.daemon_turn.specs.Decisions.{questions}
use Rattle.daemon_turn.specs.Kids.{AreChildren}
use Rattle.host_calls.specs.SessionEnds.{end_after}
use Rattle.mail_notes.specs.declared.note.Note.{Note}
use Rattle.mail_notes.specs.declared.note.Note.TheVariants.{Noted}
use Rattle.mail_notes.specs.Hands.{Mailing}
use Rattle.mail_notes.specs.Lines.{Fits}
use Rattle.mail_notes.specs.Names.{mail_file, notice_file}
use Rattle.mail_notes.proofs.NameLemmas.{mail_is_none_of_the_stores}
use Rattle.mail_notes.specs.Runs.{HoldsNotesAlone}
use Rattle.mail_session.specs.declared.plan.MailPlan.{MailPlan}
use Rattle.mail_session.specs.AskedChildren.{kids_after}
use Rattle.mail_session.specs.Dues.{AreDue, sent_numbers}
use Rattle.mail_session.specs.SessionOutcome.{AreNoticeFiles, AreMailSteps, SessionHandsOver, GivesNotes, HasReadNotes, IsMailIdle, IsMailStopped, IsMailDone, MailLeaves, PostSpool}
use Rattle.mail_session.specs.News.{IsNotedFrom}
use Rattle.mail_session.specs.NoticeFiles.{is_notice_of}
use Rattle.mail_session.specs.DueNotices.{MailPart}
use Rattle.mail_session.specs.Sessions.{HasPosted, AreNotesOpened}
use Rattle.mail_session.specs.inside.PlannedSession.{IsPlanned, IsPlanIn, IsUnplanned}
use Rattle.mail_session.specs.inside.SessionWork.{RunsPlan, CarriesTo, MakesNotes, MayRunPlan, ReadsNotices, MailWorks, steps_by}
use Rattle.mail_session.proofs.AskingLemmas.{kids_among}
use Rattle.mail_session.proofs.DueLemmas.{dues_are_due}
use Rattle.mail_session.proofs.PlanLemmas.{dues_on_the_table, holds_notes, new_on_the_table, notes_as_before}
use Rattle.mail_session.proofs.SessionLemmas.{recoveries_open, recovery_leaves, recovery_now}
use Rattle.mail_session.proofs.SentNumberLemmas.{none_sent, sent_differ, sent_fit, sent_of_hands}

abbrev pub stand : Session → World → List ℕ → List Kid → PostSpool
stand session world program kids = record { session = session; world = world; post = record { program = program; kids = kids } }

-- Children.

has_child : (kids : List Kid) (kid : Kid) → Has kids kid → Has (map (λ (one : Kid). one.child) kids) kid.child
has_child (first ∷ kids) kid (inl same) = inl (ap (λ (one : Kid). one.child) same)
has_child (first ∷ kids) kid (inr has) = inr (has_child kids kid has)
has_child [] kid has = absurd has

children_so : (was now : List Child) (kids left added : List Kid) (answers : List (Option Ending)) → AreChildren was kids
    → now ≡ was ++ map (λ (kid : Kid). kid.child) added →
    left ≡ kids_after kids answers ++ added → AreChildren now left
children_so was now kids left added answers are now_is left_is = record {
  each = λ kid has.
      let in_two : Has (kids_after kids answers ++ added) kid = subst (λ (l : List Kid). Has l kid) left_is (has_contained left kid has) in
      subst (λ (l : List Child). Contains l kid.child) (sym now_is)
      (contained (was ++ map (λ (one : Kid). one.child) added) kid.child (elim (has_either (kids_after kids answers) added kid in_two) [
        | inl stays ↦ has_left was (map (λ (one : Kid). one.child) added) kid.child
            (has_contained was kid.child (are.each kid (contained kids kid (kids_among kids answers kid stays))))
        | inr more ↦ has_right was (map (λ (one : Kid). one.child) added) kid.child (has_child added kid more)
      ]));
}

-- Nothing was planned.

module _ (tells : Bool) (before after : Session) (old new : World) (program : List ℕ) (kids : List Kid)
    (children : AreChildren before.children kids) (sent : List ℕ) (none : sent ≡ []) where
  idle : (of : StoreFault) → IsUnplanned old new of → IsMailIdle sent (stand before old program kids) (stand after new program kids)
  idle of is = record {
    none = record { none = none; kids = refl };
    leaves = recovery_leaves old new is.changes;
    now = recovery_now old new is.changes;
    shown = is.shown;
    asked = is.changes.asked;
  }

  leaves_idle : (of : StoreFault) → IsReadingFault of → IsUnplanned old new of
      → MailLeaves sent (stand before old program kids) (stand after new program kids) (end_after (Err of))
  leaves_idle fault.FileFault reads is = inl (idle fault.FileFault is)
  leaves_idle fault.Memory reads is = inl (idle fault.Memory is)
  leaves_idle (fault.Damaged damage) reads is = (idle (fault.Damaged damage) is, recoveries_begin_nothing old new is.changes, is.damaged)
  leaves_idle _ reads is = absurd reads

  pub works_idle : (of : StoreFault) (result : Result (Unit {0}) StoreFault) → IsErrAnd result (λ other. other ≡ of)
      → CallsInside {T = MailPlan} fault.FileFault before after (Err of) → IsReadingFault of →
      (tells ≡ true → IsUnplanned old new of) → MailWorks tells (stand before old program kids) (stand after new program kids) sent result
  works_idle of (Ok done) err inside reads is = absurd err
  works_idle of (Err other) err inside reads is =
      subst (λ (one : StoreFault). MailWorks tells (stand before old program kids) (stand after new program kids) sent (Err one)) (sym err)
      (record {
        inside = inside.stays.inside;
        counts = inside.stays.counts;
        kept = ([], inside.stays.children ∙ sym (append-nil before.children));
        cause =
            record { later = inside.cause.later; rose = λ bad. inside.cause.rose (ap (λ (one : StoreFault). Err one) (same_fault bad)) };
        faults = reads;
        children = subst (λ (l : List Child). AreChildren l kids) (sym inside.stays.children) children;
        distinct = subst (λ (l : List ℕ). are_distinct l ≡ true) (sym none) refl;
        unread = λ damage bad. record { none = none; kids = refl };
        leaves = λ known. leaves_idle of reads (is known);
      }) where
        same_fault : ◌≡◌ {A = Result (Unit {0}) StoreFault} (Err of) (Err fault.FileFault) → of ≡ fault.FileFault
        same_fault bad = cc

-- The steps after a recovery.

head_in : (first : List Moment) (here there : Moment) (earlier later : List Moment) → here ∷ earlier ≡ first ++ there ∷ later
    → Has (first ++ there ∷ []) here
head_in [] here there earlier later is = inl (let same : here ≡ there = cc in sym same)
head_in (one ∷ first) here there earlier later is = inl (let same : here ≡ one = cc in sym same)

module _ (tells : Bool) (before between after : Session) (old opened new : World) (program : List ℕ) (plan : MailPlan)
    (kids left : List Kid) (gone : List ℕ)
    (planned : IsPlanned tells old opened kids plan) (inside : CallsInside {T = MailPlan} fault.FileFault before between (Ok plan)) where
  abbrev notes : List Note
  notes = planned.plan_on.notes

  abbrev at_first : PostSpool
  at_first = stand before old program kids

  abbrev at_last : PostSpool
  at_last = stand after new program left

  module _ (known : tells ≡ true) where
    abbrev recovered : IsRecovered old.now.directory opened.now.directory planned.kept
    recovered = planned.recovered known

    abbrev changes : ChangesFiles (ShowsAsBefore old.now.directory) old opened
    changes = planned.changes known

    abbrev table : JobTable
    table = recovered.table

    plan_in : IsPlanIn opened table notes kids plan
    plan_in = planned.plan_on.plan_in known table recovered.current

    pub is_opened : AreNotesOpened notes table old opened
    is_opened = recoveries_open planned.kept notes old opened changes recovered
        (holds_notes (finite.get (reading opened) mail_file) notes plan_in.gives)

    pub may_carry_out : MayRunPlan opened kids plan
    may_carry_out = record { start = old; table = table; notes = notes; is_opened = is_opened; stale = plan_in.stale }

    abbrev mailing : Mailing
    mailing = record { program = program; table = table; notes = notes ++ steps_by plan }

    are_due : AreDue mailing plan.due_notices.items
    are_due = dues_are_due mailing notes planned.kept.table recovered.current.without_scripts_is
        (λ job has.
        contained (notes ++ steps_by plan) (Noted job) (has_left notes (steps_by plan) (Noted job) (has_contained notes (Noted job) has)))
        plan.due_notices.items planned.plan_on.plan_for.due_notices

    steps_are : AreMailSteps (reading opened) table notes (steps_by plan)
    steps_are = record {
      new_jobs = plan.new_jobs.items;
      due_notices = plan.due_notices.items;
      numbers = planned.plan_on.plan_for.numbers ∙ new_on_the_table planned.kept.table table notes recovered.current.without_scripts_is;
      each = λ job has.
          all_each (IsNotedFrom (reading opened) table) plan.new_jobs.items plan_in.noted job (has_contained plan.new_jobs.items job has);
      due = dues_on_the_table planned.kept.table table notes plan.due_notices.items recovered.current.without_scripts_is
          planned.plan_on.plan_for.due_notices;
      all = refl;
    }

    read_so : (part : MailPart) (asked : List Asked) (result : Result (Unit {0}) HostFault) →
        CarriesTo mailing notes table kids part asked old opened new result → HasReadNotes table notes (steps_by plan) old new
    read_so part asked result to = record {
      shown = recovered.shown;
      gives = subst (λ held. GivesNotes held notes) (notes_as_before planned.kept old opened recovered) plan_in.gives;
      at = opened.now;
      since = record {
        more = to.further.more ++ changes.leaves.more;
        run = to.further.run ∙ ap (λ (l : List Moment). to.further.more ++ l) changes.leaves.run
            ∙ sym (append_assoc to.further.more changes.leaves.more (moments old));
        is_one = contained ((to.further.more ++ changes.leaves.more) ++ old.now ∷ []) opened.now
            (subst (λ (l : List Moment). Has l opened.now) (sym (append_assoc to.further.more changes.leaves.more (old.now ∷ [])))
            (has_right to.further.more (changes.leaves.more ++ old.now ∷ []) opened.now
            (head_in changes.leaves.more opened.now old.now opened.before old.before changes.leaves.run)));
      };
      are = steps_are;
    }

    module _ (part : MailPart) (answers : List (Option Ending)) where
      gave_so : (result : Result (Unit {0}) HostFault) → MakesNotes between after plan kids left [] gone part answers result
          → (to : CarriesTo mailing notes table kids part (questions kids answers) old opened new result) →
          SessionHandsOver part.made to.given answers mailing gone at_first at_last
      gave_so result goes to = record {
        handed = to.handed ∙ ap (λ (l : List Handed). l ++ to.given) changes.handed;
        hands = to.hands;
        sent_are = goes.sent_are ∙ sent_of_hands mailing part.made to.given to.hands;
        asked = to.asked_are ∙ ap (λ l. l ++ questions kids answers) changes.asked;
        added = part.added;
        numbered = sym to.numbered;
        children = goes.children ∙ ap (λ (l : List Child). l ++ map (λ (kid : Kid). kid.child) part.added) inside.stays.children;
        kids = goes.kids_are;
      }

      notices_so : MakesNotes between after plan kids left [] gone part answers (Ok tt)
          → ReadsNotices kids (sent_numbers part.made) opened new → AreNoticeFiles kids gone (reading old) (reading new)
      notices_so goes reads =
          let fit : (number : ℕ) → Has (sent_numbers part.made) number → Fits number =
          sent_fit (finite.get (reading opened) mail_file) planned.kept.table notes plan part.made part.next plan_in.gives
          planned.plan_on.plan_for.due_notices goes.prefix in
          let apart : (number : ℕ) → Fits number → (Contains gone number → ⊥)
          → is_notice_of (sent_numbers part.made) (notice_file number) ≡ false =
          λ number fits none. none_sent (sent_numbers part.made) fit number fits
          (λ among. none (subst (λ (l : List ℕ). Contains l number) (sym goes.sent_are) among)) in
          let before : (number : ℕ) → finite.get (reading opened) (notice_file number) ≡ finite.get (reading old) (notice_file number) =
          λ number. recovered.others (notice_file number) (mail_is_none_of_the_stores (notice_file number) (inr (inr (number, refl)))) in
          record {
            placed = λ number among. reads.placed number (subst (λ (l : List ℕ). Contains l number) goes.sent_are among);
            stay = λ number fits none has. reads.stay number fits (apart number fits none) has ∙ before number;
            gone = λ number fits none lacks. reads.gone number fits (apart number fits none) lacks;
          }

      whole_so : MakesNotes between after plan kids left [] gone part answers (Ok tt)
          → CarriesTo mailing notes table kids part (questions kids answers) old opened new (Ok tt) → IsMailDone gone at_first at_last
      whole_so goes to = record {
        table = table;
        notes = notes;
        steps = steps_by plan;
        read = read_so part (questions kids answers) (Ok tt) to;
        given = to.given;
        answers = answers;
        posted = subst (λ (l : List Note). HasPosted mailing notes l table old new) goes.all.0 to.posted;
        stand = subst (λ (l : List Note). HoldsNotesAlone (notes ++ l) new.now.directory) goes.all.0 to.ready;
        each_asked = goes.all.1;
        gave = subst (λ (l : List Note). SessionHandsOver l to.given answers mailing gone at_first at_last) goes.all.0
            (gave_so (Ok tt) goes to);
        notices = notices_so goes to.reads;
        others = λ name spool mail.
            let alone = to.alone (reading new) (reading_is_image new.now.directory) in
            alone.others name mail ∙ recovered.durable_others alone.from alone.was name spool ∙ recovered.others name spool;
      }

      stopped_so : (of : HostFault) → MakesNotes between after plan kids left [] gone part answers (Err of)
          → CarriesTo mailing notes table kids part (questions kids answers) old opened new (Err of) → IsMailStopped gone at_first at_last
      stopped_so of goes to = record {
        table = table;
        notes = notes;
        steps = steps_by plan;
        read = read_so part (questions kids answers) (Err of) to;
        made = part.made;
        next = part.next;
        first = goes.prefix;
        given = to.given;
        answers = answers;
        posted = to.posted;
        some_asked = goes.few;
        gave = gave_so (Err of) goes to;
      }

  leaves_stopped : (of : HostFault) → IsMailStopped gone at_first at_last
      → MailLeaves gone at_first at_last (end_after (Err (store_fault_of of)))
  leaves_stopped host.Failed stopped = inr stopped
  leaves_stopped host.Memory stopped = inr stopped

  host_reads : (of : HostFault) → IsReadingFault (store_fault_of of)
  host_reads host.Failed = tt
  host_reads host.Memory = tt

  host_undamaged : (of : HostFault) (damage : Damage) → store_fault_of of ≡ fault.Damaged damage → ⊥
  host_undamaged host.Failed damage is = (let bad : fault.FileFault ≡ fault.Damaged damage = is in cc)
  host_undamaged host.Memory damage is = (let bad : fault.Memory ≡ fault.Damaged damage = is in cc)

  host_failed : (of : HostFault) → store_fault_of of ≡ fault.FileFault → ◌≡◌ {A = Result (Unit {0}) HostFault} (Err of) (Err host.Failed)
  host_failed host.Failed is = refl
  host_failed host.Memory is = absurd (let bad : fault.Memory ≡ fault.FileFault = is in cc)

  same_error : (one other : StoreFault) → ◌≡◌ {A = Result (Unit {0}) StoreFault} (Err one) (Err other) → one ≡ other
  same_error one other is = cc

  module _ (children : AreChildren before.children kids) where
    kids_so : (part : MailPart) (answers : List (Option Ending)) (result : Result (Unit {0}) HostFault)
        → MakesNotes between after plan kids left [] gone part answers result → AreChildren after.children left
    kids_so part answers result goes =
        children_so between.children after.children kids left part.added answers
        (subst (λ (l : List Child). AreChildren l kids) (sym inside.stays.children) children) goes.children goes.kids_are

    distinct_so : (part : MailPart) (answers : List (Option Ending)) (result : Result (Unit {0}) HostFault)
        → MakesNotes between after plan kids left [] gone part answers result → are_distinct gone ≡ true
    distinct_so part answers result goes =
        ap are_distinct goes.sent_are
        ∙ sent_differ planned.kept.table notes plan part.made part.next planned.plan_on.plan_for.due_notices goes.prefix

    -- all steps were made
    pub works_whole : RunsPlan program tells between after opened new plan kids left [] gone (Ok tt)
        → MailWorks tells at_first at_last gone (Ok tt)
    works_whole carries = record {
      inside = carries.goes.inside;
      counts = counts_on before between after inside.stays.counts carries.goes.counts;
      kept = (
        map (λ (kid : Kid). kid.child) carries.part.added,
        carries.goes.children ∙ ap (λ (l : List Child). l ++ map (λ (kid : Kid). kid.child) carries.part.added) inside.stays.children,
      );
      cause = record {
        later = omega (arith, inside.stays.counts.file_faults, carries.goes.counts.file_faults);
        rose = λ bad. absurd (not_fault bad);
      };
      faults = tt;
      children = kids_so carries.part carries.answers (Ok tt) carries.goes;
      distinct = distinct_so carries.part carries.answers (Ok tt) carries.goes;
      unread = λ damage bad. absurd (not_damaged damage bad);
      leaves = λ known. whole_so known carries.part carries.answers carries.goes
          (carries.files known (mailing known) notes (table known) old refl (is_opened known)
          planned.plan_on.plan_for.text (are_due known));
    } where
      not_fault : ◌≡◌ {A = Result (Unit {0}) StoreFault} (Ok tt) (Err fault.FileFault) → ⊥
      not_fault bad = cc

      not_damaged : (damage : Damage) → ◌≡◌ {A = Result (Unit {0}) StoreFault} (Ok tt) (Err (fault.Damaged damage)) → ⊥
      not_damaged damage bad = cc

    -- or they were stopped
    pub works_stopped : (of : HostFault) (result : Result (Unit {0}) StoreFault) → IsErrAnd result (λ other. other ≡ store_fault_of of)
        → RunsPlan program tells between after opened new plan kids left [] gone (Err of) →
        MailWorks tells at_first at_last gone result
    works_stopped of (Ok done) err carries = absurd err
    works_stopped of (Err other) err carries =
        subst (λ (one : StoreFault). MailWorks tells at_first at_last gone (Err one)) (sym err) (record {
          inside = carries.goes.inside;
          counts = counts_on before between after inside.stays.counts carries.goes.counts;
          kept = (
            map (λ (kid : Kid). kid.child) carries.part.added,
            carries.goes.children ∙ ap (λ (l : List Child). l ++ map (λ (kid : Kid). kid.child) carries.part.added) inside.stays.children,
          );
          cause = record {
            later = omega (arith, inside.stays.counts.file_faults, carries.goes.counts.file_faults);
            rose = λ bad. omega (
              arith,
              inside.stays.counts.file_faults,
              carries.goes.cause.rose (host_failed of (same_error (store_fault_of of) fault.FileFault bad)),
            );
          };
          faults = host_reads of;
          children = kids_so carries.part carries.answers (Err of) carries.goes;
          distinct = distinct_so carries.part carries.answers (Err of) carries.goes;
          unread = λ damage bad. absurd (host_undamaged of damage (same_error (store_fault_of of) (fault.Damaged damage) bad));
          leaves = λ known. leaves_stopped of (stopped_so known carries.part carries.answers of carries.goes
              (carries.files known (mailing known) notes (table known) old refl (is_opened known)
              planned.plan_on.plan_for.text (are_due known)));
        })

-- the same where nothing was sent before
pub carries_first : (program : List ℕ) (tells : Bool) (before after : Session) (old new : World) (plan : MailPlan) (kids left : List Kid)
    (sent gone : List ℕ) (result : Result (Unit {0}) HostFault) →
    sent ≡ [] → RunsPlan program tells before after old new plan kids left sent gone result
    → RunsPlan program tells before after old new plan kids left [] gone result
carries_first program tells before after old new plan kids left sent gone result none carries =
    subst (λ (l : List ℕ). RunsPlan program tells before after old new plan kids left l gone result) none carries
