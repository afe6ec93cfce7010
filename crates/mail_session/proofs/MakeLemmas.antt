-- The steps of a session: children are asked, the new jobs noted, and what is due is made.
use Rattle.std.proofs.Common.{◌≡◌, ◌∙◌, ◌++◌, ℕ, Bool, true, List, [], ◌∷◌, append_assoc, append-nil, length, map, refl, sym, ap, subst, arith}
use Rattle.std.specs.Prelude.{IfOk, IsErrAnd, Option, Result, Ok, Err}
use Rattle.host_calls.specs.declared.child.Asked.{Asked}
use Rattle.host_calls.specs.declared.child.Child.{Child}
use Rattle.host_calls.specs.declared.child.Ending.{Ending}
use Rattle.host_calls.specs.declared.fault.HostFault.{HostFault}
use Rattle.host_calls.specs.declared.fault.HostFault.TheVariants.{Memory}
use Rattle.host_calls.specs.Session.{Session, StaysInside}
use Rattle.host_calls.specs.World.{World}
use Rattle.host_calls.proofs.SessionLemmas.{counts_on}
use Rattle.daemon_turn.specs.declared.kid.Kid.{Kid}
use Rattle.daemon_turn.specs.Decisions.{questions}
use Rattle.mail_notes.specs.declared.note.Note.{Note}
use Rattle.mail_notes.specs.declared.note.NotedJob.{NotedJob}
use Rattle.mail_notes.specs.Hands.{Mailing}
use Rattle.mail_notes.specs.Lines.{notes_text}
use Rattle.mail_notes.specs.Runs.{AreNotesMade, AreNotesStopped, HoldsNotesAlone}
use Rattle.mail_notes.proofs.RunLemmas.{no_notes_are_made, notes_are_made_after, notes_are_stopped_after}
use Rattle.mail_session.specs.declared.due.NoticeDue.{NoticeDue}
use Rattle.mail_session.specs.declared.plan.MailPlan.{MailPlan}
use Rattle.mail_session.specs.AskedChildren.{AsksKids, asked_besides, kids_after}
use Rattle.mail_session.specs.Dues.{notes_of, sent_numbers}
use Rattle.mail_session.specs.Laws.{QuestionsMakeNoNote}
use Rattle.mail_session.specs.News.{noting_of}
use Rattle.mail_session.specs.NoticeFiles.{ReadsBeside}
use Rattle.mail_session.specs.NewNotes.{Notes}
use Rattle.mail_session.proofs.ReadLemmas.{reads_both}
use Rattle.mail_session.specs.DueNotices.{SendsPart, MailPart, Posts}
use Rattle.mail_session.specs.inside.SessionWork.{Makes, NotesMakingEnds, steps_by}
use Rattle.mail_session.proofs.NotingLemmas.{along_none}
use Rattle.mail_session.proofs.SendLemmas.{not_memory}

-- Questions.

-- a question changes no file, starts nothing and makes no note
pub questions_make_no_note : QuestionsMakeNoNote
questions_make_no_note of notes kids answers world ready =
    let made = no_notes_are_made of notes world ready in
    record {
      leaves = record { more = []; run = refl; each = tt };
      ready = made.ready;
      alone = made.alone;
      handed = made.handed;
      hands = made.hands;
      asked = refl;
    }

asked_at : (of : Mailing) (notes : List Note) (kids : List Kid) (answers : List (Option Ending)) (old new : World)
    → HoldsNotesAlone notes old.now.directory →
    new ≡ asked_besides kids answers old → AreNotesMade of notes [] [] (questions kids answers) old new
asked_at of notes kids answers old new ready is =
    subst (AreNotesMade of notes [] [] (questions kids answers) old) (sym is) (questions_make_no_note of notes kids answers old ready)

asked_stopped : (of : Mailing) (notes : List Note) (kids : List Kid) (answers : List (Option Ending)) (old new : World)
    → HoldsNotesAlone notes old.now.directory →
    new ≡ asked_besides kids answers old → AreNotesStopped of notes [] [] [] (questions kids answers) old new
asked_stopped of notes kids answers old new ready is =
    let made = questions_make_no_note of notes kids answers old ready in
    subst (AreNotesStopped of notes [] [] [] (questions kids answers) old) (sym is) (record {
      leaves = made.leaves;
      now = λ image of_it. along_none of notes [] old.now image (made.alone image of_it) (ready.holds image of_it);
      handed = made.handed;
      hands = made.hands;
      asked = made.asked;
    })

-- that jobs were seen sends nothing
sent_after_noting : (new_jobs : List NotedJob) (made : List Note) → sent_numbers (noting_of new_jobs ++ made) ≡ sent_numbers made
sent_after_noting [] made = refl
sent_after_noting (job ∷ new_jobs) made = sent_after_noting new_jobs made

abbrev nothing : MailPart
nothing = record { made = []; next = []; added = [] }

module _ (program : List ℕ) (tells : Bool) (before between : Session) (old asked : World) (plan : MailPlan)
    (kids left : List Kid) (sent : List ℕ)
    (stays : StaysInside before between) where
  abbrev new_jobs : List NotedJob
  new_jobs = plan.new_jobs.items

  abbrev due_notices : List NoticeDue
  due_notices = plan.due_notices.items

  abbrev noting : List Note
  noting = noting_of new_jobs

  -- memory ran out for a question
  pub ask_wants : (result : Result (Unit {0}) HostFault) → IsErrAnd result (λ other. other ≡ Memory)
      → {E : Type 0} (of_ask : Result (Unit {0}) E) → AsksKids {E = E} tells kids left old asked of_ask →
      Makes program tells before between old asked plan kids left sent sent result
  ask_wants (Ok done) is of_ask asks = absurd is
  ask_wants (Err fault) is of_ask asks =
      subst (λ (one : HostFault). Makes program tells before between old asked plan kids left sent sent (Err one)) (sym is) (record {
        part = nothing;
        answers = asks.answers;
        goes = record {
          inside = stays.inside;
          counts = stays.counts;
          cause = record { later = stays.counts.file_faults; rose = λ bad. absurd (not_memory bad) };
          children = stays.children ∙ sym (append-nil before.children);
          few = asks.few;
          prefix = (steps_by plan, refl);
          all = tt;
          kids_are = asks.left_are ∙ sym (append-nil (kids_after kids asks.answers));
          sent_are = sym (append-nil sent);
        };
        reads = λ known. tt;
        files = λ known of notes same ready text_is due. record {
          given = [];
          numbered = refl;
          ends = asked_stopped of notes kids asks.answers old asked ready (asks.asked known);
        };
      })

  module _ {E : Type 0} (asks : AsksKids {E = E} tells kids left old asked (Ok tt)) (then : Session) (noted : World) where
    text_after : (of : Mailing) (notes : List Note) → plan.text.items ≡ notes_text (notes ++ noting)
        → plan.text.items ≡ notes_text ((notes ++ []) ++ noting)
    text_after of notes is = is ∙ ap (λ (l : List Note). notes_text (l ++ noting)) (sym (append-nil notes))

    -- the new jobs could not be noted
    pub note_stops : (fault : HostFault) (result : Result (Unit {0}) HostFault) → IsErrAnd result (λ other. other ≡ fault)
        → Notes tells between then asked noted new_jobs plan.text.items (Err fault) →
        Makes program tells before then old noted plan kids left sent sent result
    note_stops fault (Ok done) is notes_them = absurd is
    note_stops fault (Err other) is notes_them =
        subst (λ (one : HostFault). Makes program tells before then old noted plan kids left sent sent (Err one)) (sym is) (record {
          part = record { made = []; next = noting; added = [] };
          answers = asks.answers;
          goes = record {
            inside = notes_them.inside.stays.inside;
            counts = counts_on before between then stays.counts notes_them.inside.stays.counts;
            cause = record {
              later = omega (arith, stays.counts.file_faults, notes_them.inside.stays.counts.file_faults);
              rose = λ bad. omega (arith, stays.counts.file_faults, notes_them.inside.cause.rose bad);
            };
            children = notes_them.inside.stays.children ∙ stays.children ∙ sym (append-nil before.children);
            few = asks.few;
            prefix = (notes_of due_notices, refl);
            all = tt;
            kids_are = asks.left_are ∙ sym (append-nil (kids_after kids asks.answers));
            sent_are = sym (append-nil sent);
          };
          reads = λ known. tt;
          files = λ known of notes same ready text_is due.
              let made = asked_at of notes kids asks.answers old asked ready (asks.asked known) in
              let stopped : AreNotesStopped of (notes ++ []) [] noting [] [] asked noted =
              notes_them.files known of (notes ++ []) made.ready (text_after of notes text_is) in
              record {
                given = [];
                numbered = refl;
                ends =
                    subst (λ (l : List Asked). AreNotesStopped of notes [] noting [] l old noted) (append-nil (questions kids asks.answers))
                    (notes_are_stopped_after of notes [] [] noting [] [] (questions kids asks.answers) [] old asked noted made stopped);
              };
        })

    module _ (notes_them : Notes tells between then asked noted new_jobs plan.text.items (Ok tt)) (after : Session) (new : World)
        (gone is : List ℕ) (more : List Kid)
        (result : Result (Unit {0}) HostFault)
        (posts : Posts program tells then after noted new due_notices plan.text.items is left more sent gone result) where
      noted_so : (of : Mailing) (notes : List Note) → tells ≡ true → HoldsNotesAlone notes old.now.directory
          → plan.text.items ≡ notes_text (notes ++ noting) →
          AreNotesMade of notes noting [] (questions kids asks.answers) old noted
      noted_so of notes known ready text_is =
          let made = asked_at of notes kids asks.answers old asked ready (asks.asked known) in
          let now : AreNotesMade of (notes ++ []) noting [] [] asked noted =
          notes_them.files known of (notes ++ []) made.ready (text_after of notes text_is) in
          subst (λ (l : List Asked). AreNotesMade of notes noting [] l old noted) (append-nil (questions kids asks.answers))
          (notes_are_made_after of notes [] noting [] [] (questions kids asks.answers) [] old asked noted made now)

      reads_asked : tells ≡ true → ReadsBeside [] old noted
      reads_asked known = subst (λ (from : World). ReadsBeside [] from noted → ReadsBeside [] old noted) (sym (asks.asked known))
          (λ reads. record { placed = reads.placed; stay = reads.stay }) (notes_them.reads known)

      abbrev whole : MailPart
      whole = record { made = noting ++ posts.part.made; next = posts.part.next; added = posts.part.added }

      ends_so : (of : Mailing) (notes : List Note) → AreNotesMade of notes noting [] (questions kids asks.answers) old noted
          → (one : Result (Unit {0}) HostFault) (gives : SendsPart of (notes ++ noting) posts.part noted new one) →
          NotesMakingEnds of notes whole gives.given (questions kids asks.answers) old new one
      ends_so of notes made (Ok done) gives =
          subst (λ (l : List Asked). AreNotesMade of notes (noting ++ posts.part.made) gives.given l old new)
          (append-nil (questions kids asks.answers))
          (notes_are_made_after of notes noting posts.part.made [] gives.given (questions kids asks.answers) [] old
          noted new made gives.ends)
      ends_so of notes made (Err fault) gives =
          subst (λ (l : List Asked). AreNotesStopped of notes (noting ++ posts.part.made) posts.part.next gives.given l old new)
          (append-nil (questions kids asks.answers))
          (notes_are_stopped_after of notes noting posts.part.made posts.part.next [] gives.given (questions kids asks.answers) [] old
          noted new made gives.ends)

      all_so : (one : Result (Unit {0}) HostFault) → IfOk one (λ done. posts.part.made ≡ notes_of due_notices) →
          IfOk one (λ done. (noting ++ posts.part.made ≡ steps_by plan) × (length asks.answers ≡ length kids))
      all_so (Ok done) is = (ap (λ (l : List Note). noting ++ l) is, asks.all)
      all_so (Err fault) is = tt

      -- what is due was made, or the first of it
      pub steps_made : Makes program tells before after old new plan kids more sent gone result
      steps_made = record {
        part = whole;
        answers = asks.answers;
        goes = record {
          inside = posts.inside;
          counts = counts_on before between after stays.counts (counts_on between then after notes_them.inside.stays.counts posts.counts);
          cause = record {
            later = omega (arith, stays.counts.file_faults, notes_them.inside.stays.counts.file_faults, posts.counts.file_faults);
            rose = λ bad. omega (arith, stays.counts.file_faults, notes_them.inside.stays.counts.file_faults, posts.cause.rose bad);
          };
          children = posts.children ∙ ap (λ (l : List Child). l ++ map (λ (kid : Kid). kid.child) posts.part.added)
              (notes_them.inside.stays.children ∙ stays.children);
          few = asks.few;
          prefix = (
            posts.prefix.0,
            ap (λ (l : List Note). noting ++ l) posts.prefix.1
                ∙ sym (append_assoc noting (posts.part.made ++ posts.part.next) posts.prefix.0)
                ∙ ap (λ (l : List Note). l ++ posts.prefix.0) (sym (append_assoc noting posts.part.made posts.part.next)),
          );
          all = all_so result posts.all;
          kids_are = posts.kids_are ∙ ap (λ (l : List Kid). l ++ posts.part.added) asks.left_are;
          sent_are = posts.sent_are ∙ ap (λ (l : List ℕ). sent ++ l) (sym (sent_after_noting new_jobs posts.part.made));
        };
        reads =
            λ known. subst (λ (l : List ℕ). IfOk result (λ done. ReadsBeside l old new)) (sym (sent_after_noting new_jobs posts.part.made))
            (reads_both [] (sent_numbers posts.part.made) old noted new result (reads_asked known) (posts.reads known));
        files = λ known of notes same ready text_is due.
            let made = noted_so of notes known ready text_is in
            let gives : SendsPart of (notes ++ noting) posts.part noted new result =
            posts.files known of (notes ++ noting) same made.ready text_is due in
            record { given = gives.given; numbered = gives.numbered; ends = ends_so of notes made result gives };
      }
