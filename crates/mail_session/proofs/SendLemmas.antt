-- One notice is sent.
use Rattle.std.proofs.Common.{◌≡◌, ◌∙◌, ◌⊎◌, ℕ, Bool, true, List, [], ◌∷◌, ◌++◌, Some, append-nil, refl, sym, ap, subst, inl, inr, arith}
use Rattle.std.specs.Prelude.{IfOk, IsErrAnd, IsSome, Option, None, Result, Ok, Err, is_some}
use Rattle.std.specs.FinMap as map
use Rattle.host_calls.specs.declared.child.Child.{Child}
use Rattle.host_calls.specs.declared.child.Handed.{Handed}
use Rattle.host_calls.specs.declared.fault.HostFault.{HostFault}
use Rattle.host_calls.specs.declared.fault.HostFault.TheVariants.{Failed, Memory}
use Rattle.host_calls.specs.declared.fault.StartFault.{StartFault}
use Rattle.host_calls.specs.declared.fault.StartFault.TheVariants.{Failed as NoStart, Memory as NoMemory}
use Rattle.host_calls.specs.Directory.{Files, Directory, IsImage, IsInNoImage}
use Rattle.host_calls.specs.Session.{CallsInside, Session, Starts}
use Rattle.host_calls.specs.World.{HandsOver, LeavesOnly, StartCall, World, reading}
use Rattle.host_calls.proofs.DirectoryLemmas.{reading_is_image}
use Rattle.host_calls.proofs.WorldLemmas.{leaves_then, leaves_weaker}
use Rattle.host_calls.proofs.SessionLemmas.{counts_on}
use Rattle.whole_file.specs.Others.{ChangesFiles, LeavesOthers}
use Rattle.whole_file.specs.Placement.{IsPlaced, IsPlacing}
use Rattle.mail_notes.specs.declared.note.Note.{Note}
use Rattle.mail_notes.specs.declared.note.Note.TheVariants.{Sent}
use Rattle.mail_notes.specs.Hands.{SendsNotices, SendsNoticesByNow, IsHandedFor, IsNoticeOf, Mailing, notice_nice}
use Rattle.mail_notes.specs.Lines.{notes_text}
use Rattle.mail_notes.specs.Names.{IsMailName, mail_file, mail_temp, notice_file}
use Rattle.mail_notes.specs.Runs.{AreNotesMade, AreNotesStopped, IsAlongNotes, HoldsNotesAlone}
use Rattle.mail_notes.proofs.RunLemmas.{notes_are_made_after, notes_are_stopped_after}
use Rattle.mail_session.specs.inside.SentNotice.{HandsNoticeOver, IsHandingOver, Places, Sends, SendingEnds, added_by_notice}
use Rattle.mail_session.proofs.ReadLemmas.{reads_after, reads_sent}
use Rattle.mail_session.proofs.NotingLemmas.{alone_end, along_all, leaves_placing, notes_stopped, notice_elsewhere, notice_made, notice_stopped, placing_end, ready_placed}

pub no_fault : {T : Type 0} (value : T) (fault : HostFault) → ◌≡◌ {A = Result T HostFault} (Ok value) (Err fault) → ⊥
no_fault value fault is = cc

pub not_memory : {T : Type 0} → ◌≡◌ {A = Result T HostFault} (Err Memory) (Err Failed) → ⊥
not_memory is = cc

pub same_fault : {T : Type 0} (one other : HostFault) → ◌≡◌ {A = Result T HostFault} (Err one) (Err other) → one ≡ other
same_fault one other is = cc

-- The host was called.

pub called_at : {T : Type 0} (name : List ℕ) (number nice : ℕ) (old new : World) (result : Result T StartFault)
    → name ≡ notice_file number →
    StartCall number name nice old new result → StartCall number (notice_file number) nice old new result
called_at name number nice old new result is call = subst (λ (n : List ℕ). StartCall number n nice old new result) is call

pub child_handed : (before after : Session) (tells : Bool) (old new : World) (number : ℕ) (child : Child)
    → Starts {E = StartFault} before after (Ok child) →
    (tells ≡ true → StartCall {T = Child} number (notice_file number) notice_nice old new (Ok child))
    → HandsNoticeOver tells before after old new number (Ok (Some child))
child_handed before after tells old new number child starts call = record {
  inside = starts.inside;
  counts = starts.counts;
  children = starts.children;
  no_fault = no_fault (Some child) Failed;
  files = λ known. record {
    outcome = (call known).outcome;
    directory = (call known).directory;
    asked = (call known).asked;
    leaves = (call known).leaves;
  };
}

pub none_handed : (before after : Session) (tells : Bool) (old new : World) (number : ℕ)
    → Starts {E = StartFault} before after (Err NoStart) →
    (tells ≡ true → StartCall {T = Child} number (notice_file number) notice_nice old new (Err NoStart))
    → HandsNoticeOver tells before after old new number (Ok None)
none_handed before after tells old new number starts call = record {
  inside = starts.inside;
  counts = starts.counts;
  children = starts.children;
  no_fault = no_fault None Failed;
  files = λ known. record {
    outcome = (call known).outcome;
    directory = (call known).directory;
    asked = (call known).asked;
    leaves = (call known).leaves;
  };
}

pub memory_wanting : (before after : Session) (tells : Bool) (old new : World) (number : ℕ)
    → Starts {E = StartFault} before after (Err NoMemory) →
    (tells ≡ true → StartCall {T = Child} number (notice_file number) notice_nice old new (Err NoMemory))
    → HandsNoticeOver tells before after old new number (Err Memory)
memory_wanting before after tells old new number starts call = record {
  inside = starts.inside;
  counts = starts.counts;
  children = starts.children;
  no_fault = not_memory;
  files = λ known. record {
    outcome = (call known).outcome;
    directory = (call known).directory;
    asked = (call known).asked;
    leaves = (call known).leaves;
  };
}

-- a fault that is handed on
pub sends_at : (tells : Bool) (before after : Session) (old new : World) (number : ℕ) (script text : List ℕ) (fault : HostFault)
    (result : Result (Option Child) HostFault) →
    IsErrAnd result (λ other. other ≡ fault) → Sends tells before after old new number script text (Err fault)
    → Sends tells before after old new number script text result
sends_at tells before after old new number script text fault (Ok child) is sends = absurd is
sends_at tells before after old new number script text fault (Err other) is sends =
    subst (λ (of : HostFault). Sends tells before after old new number script text (Err of)) (sym is) sends

-- the notice is there once the notes are placed
pub notice_held : (number : ℕ) (script text : List ℕ) (old middle new : World) → Places (notice_file number) script old middle (Ok tt)
    → Places mail_file text middle new (Ok tt) →
    IsSome (map.get (reading new) (notice_file number))
notice_held number script text old middle new first then =
    subst IsSome (sym (then.placed.others (notice_file number) (notice_elsewhere number)
    ∙ first.placed.placed (reading middle) (reading_is_image middle.now.directory))) refl

-- the notes with the one that is being sent have sent nothing of it, and its notice is there, as before
lacking : (of : Mailing) (number : ℕ) (script text : List ℕ) (directory : Directory) → IsNoticeOf of number script →
    ((from : Files) → IsImage directory from → map.get from (notice_file number) ≡ Some script) → (image : Files)
    → IsPlacing mail_temp mail_file text directory image →
    SendsNoticesByNow of (Sent number ∷ []) image []
lacking of number script text directory notice held image is = inr (record {
  earlier = [];
  number = number;
  ends = refl;
  placed = record {
    script = script;
    held = is.alone.others (notice_file number) (notice_elsewhere number) ∙ held is.alone.from is.alone.was;
    notice = notice;
  };
  hands = refl;
})

-- After the note, the notice is sent.
module _ (of : Mailing) (notes : List Note) (number : ℕ) (script text : List ℕ) (old middle new : World)
    (ready : HoldsNotesAlone notes old.now.directory)
    (text_is : text ≡ notes_text (notes ++ Sent number ∷ [])) (notice : IsNoticeOf of number script)
    (held : (image : Files) → IsImage old.now.directory image → map.get image (notice_file number) ≡ Some script)
    (changes : ChangesFiles (IsPlacing mail_temp mail_file text old.now.directory) old middle)
    (placed : IsPlaced mail_temp mail_file text old.now.directory middle.now.directory) where
  -- what was read is the notice
  script_is : (read : List ℕ) → map.get (reading middle) (notice_file number) ≡ Some read → read ≡ script
  script_is read is =
      let both : Some read ≡ Some script = sym is ∙ placed.others (notice_file number) (notice_elsewhere number)
      ∙ held (reading old) (reading_is_image old.now.directory) in
      cc

  lacking_now : (image : Files) → IsPlacing mail_temp mail_file text old.now.directory image
      → SendsNoticesByNow of (Sent number ∷ []) image []
  lacking_now = lacking of number script text old.now.directory notice held

  ready_now : HoldsNotesAlone (notes ++ Sent number ∷ []) middle.now.directory
  ready_now = ready_placed of notes (Sent number ∷ []) text old middle ready text_is lacking_now changes placed

  alone_now : (image : Files) → IsImage middle.now.directory image → LeavesOthers IsMailName old.now.directory image
  alone_now = alone_end of notes (Sent number ∷ []) text old middle ready text_is lacking_now changes

  leaves_now : LeavesOnly (IsAlongNotes of notes (Sent number ∷ []) old.now) old middle
  leaves_now = leaves_placing of notes (Sent number ∷ []) text old middle ready text_is lacking_now changes

  -- where it was sent
  module _ (started : Bool) (over : HandsOver number (notice_file number) notice_nice started middle.now new.now)
      (directory : new.now.directory ≡ middle.now.directory)
      (asked : new.asked ≡ middle.asked)
      (leaves : LeavesOnly (λ image handed. IsImage middle.now.directory image
      × ((handed ≡ middle.now.handed) ⊎ (handed ≡ new.now.handed))) middle new) where
    one : Handed
    one = record { number = number; script = over.script; nice = notice_nice; started = started }

    for_it : IsHandedFor of number (record { number = number; script = over.script; nice = notice_nice; started = started })
    for_it = record { number_is = refl; notice = subst (IsNoticeOf of number) (sym (script_is over.script over.read)) notice; nice = refl }

    given : List Handed
    given = record { number = number; script = over.script; nice = notice_nice; started = started } ∷ []

    grown : new.now.handed ≡ old.now.handed ++ record { number = number; script = over.script; nice = notice_nice; started = started } ∷ []
    grown = over.handed ∙ ap (λ (l : List Handed).
        l ++ record { number = number; script = over.script; nice = notice_nice; started = started } ∷ []) changes.handed

    hands : SendsNotices of (Sent number ∷ [])
        (record { number = number; script = over.script; nice = notice_nice; started = started } ∷ [])
    hands = (
      record { number = number; script = over.script; nice = notice_nice; started = started } ∷ [],
      [],
      (record { number = number; script = over.script; nice = notice_nice; started = started }, for_it, refl),
      refl,
      refl,
    )

    along_now : (image : Files) (handed : List Handed) → IsImage middle.now.directory image
        × ((handed ≡ middle.now.handed) ⊎ (handed ≡ new.now.handed)) →
        IsAlongNotes of notes (Sent number ∷ []) old.now image handed
    along_now image handed is = elim is.1 [
      | inl not_yet ↦ along_all of notes (Sent number ∷ []) old.now image [] handed (alone_now image is.0) (ready_now.holds image is.0)
          (lacking_now image (placing_end mail_file text old middle changes image is.0)) (not_yet ∙ changes.handed
          ∙ sym (append-nil old.now.handed))
      | inr all ↦ along_all of notes (Sent number ∷ []) old.now image
          (record { number = number; script = over.script; nice = notice_nice; started = started } ∷ []) handed
          (alone_now image is.0) (ready_now.holds image is.0) (inl hands) (all ∙ grown)
    ]

    pub sent_now : (handed : Handed) × IsHandedFor of number handed × (handed.started ≡ started)
        × AreNotesMade of notes (Sent number ∷ []) (handed ∷ []) [] old new
    sent_now = (
      record { number = number; script = over.script; nice = notice_nice; started = started },
      for_it,
      refl,
      record {
        leaves = leaves_then (IsAlongNotes of notes (Sent number ∷ []) old.now) old middle new leaves_now
            (leaves_weaker _ (IsAlongNotes of notes (Sent number ∷ []) old.now) middle new along_now leaves);
        ready = subst (HoldsNotesAlone (notes ++ Sent number ∷ [])) (sym directory) ready_now;
        alone = λ image is. alone_now image (subst (λ (at : Directory). IsImage at image) directory is);
        handed = grown;
        hands = hands;
        asked = asked ∙ changes.asked ∙ sym (append-nil old.asked);
      },
    )

  -- by the answer of the host
  pub handing_ends : (result : Result (Option Child) HostFault) → IsHandingOver number middle new result
      → SendingEnds of notes number old new result
  handing_ends (Ok child) over = sent_now (is_some child) over.outcome over.directory over.asked over.leaves
  handing_ends (Err fault) over =
      subst (AreNotesStopped of notes [] (Sent number ∷ []) [] [] old) (sym over.outcome)
      (notes_stopped of notes (Sent number ∷ []) text old middle ready text_is lacking_now changes)

-- a sending goes on after the notice that was placed
pub ends_after : (of : Mailing) (notes : List Note) (number : ℕ) (start middle end : World) (result : Result (Option Child) HostFault) →
    AreNotesMade of notes [] [] [] start middle → SendingEnds of (notes ++ []) number middle end result
    → SendingEnds of notes number start end result
ends_after of notes number start middle end (Ok child) before after =
    (after.0, after.1, after.2, notes_are_made_after of notes [] (Sent number ∷ []) [] (after.0 ∷ []) [] [] start middle end before after.3)
ends_after of notes number start middle end (Err fault) before after =
    notes_are_stopped_after of notes [] [] (Sent number ∷ []) [] [] [] [] start middle end before after

-- no file of mail is being made once the notice was sent
no_temp_after : {number : ℕ} (result : Result (Option Child) HostFault) (middle new : World) → IsInNoImage middle.now.directory mail_temp
    → IsHandingOver number middle new result →
    IfOk result (λ child. IsInNoImage new.now.directory mail_temp)
no_temp_after (Ok child) middle new none over = subst (λ (at : Directory). IsInNoImage at mail_temp) (sym over.directory) none
no_temp_after (Err fault) middle new none over = tt

-- The whole of it, by where it ends.
module _ (tells : Bool) (before : Session) (old : World) (number : ℕ) (script text : List ℕ) where
  pub notice_unplaced : (after : Session) (new : World) (fault : HostFault) → CallsInside {T = Unit {0}} Failed before after (Err fault) →
      (tells ≡ true → Places (notice_file number) script old new (Err fault))
      → Sends tells before after old new number script text (Err fault)
  notice_unplaced after new fault calls places = record {
    inside = calls.stays.inside;
    counts = calls.stays.counts;
    children = calls.stays.children ∙ sym (append-nil before.children);
    cause = record {
      later = calls.cause.later;
      rose = λ bad. calls.cause.rose (ap (λ (of : HostFault). Err of) (same_fault fault Failed bad));
    };
    no_temp = λ known. tt;
    reads = λ known. tt;
    files = λ known of notes ready text_is notice.
        notice_stopped of notes (Sent number ∷ []) number script old new ready (places known).changes;
  }

  module _ (between : Session) (middle : World) (first : CallsInside {T = Unit {0}} Failed before between (Ok tt))
      (places : tells ≡ true → Places (notice_file number) script old middle (Ok tt)) where
    made_first : (known : tells ≡ true) (of : Mailing) (notes : List Note) → HoldsNotesAlone notes old.now.directory
        → AreNotesMade of notes [] [] [] old middle
    made_first known of notes ready = notice_made of notes number script old middle ready (places known).changes (places known).placed

    text_after : (notes : List Note) → text ≡ notes_text (notes ++ Sent number ∷ []) → text ≡ notes_text ((notes ++ []) ++ Sent number ∷ [])
    text_after notes is = is ∙ ap (λ (l : List Note). notes_text (l ++ Sent number ∷ [])) (sym (append-nil notes))

    pub notes_unplaced : (after : Session) (new : World) (fault : HostFault) → CallsInside {T = Unit {0}} Failed between after (Err fault) →
        (tells ≡ true → Places mail_file text middle new (Err fault)) → Sends tells before after old new number script text (Err fault)
    notes_unplaced after new fault calls then = record {
      inside = calls.stays.inside;
      counts = counts_on before between after first.stays.counts calls.stays.counts;
      children = calls.stays.children ∙ first.stays.children ∙ sym (append-nil before.children);
      cause = record {
        later = omega (arith, first.stays.counts.file_faults, calls.cause.later);
        rose = λ bad.
            omega (arith, first.stays.counts.file_faults, calls.cause.rose (ap (λ (of : HostFault). Err of) (same_fault fault Failed bad)));
      };
      no_temp = λ known. tt;
      reads = λ known. tt;
      files = λ known of notes ready text_is notice. let made = made_first known of notes ready in
          ends_after of notes number old middle new (Err fault) made
          (notes_stopped of (notes ++ []) (Sent number ∷ []) text middle new made.ready (text_after notes text_is)
          (lacking of number script text middle.now.directory notice (places known).placed.placed) (then known).changes);
    }

    pub sent_whole : (last after : Session) (noted new : World) (result : Result (Option Child) HostFault)
        → CallsInside {T = Unit {0}} Failed between last (Ok tt) →
        (tells ≡ true → Places mail_file text middle noted (Ok tt)) → HandsNoticeOver tells last after noted new number result →
        Sends tells before after old new number script text result
    sent_whole last after noted new result calls then hands = record {
      inside = hands.inside;
      counts = counts_on before between after first.stays.counts (counts_on between last after calls.stays.counts hands.counts);
      children = hands.children ∙ ap (λ (l : List Child). l ++ added_by_notice result) (calls.stays.children ∙ first.stays.children);
      cause = record {
        later = omega (arith, first.stays.counts.file_faults, calls.stays.counts.file_faults, hands.counts.file_faults);
        rose = λ bad. absurd (hands.no_fault bad);
      };
      no_temp = λ known. no_temp_after result noted new (then known).placed.no_temp (hands.files known);
      reads = λ known. reads_after number result old noted new
          (reads_sent number script text old middle noted (places known) (then known)
          (notice_held number script text old middle noted (places known) (then known))) (hands.files known);
      files = λ known of notes ready text_is notice. let made = made_first known of notes ready in
          ends_after of notes number old middle new result made
          (handing_ends of (notes ++ []) number script text middle noted new made.ready (text_after notes text_is) notice
          (places known).placed.placed (then known).changes (then known).placed result (hands.files known));
    }
