-- Files of mail are placed: what that leaves of a run of notes.
use Rattle.std.proofs.Common.{◌≡◌, ◌∙◌, ℕ, List, [], ◌++◌, append-nil, get_or, length, refl, sym, ap, subst, inl, inr, arith}
use Rattle.std.specs.Prelude.{OnOk, Result}
use Rattle.std.specs.FinMap as map
use Rattle.host_calls.specs.declared.fault.HostFault.{HostFault}
use Rattle.host_calls.specs.declared.child.Handed.{Handed}
use Rattle.host_calls.specs.Directory.{Files, Directory, IsImage}
use Rattle.host_calls.specs.World.{LeavesOnly, Moment, World}
use Rattle.host_calls.proofs.WorldLemmas.{leaves_weaker}
use Rattle.whole_file.specs.Others.{ChangesFiles, IsEither, LeavesOthers}
use Rattle.whole_file.specs.Placement.{IsPlaced, IsPlacing}
use Rattle.whole_file.proofs.ChangesJoined.{changes_end, left_alone}
use Rattle.mail_notes.specs.declared.note.Note.{Note}
use Rattle.mail_notes.specs.Hands.{SendsNotices, SendsNoticesByNow, Mailing}
use Rattle.mail_notes.specs.Lines.{HoldsNotes, notes_text}
use Rattle.mail_notes.specs.Names.{IsMailName, mail_file, mail_temp, notice_file}
use Rattle.mail_notes.specs.Runs.{AreNotesMade, AreNotesStopped, IsAlongNotes, HoldsNotesAlone}
use Rattle.mail_session.specs.inside.SentNotice.{Places}

-- an image that holds the notes, before any of the new ones
pub along_none : (of : Mailing) (notes new_ones : List Note) (start : Moment) (image : Files)
    → LeavesOthers IsMailName start.directory image →
    HoldsNotes (map.get image mail_file) notes → IsAlongNotes of notes new_ones start image start.handed
along_none of notes new_ones start image alone holds = record {
  prefix = [];
  is_prefix = (new_ones, refl);
  alone = alone;
  holds = subst (HoldsNotes (map.get image mail_file)) (sym (append-nil notes)) holds;
  given = [];
  grown = sym (append-nil start.handed);
  hands = inl refl;
}

-- and one that holds all of the new ones, once these were sent
pub along_all : (of : Mailing) (notes new_ones : List Note) (start : Moment) (image : Files) (given handed : List Handed) →
    LeavesOthers IsMailName start.directory image → HoldsNotes (map.get image mail_file) (notes ++ new_ones)
    → SendsNoticesByNow of new_ones image given →
    handed ≡ start.handed ++ given → IsAlongNotes of notes new_ones start image handed
along_all of notes new_ones start image given handed alone holds by_now grown = record {
  prefix = new_ones;
  is_prefix = ([], sym (append-nil new_ones));
  alone = alone;
  holds = holds;
  given = given;
  grown = grown;
  hands = by_now;
}

-- Names.

pub notes_apart : mail_temp ≡ mail_file → ⊥
notes_apart is = let unequal : ◌≡◌ {A = ℕ} 84 65 = ap (λ (name : List ℕ). get_or name 2 0) is in omega arith

pub notice_apart : (number : ℕ) → mail_temp ≡ notice_file number → ⊥
notice_apart number is = let unequal : ◌≡◌ {A = ℕ} 5 13 = ap length is in omega arith

-- the notes are not under the name of a notice
pub notes_elsewhere : (number : ℕ) → IsEither mail_temp (notice_file number) mail_file → ⊥
notes_elsewhere number (inl is) = notes_apart (sym is)
notes_elsewhere number (inr is) = let unequal : ◌≡◌ {A = ℕ} 5 13 = ap length is in omega arith

-- nor a notice under that of the notes
pub notice_elsewhere : (number : ℕ) → IsEither mail_temp mail_file (notice_file number) → ⊥
notice_elsewhere number (inl is) = notice_apart number (sym is)
notice_elsewhere number (inr is) = let unequal : ◌≡◌ {A = ℕ} 13 5 = ap length is in omega arith

either_mail : (target name : List ℕ) → IsMailName target → IsEither mail_temp target name → IsMailName name
either_mail target name mail (inl is) = inr (inl is)
either_mail target name mail (inr is) = subst IsMailName (sym is) mail

pub alone_of : (target : List ℕ) → IsMailName target → (start : Directory) (image : Files)
    → LeavesOthers (IsEither mail_temp target) start image →
    LeavesOthers IsMailName start image
alone_of target mail start image is =
    record { from = is.from; was = is.was; others = λ name other. is.others name (λ either. other (either_mail target name mail either)) }

-- the images of a placing's end
pub placing_end : (target bytes : List ℕ) (old new : World)
    → ChangesFiles (IsPlacing mail_temp target bytes old.now.directory) old new → (image : Files) →
    IsImage new.now.directory image → IsPlacing mail_temp target bytes old.now.directory image
placing_end target bytes old new changes =
    changes_end (IsPlacing mail_temp target bytes old.now.directory) old new changes
    (λ one was. record { alone = left_alone (IsEither mail_temp target) old.now.directory one was; placed = inl refl })

-- what a placing leaves, by the names that it was made with
pub placed_under : (temp own target bytes : List ℕ) (old new : World) (result : Result (Unit {0}) HostFault)
    → temp ≡ mail_temp → own ≡ target →
    ChangesFiles (IsPlacing temp own bytes old.now.directory) old new
    → OnOk result (IsPlaced temp own bytes old.now.directory new.now.directory) → Places target bytes old new result
placed_under temp own target bytes old new result temp_is own_is changes placed = record {
  changes = subst (λ (t : List ℕ). ChangesFiles (IsPlacing t target bytes old.now.directory) old new) temp_is
      (subst (λ (o : List ℕ). ChangesFiles (IsPlacing temp o bytes old.now.directory) old new) own_is changes);
  placed = subst (λ (t : List ℕ). OnOk result (IsPlaced t target bytes old.now.directory new.now.directory)) temp_is
      (subst (λ (o : List ℕ). OnOk result (IsPlaced temp o bytes old.now.directory new.now.directory)) own_is placed);
}

-- A notice is placed.
module _ (of : Mailing) (notes new_ones : List Note) (number : ℕ) (script : List ℕ) (old new : World)
    (ready : HoldsNotesAlone notes old.now.directory)
    (changes : ChangesFiles (IsPlacing mail_temp (notice_file number) script old.now.directory) old new) where
  holds_still : (image : Files) → IsPlacing mail_temp (notice_file number) script old.now.directory image
      → HoldsNotes (map.get image mail_file) notes
  holds_still image is = subst (λ held. HoldsNotes held notes) (sym (is.alone.others mail_file (notes_elsewhere number)))
      (ready.holds is.alone.from is.alone.was)

  alone_still : (image : Files) → IsPlacing mail_temp (notice_file number) script old.now.directory image
      → LeavesOthers IsMailName old.now.directory image
  alone_still image is = alone_of (notice_file number) (inr (inr (number, refl))) old.now.directory image is.alone

  along_still : (image : Files) (handed : List Handed) → IsPlacing mail_temp (notice_file number) script old.now.directory image
      × (handed ≡ old.now.handed) →
      IsAlongNotes of notes new_ones old.now image handed
  along_still image handed is =
      subst (IsAlongNotes of notes new_ones old.now image) (sym is.1)
      (along_none of notes new_ones old.now image (alone_still image is.0) (holds_still image is.0))

  leaves_still : LeavesOnly (IsAlongNotes of notes new_ones old.now) old new
  leaves_still = leaves_weaker _ _ old new along_still changes.leaves

  pub notice_stopped : AreNotesStopped of notes [] new_ones [] [] old new
  notice_stopped = record {
    leaves = leaves_still;
    now = λ image is. along_still image new.now.handed (placing_end (notice_file number) script old new changes image is, changes.handed);
    handed = changes.handed ∙ sym (append-nil old.now.handed);
    hands = refl;
    asked = changes.asked ∙ sym (append-nil old.asked);
  }

pub notice_made : (of : Mailing) (notes : List Note) (number : ℕ) (script : List ℕ) (old new : World)
    → HoldsNotesAlone notes old.now.directory →
    ChangesFiles (IsPlacing mail_temp (notice_file number) script old.now.directory) old new →
    IsPlaced mail_temp (notice_file number) script old.now.directory new.now.directory → AreNotesMade of notes [] [] [] old new
notice_made of notes number script old new ready changes placed =
    let stopped = notice_stopped of notes [] number script old new ready changes in
    record {
      leaves = stopped.leaves;
      ready = record {
        holds = λ image is. subst (HoldsNotes (map.get image mail_file)) (sym (append-nil notes))
            (holds_still of notes [] number script old new ready changes image
            (placing_end (notice_file number) script old new changes image is));
        no_temp = placed.no_temp;
      };
      alone = λ image is. alone_still of notes [] number script old new ready changes image
          (placing_end (notice_file number) script old new changes image is);
      handed = stopped.handed;
      hands = refl;
      asked = stopped.asked;
    }

-- Notes are placed, all at once.
module _ (of : Mailing) (notes new_ones : List Note) (text : List ℕ) (old new : World) (ready : HoldsNotesAlone notes old.now.directory)
    (text_is : text ≡ notes_text (notes ++ new_ones))
    (by_now : (image : Files) → IsPlacing mail_temp mail_file text old.now.directory image → SendsNoticesByNow of new_ones image [])
    (changes : ChangesFiles (IsPlacing mail_temp mail_file text old.now.directory) old new) where
  alone_placing : (image : Files) → IsPlacing mail_temp mail_file text old.now.directory image
      → LeavesOthers IsMailName old.now.directory image
  alone_placing image is = alone_of mail_file (inl refl) old.now.directory image is.alone

  along_placing : (image : Files) (handed : List Handed) → IsPlacing mail_temp mail_file text old.now.directory image
      × (handed ≡ old.now.handed) →
      IsAlongNotes of notes new_ones old.now image handed
  along_placing image handed is = elim is.0.placed [
    | inl same ↦ subst (IsAlongNotes of notes new_ones old.now image) (sym is.1)
        (along_none of notes new_ones old.now image (alone_placing image is.0)
        (subst (λ held. HoldsNotes held notes) (sym same) (ready.holds is.0.alone.from is.0.alone.was)))
    | inr new_text ↦ along_all of notes new_ones old.now image [] handed (alone_placing image is.0)
        (subst (λ held. HoldsNotes held (notes ++ new_ones)) (sym new_text) text_is) (by_now image is.0) (is.1
        ∙ sym (append-nil old.now.handed))
  ]

  pub leaves_placing : LeavesOnly (IsAlongNotes of notes new_ones old.now) old new
  leaves_placing = leaves_weaker _ _ old new along_placing changes.leaves

  pub alone_end : (image : Files) → IsImage new.now.directory image → LeavesOthers IsMailName old.now.directory image
  alone_end image is = alone_placing image (placing_end mail_file text old new changes image is)

  pub notes_stopped : AreNotesStopped of notes [] new_ones [] [] old new
  notes_stopped = record {
    leaves = leaves_placing;
    now = λ image is. along_placing image new.now.handed (placing_end mail_file text old new changes image is, changes.handed);
    handed = changes.handed ∙ sym (append-nil old.now.handed);
    hands = refl;
    asked = changes.asked ∙ sym (append-nil old.asked);
  }

  pub ready_placed : IsPlaced mail_temp mail_file text old.now.directory new.now.directory
      → HoldsNotesAlone (notes ++ new_ones) new.now.directory
  ready_placed placed = record {
    holds = λ image is. subst (λ held. HoldsNotes held (notes ++ new_ones)) (sym (placed.placed image is)) text_is;
    no_temp = placed.no_temp;
  }

  pub notes_made : IsPlaced mail_temp mail_file text old.now.directory new.now.directory → SendsNotices of new_ones []
      → AreNotesMade of notes new_ones [] [] old new
  notes_made placed hands = record {
    leaves = leaves_placing;
    ready = ready_placed placed;
    alone = alone_end;
    handed = changes.handed ∙ sym (append-nil old.now.handed);
    hands = hands;
    asked = changes.asked ∙ sym (append-nil old.asked);
  }
