-- Runs of notes, one after another.
use Rattle.std.proofs.Common.{◌≡◌, List, [], ◌∷◌, ◌++◌, append_assoc, append-nil, sym, ap, subst, ◌∙◌, refl, inl, inr}
use Rattle.std.specs.FinMap as map
use Rattle.host_calls.specs.declared.child.Asked.{Asked}
use Rattle.host_calls.specs.declared.child.Handed.{Handed}
use Rattle.host_calls.specs.Directory.{Files, Directory, IsImage}
use Rattle.host_calls.specs.World.{LeavesOnly, World}
use Rattle.host_calls.proofs.WorldLemmas.{leaves_none, leaves_then, leaves_weaker}
use Rattle.whole_file.specs.Others.{LeavesOthers}
use Rattle.mail_notes.specs.declared.note.Note.{Note}
use Rattle.mail_notes.specs.declared.note.Note.TheVariants.{Sent}
use Rattle.mail_notes.specs.Hands.{SendsNotices, SendsNoticesByNow, LacksLastNotice, Mailing}
use Rattle.mail_notes.specs.Laws.{NoNotesAreMade, NotesAreMadeAfter, NotesAreStoppedAfter}
use Rattle.mail_notes.specs.Lines.{HoldsNotes}
use Rattle.mail_notes.specs.Names.{IsMailName, mail_file}
use Rattle.mail_notes.specs.Notes.{IsNotesPrefix}
use Rattle.mail_notes.specs.Runs.{AreNotesMade, IsAlongNotes, HoldsNotesAlone}

-- a prefix is one of more notes too
first_of_more : (prefix first later : List Note) → IsNotesPrefix prefix first → IsNotesPrefix prefix (first ++ later)
first_of_more prefix first later is = (is.0 ++ later, ap (λ (l : List Note). l ++ later) is.1 ∙ append_assoc prefix is.0 later)

-- notes and a prefix of those after them are a prefix of all
first_after : (first prefix later : List Note) → IsNotesPrefix prefix later → IsNotesPrefix (first ++ prefix) (first ++ later)
first_after first prefix later is = (is.0, ap (λ (l : List Note). first ++ l) is.1 ∙ sym (append_assoc first prefix is.0))

-- what notes send, and what others after them do
pub hands_then : (of : Mailing) (first later : List Note) (given more : List Handed) → SendsNotices of first given
    → SendsNotices of later more →
    SendsNotices of (first ++ later) (given ++ more)
hands_then of [] later given more before after = subst (λ (l : List Handed). SendsNotices of later (l ++ more)) (sym before) after
hands_then of (note ∷ others) later given more before after = (
  before.0,
  before.1 ++ more,
  before.2,
  hands_then of others later before.1 more before.3 after,
  ap (λ (l : List Handed). l ++ more) before.4 ∙ append_assoc before.0 before.1 more,
)

-- where the last notice of later notes is wanting, it is wanting after earlier ones too
lacks_then : (of : Mailing) (first later : List Note) (image : Files) (given more : List Handed) → SendsNotices of first given →
    LacksLastNotice of later image more → LacksLastNotice of (first ++ later) image (given ++ more)
lacks_then of first later image given more before lacks = record {
  earlier = first ++ lacks.earlier;
  number = lacks.number;
  ends = ap (λ (l : List Note). first ++ l) lacks.ends ∙ sym (append_assoc first lacks.earlier (Sent lacks.number ∷ []));
  placed = lacks.placed;
  hands = hands_then of first lacks.earlier given more before lacks.hands;
}

by_now_then : (of : Mailing) (first later : List Note) (image : Files) (given more : List Handed) → SendsNotices of first given →
    SendsNoticesByNow of later image more → SendsNoticesByNow of (first ++ later) image (given ++ more)
by_now_then of first later image given more before by_now = elim by_now [
  | inl all ↦ inl (hands_then of first later given more before all)
  | inr lacks ↦ inr (lacks_then of first later image given more before lacks)
]

-- what leaves the files of an image alone leaves those alone that the image left
pub alone_then : (start middle : Directory) (image : Files) → ((from : Files) → IsImage middle from → LeavesOthers IsMailName start from) →
    LeavesOthers IsMailName middle image → LeavesOthers IsMailName start image
alone_then start middle image before after = record {
  from = (before after.from after.was).from;
  was = (before after.from after.was).was;
  others = λ name other. after.others name other ∙ (before after.from after.was).others name other;
}

-- an image along notes is along more of them
along_longer : (of : Mailing) (notes first later : List Note) (start : World) (image : Files) (handed : List Handed) →
    IsAlongNotes of notes first start.now image handed → IsAlongNotes of notes (first ++ later) start.now image handed
along_longer of notes first later start image handed is = record {
  prefix = is.prefix;
  is_prefix = first_of_more is.prefix first later is.is_prefix;
  alone = is.alone;
  holds = is.holds;
  given = is.given;
  grown = is.grown;
  hands = is.hands;
}

-- an image along later notes is along all, where the earlier ones were made
along_after : (of : Mailing) (notes first later : List Note) (given : List Handed) (questions : List Asked) (start middle : World) →
    AreNotesMade of notes first given questions start middle → (image : Files) (handed : List Handed) →
    IsAlongNotes of (notes ++ first) later middle.now image handed → IsAlongNotes of notes (first ++ later) start.now image handed
along_after of notes first later given questions start middle before image handed is = record {
  prefix = first ++ is.prefix;
  is_prefix = first_after first is.prefix later is.is_prefix;
  alone = alone_then start.now.directory middle.now.directory image before.alone is.alone;
  holds = subst (HoldsNotes (map.get image mail_file)) (append_assoc notes first is.prefix) is.holds;
  given = given ++ is.given;
  grown = is.grown ∙ ap (λ (l : List Handed). l ++ is.given) before.handed ∙ append_assoc start.now.handed given is.given;
  hands = by_now_then of first is.prefix image given is.given before.hands is.hands;
}

-- what later notes leave, they leave of all
leaves_after : (of : Mailing) (notes first later : List Note) (given : List Handed) (questions : List Asked) (start middle end : World) →
    AreNotesMade of notes first given questions start middle → LeavesOnly (IsAlongNotes of (notes ++ first) later middle.now) middle end →
    LeavesOnly (IsAlongNotes of notes (first ++ later) start.now) start end
leaves_after of notes first later given questions start middle end before after =
    leaves_then (IsAlongNotes of notes (first ++ later) start.now) start middle end
    (leaves_weaker (IsAlongNotes of notes first start.now) (IsAlongNotes of notes (first ++ later) start.now) start middle
    (along_longer of notes first later start) before.leaves)
    (leaves_weaker (IsAlongNotes of (notes ++ first) later middle.now) (IsAlongNotes of notes (first ++ later) start.now) middle end
    (along_after of notes first later given questions start middle before) after)

pub no_notes_are_made : NoNotesAreMade
no_notes_are_made of notes world ready = record {
  leaves = leaves_none (IsAlongNotes of notes [] world.now) world world refl;
  ready = subst (λ (all : List Note). HoldsNotesAlone all world.now.directory) (sym (append-nil notes)) ready;
  alone = λ image is. record { from = image; was = is; others = λ name other. refl };
  handed = sym (append-nil world.now.handed);
  hands = refl;
  asked = sym (append-nil world.asked);
}

pub notes_are_made_after : NotesAreMadeAfter
notes_are_made_after of notes first later given more questions others start middle end before after = record {
  leaves = leaves_after of notes first later given questions start middle end before after.leaves;
  ready = subst (λ (all : List Note). HoldsNotesAlone all end.now.directory) (append_assoc notes first later) after.ready;
  alone = λ image is. alone_then start.now.directory middle.now.directory image before.alone (after.alone image is);
  handed = after.handed ∙ ap (λ (l : List Handed). l ++ more) before.handed ∙ append_assoc start.now.handed given more;
  hands = hands_then of first later given more before.hands after.hands;
  asked = after.asked ∙ ap (λ (l : List Asked). l ++ others) before.asked ∙ append_assoc start.asked questions others;
}

pub notes_are_stopped_after : NotesAreStoppedAfter
notes_are_stopped_after of notes first later next given more questions others start middle end before after = record {
  leaves = subst (λ (all : List Note). LeavesOnly (IsAlongNotes of notes all start.now) start end) regrouped
      (leaves_after of notes first (later ++ next) given questions start middle end before after.leaves);
  now = λ image is. subst (λ (all : List Note). IsAlongNotes of notes all start.now image end.now.handed) regrouped
      (along_after of notes first (later ++ next) given questions start middle before image end.now.handed (after.now image is));
  handed = after.handed ∙ ap (λ (l : List Handed). l ++ more) before.handed ∙ append_assoc start.now.handed given more;
  hands = hands_then of first later given more before.hands after.hands;
  asked = after.asked ∙ ap (λ (l : List Asked). l ++ others) before.asked ∙ append_assoc start.asked questions others;
} where
  regrouped : first ++ (later ++ next) ≡ (first ++ later) ++ next
  regrouped = sym (append_assoc first later next)
