-- What is due is noted and sent, one after another.
use Rattle.std.proofs.Common.{◌≡◌, ◌∙◌, ◌<◌, ◌+◌, ℕ, Bool, true, List, [], ◌∷◌, ◌++◌, append_assoc, append-nil, drop, filter, get_or, length, map, take, refl, sym, ap, subst, inl, arith}
use Rattle.std.specs.Prelude.{IfOk, IsErrAnd, Option, None, Some, Result, Ok, Err, is_some, option_to_list}
use Rattle.std.proofs.lemmas.List.{map-append, take-append-drop, take_more}
use Rattle.std.proofs.lemmas.List.Elements.{filter-append}
use Rattle.host_calls.specs.declared.child.Child.{Child}
use Rattle.host_calls.specs.declared.child.Handed.{Handed}
use Rattle.host_calls.specs.declared.fault.HostFault.{HostFault}
use Rattle.host_calls.specs.declared.fault.HostFault.TheVariants.{Failed, Memory}
use Rattle.host_calls.specs.Directory.{IsInNoImage}
use Rattle.host_calls.specs.Session.{CallsInside, IsInside, Session}
use Rattle.host_calls.specs.World.{World}
use Rattle.host_calls.proofs.SessionLemmas.{counts_on, no_counts}
use Rattle.daemon_turn.specs.declared.kid.Kid.{Kid}
use Rattle.daemon_turn.specs.Kids.{started_numbers}
use Rattle.listing_text.specs.Lines.{turn_text}
use Rattle.listing_text.specs.declared.turn_step.TurnStepText.{TurnStepText}
use Rattle.mail_notes.specs.declared.note.Note.{Note}
use Rattle.mail_notes.specs.declared.note.Note.TheVariants.{Dropped, Noted, Sent}
use Rattle.mail_notes.specs.declared.note.NotedJob.{NotedJob}
use Rattle.mail_notes.specs.Hands.{SendsNotices, IsNoticeOf, Mailing}
use Rattle.mail_notes.specs.Lines.{note_line, notes_text}
use Rattle.mail_notes.specs.Names.{mail_file, mail_temp}
use Rattle.mail_notes.specs.Notices.{notice_text}
use Rattle.mail_notes.specs.Runs.{AreNotesMade}
use Rattle.mail_notes.proofs.RunLemmas.{no_notes_are_made, notes_are_made_after, notes_are_stopped_after}
use Rattle.mail_notes.proofs.TextLemmas.{notes_text-push}
use Rattle.mail_session.specs.declared.due.NoticeDue.{NoticeDue}
use Rattle.mail_session.specs.declared.due.NoticeDue.TheVariants.{Drop, Send}
use Rattle.mail_session.specs.Dues.{AreDue, note_of, notes_of, sent_numbers}
use Rattle.mail_session.specs.DueNotices.{SendsPart, MailPart, MailPartEnds, Posts, kids_of}
use Rattle.mail_session.specs.inside.SentNotice.{Places, Sends}
use Rattle.mail_session.specs.NoticeFiles.{ReadsBeside}
use Rattle.mail_session.proofs.ReadLemmas.{reads_both, reads_none, reads_placed}
use Rattle.mail_session.proofs.NotingLemmas.{notes_made, notes_stopped}
use Rattle.mail_session.proofs.SendLemmas.{no_fault, not_memory, same_fault}

-- nothing was made
abbrev no_part : MailPart
no_part = record { made = []; next = []; added = [] }

pub posts_none : (program : List ℕ) (tells : Bool) (session : Session) (world : World) (was : List ℕ) (kids : List Kid) (sent : List ℕ)
    → IsInside session →
    (tells ≡ true → IsInNoImage world.now.directory mail_temp)
    → Posts program tells session session world world [] was was kids kids sent sent (Ok tt)
posts_none program tells session world was kids sent inside no_temp = record {
  part = no_part;
  inside = inside;
  counts = no_counts session;
  cause = record { later = omega arith; rose = λ bad. absurd (no_fault tt Failed bad) };
  children = sym (append-nil session.children);
  prefix = ([], refl);
  all = refl;
  text = sym (append-nil was);
  kids_are = sym (append-nil kids);
  sent_are = sym (append-nil sent);
  no_temp = no_temp;
  reads = λ known. reads_none world;
  files = λ known of notes same ready text due. record { given = []; numbered = refl; ends = no_notes_are_made of notes world ready };
}

-- the same after room was had for a child and a number
pub posts_with_room : (program : List ℕ) (tells : Bool) (before after : Session) (old new : World)
    (due_notices : List NoticeDue) (was is : List ℕ)
    (kids roomy more : List Kid) (sent wide gone : List ℕ) (result : Result (Unit {0}) HostFault) → roomy ≡ kids → wide ≡ sent →
    Posts program tells before after old new due_notices was is roomy more wide gone result →
    Posts program tells before after old new due_notices was is kids more sent gone result
posts_with_room program tells before after old new due_notices was is kids roomy more sent wide gone result kids_is sent_is posts =
    subst (λ (l : List Kid). Posts program tells before after old new due_notices was is l more sent gone result) kids_is
    (subst (λ (l : List ℕ). Posts program tells before after old new due_notices was is roomy more l gone result) sent_is posts)

-- Lists of two parts.

pub lines_join : (first later : List Note) → notes_text (first ++ later) ≡ notes_text first ++ notes_text later
lines_join [] later = refl
lines_join (note ∷ first) later = ap (λ text. note_line note ++ text) (lines_join first later)
    ∙ sym (append_assoc (note_line note) (notes_text first) (notes_text later))

pub sent_join : (first later : List Note) → sent_numbers (first ++ later) ≡ sent_numbers first ++ sent_numbers later
sent_join [] later = refl
sent_join (Sent number ∷ first) later = ap (λ numbers. number ∷ numbers) (sent_join first later)
sent_join (Noted job ∷ first) later = sent_join first later
sent_join (Dropped number ∷ first) later = sent_join first later

started_join : (given more : List Handed) → started_numbers (given ++ more) ≡ started_numbers given ++ started_numbers more
started_join given more =
    ap (map (λ (handed : Handed). handed.number)) (filter-append (λ (handed : Handed). handed.started) given more)
    ∙ map-append (λ (handed : Handed). handed.number) (filter (λ (handed : Handed). handed.started) given)
    (filter (λ (handed : Handed). handed.started) more)

due_first : (of : Mailing) (first later : List NoticeDue) → AreDue of (first ++ later) → AreDue of first
due_first of [] later due = tt
due_first of (one ∷ first) later due = (due.0, due_first of first later due.1)

due_later : (of : Mailing) (first later : List NoticeDue) → AreDue of (first ++ later) → AreDue of later
due_later of [] later due = due
due_later of (one ∷ first) later due = due_later of first later due.1

ends_then : (of : Mailing) (notes : List Note) (first later : MailPart) (given more : List Handed) (start between end : World)
    (result : Result (Unit {0}) HostFault) →
    AreNotesMade of notes first.made given [] start between → MailPartEnds of (notes ++ first.made) later more between end result →
    MailPartEnds of notes (record { made = first.made ++ later.made; next = later.next; added = first.added ++ later.added })
    (given ++ more) start end result
ends_then of notes first later given more start between end (Ok done) before after =
    notes_are_made_after of notes first.made later.made given more [] [] start between end before after
ends_then of notes first later given more start between end (Err fault) before after =
    notes_are_stopped_after of notes first.made later.made later.next given more [] [] start between end before after

all_then : (first later : List Note) (due_notices others : List NoticeDue) (result : Result (Unit {0}) HostFault)
    → first ≡ notes_of due_notices → IfOk result (λ done. later ≡ notes_of others) →
    IfOk result (λ done. first ++ later ≡ notes_of (due_notices ++ others))
all_then first later due_notices others (Ok done) before after = ap (λ (l : List Note). l ++ later) before
    ∙ ap (λ (l : List Note). notes_of due_notices ++ l) after ∙ sym (map-append note_of due_notices others)
all_then first later due_notices others (Err fault) before after = tt

text_then : (first later : List Note) (was middle is : List ℕ) (result : Result (Unit {0}) HostFault) → middle ≡ was ++ notes_text first
    → IfOk result (λ done. is ≡ middle ++ notes_text later) →
    IfOk result (λ done. is ≡ was ++ notes_text (first ++ later))
text_then first later was middle is (Ok done) before after =
    after ∙ ap (λ text. text ++ notes_text later) before ∙ append_assoc was (notes_text first) (notes_text later)
    ∙ ap (λ text. was ++ text) (sym (lines_join first later))
text_then first later was middle is (Err fault) before after = tt

-- What is due after what was made.
pub posts_then : (program : List ℕ) (tells : Bool) (before between after : Session) (start middle end : World)
    (due_notices others : List NoticeDue) (was text is : List ℕ)
    (kids more last : List Kid) (sent gone over : List ℕ) (result : Result (Unit {0}) HostFault) →
    Posts program tells before between start middle due_notices was text kids more sent gone (Ok tt) →
    Posts program tells between after middle end others text is more last gone over result →
    Posts program tells before after start end (due_notices ++ others) was is kids last sent over result
posts_then program tells before between after start middle end due_notices others was text is kids more last sent gone over
    result one other = record {
      part = record { made = one.part.made ++ other.part.made; next = other.part.next; added = one.part.added ++ other.part.added };
      inside = other.inside;
      counts = counts_on before between after one.counts other.counts;
      cause = record {
        later = omega (arith, one.counts.file_faults, other.counts.file_faults);
        rose = λ bad. omega (arith, one.counts.file_faults, other.cause.rose bad);
      };
      children = other.children ∙ ap (λ (l : List Child). l ++ map (λ (kid : Kid). kid.child) other.part.added) one.children
          ∙ append_assoc before.children (map (λ (kid : Kid). kid.child) one.part.added) (map (λ (kid : Kid). kid.child) other.part.added)
          ∙ ap (λ (l : List Child). before.children ++ l) (sym (map-append (λ (kid : Kid). kid.child) one.part.added other.part.added));
      prefix = (
        other.prefix.0,
        map-append note_of due_notices others ∙ ap (λ (l : List Note). l ++ notes_of others) (sym one.all)
            ∙ ap (λ (l : List Note). one.part.made ++ l) other.prefix.1
            ∙ sym (append_assoc one.part.made (other.part.made ++ other.part.next) other.prefix.0)
            ∙ ap (λ (l : List Note). l ++ other.prefix.0) (sym (append_assoc one.part.made other.part.made other.part.next)),
      );
      all = all_then one.part.made other.part.made due_notices others result one.all other.all;
      text = text_then one.part.made other.part.made was text is result one.text other.text;
      kids_are = other.kids_are ∙ ap (λ (l : List Kid). l ++ other.part.added) one.kids_are
          ∙ append_assoc kids one.part.added other.part.added;
      sent_are = other.sent_are ∙ ap (λ (l : List ℕ). l ++ sent_numbers other.part.made) one.sent_are
          ∙ append_assoc sent (sent_numbers one.part.made) (sent_numbers other.part.made)
          ∙ ap (λ (l : List ℕ). sent ++ l) (sym (sent_join one.part.made other.part.made));
      no_temp = other.no_temp;
      reads = λ known. subst (λ (l : List ℕ). IfOk result (λ done. ReadsBeside l start end)) (sym (sent_join one.part.made other.part.made))
          (reads_both (sent_numbers one.part.made) (sent_numbers other.part.made) start middle end result
          (one.reads known) (other.reads known));
      files = λ known of notes same ready text_is due.
          let first : SendsPart of notes one.part start middle (Ok tt) =
          one.files known of notes same ready text_is (due_first of due_notices others due) in
          let made : AreNotesMade of notes one.part.made first.given [] start middle = first.ends in
          let text_now : text ≡ notes_text (notes ++ one.part.made) = one.text ∙ ap (λ t. t ++ notes_text one.part.made) text_is
          ∙ sym (lines_join notes one.part.made) in
          let second : SendsPart of (notes ++ one.part.made) other.part middle end result =
          other.files known of (notes ++ one.part.made) same made.ready text_now (due_later of due_notices others due) in
          record {
            given = first.given ++ second.given;
            numbered = started_join first.given second.given ∙ ap (λ (l : List ℕ). l ++ started_numbers second.given) first.numbered
                ∙ ap (λ (l : List ℕ). map (λ (kid : Kid). kid.number) one.part.added ++ l) second.numbered
                ∙ sym (map-append (λ (kid : Kid). kid.number) one.part.added other.part.added);
            ends = ends_then of notes one.part other.part first.given second.given start middle end result made second.ends;
          };
    }

-- what was stopped at some of what is due is stopped at all of it
pub posts_longer : (program : List ℕ) (tells : Bool) (before after : Session) (old new : World) (due_notices others : List NoticeDue)
    (was is : List ℕ) (kids more : List Kid)
    (sent gone : List ℕ) (fault : HostFault) → Posts program tells before after old new due_notices was is kids more sent gone (Err fault) →
    Posts program tells before after old new (due_notices ++ others) was is kids more sent gone (Err fault)
posts_longer program tells before after old new due_notices others was is kids more sent gone fault posts = record {
  part = posts.part;
  inside = posts.inside;
  counts = posts.counts;
  cause = posts.cause;
  children = posts.children;
  prefix = (
    posts.prefix.0 ++ notes_of others,
    map-append note_of due_notices others ∙ ap (λ (l : List Note). l ++ notes_of others) posts.prefix.1
        ∙ append_assoc (posts.part.made ++ posts.part.next) posts.prefix.0 (notes_of others),
  );
  all = tt;
  text = tt;
  kids_are = posts.kids_are;
  sent_are = posts.sent_are;
  no_temp = λ known. tt;
  reads = λ known. tt;
  files = λ known of notes same ready text_is due.
      let gives = posts.files known of notes same ready text_is (due_first of due_notices others due) in
      record { given = gives.given; numbered = gives.numbered; ends = gives.ends };
}

-- a fault that is handed on
pub posts_at : (program : List ℕ) (tells : Bool) (before after : Session) (old new : World) (due_notices : List NoticeDue)
    (was is : List ℕ) (kids more : List Kid)
    (sent gone : List ℕ) (fault : HostFault) (result : Result (Unit {0}) HostFault) → IsErrAnd result (λ other. other ≡ fault) →
    Posts program tells before after old new due_notices was is kids more sent gone (Err fault)
    → Posts program tells before after old new due_notices was is kids more sent gone result
posts_at program tells before after old new due_notices was is kids more sent gone fault (Ok done) same posts = absurd same
posts_at program tells before after old new due_notices was is kids more sent gone fault (Err other) same posts =
    subst (λ (of : HostFault). Posts program tells before after old new due_notices was is kids more sent gone (Err of)) (sym same) posts

-- One thing that is due.
module _ (program : List ℕ) (tells : Bool) (before : Session) (old : World) (due : NoticeDue) (was is : List ℕ) (kids : List Kid)
    (sent : List ℕ) (inside : IsInside before) where
  -- memory ran out before the first change
  pub posts_nothing : Posts program tells before before old old (due ∷ []) was is kids kids sent sent (Err Memory)
  posts_nothing = record {
    part = no_part;
    inside = inside;
    counts = no_counts before;
    cause = record { later = omega arith; rose = λ bad. absurd (not_memory bad) };
    children = sym (append-nil before.children);
    prefix = (note_of due ∷ [], refl);
    all = tt;
    text = tt;
    kids_are = sym (append-nil kids);
    sent_are = sym (append-nil sent);
    no_temp = λ known. tt;
    reads = λ known. tt;
    files = λ known of notes same ready text_is is_due.
        let made = no_notes_are_made of notes old ready in
        record {
          given = [];
          numbered = refl;
          ends = record {
            leaves = made.leaves;
            now = λ image of_it. record {
              prefix = [];
              is_prefix = ([], refl);
              alone = record { from = image; was = of_it; others = λ name other. refl };
              holds = made.ready.holds image of_it;
              given = [];
              grown = sym (append-nil old.now.handed);
              hands = inl refl;
            };
            handed = made.handed;
            hands = refl;
            asked = made.asked;
          };
        };
  }

line_one : (note : Note) → note_line note ≡ notes_text (note ∷ [])
line_one note = sym (append-nil (note_line note))

text_with : (notes : List Note) (note : Note) (was is : List ℕ) → is ≡ was ++ note_line note → was ≡ notes_text notes
    → is ≡ notes_text (notes ++ note ∷ [])
text_with notes note was is added of = added ∙ ap (λ text. text ++ note_line note) of ∙ sym (notes_text-push notes note)

-- A note that has no notice is placed.
module _ (program : List ℕ) (tells : Bool) (before after : Session) (old new : World) (number : ℕ) (was is : List ℕ)
    (kids : List Kid) (sent : List ℕ)
    (added : is ≡ was ++ note_line (Dropped number)) where
  quiet : (of : Mailing) → SendsNotices of (Dropped number ∷ []) []
  quiet of = ([], [], refl, refl, refl)

  pub dropped : CallsInside {T = Unit {0}} Failed before after (Ok tt) → (tells ≡ true → Places mail_file is old new (Ok tt)) →
      Posts program tells before after old new (Drop number ∷ []) was is kids kids sent sent (Ok tt)
  dropped calls places = record {
    part = record { made = Dropped number ∷ []; next = []; added = [] };
    inside = calls.stays.inside;
    counts = calls.stays.counts;
    cause = calls.cause;
    children = calls.stays.children ∙ sym (append-nil before.children);
    prefix = ([], refl);
    all = refl;
    text = added ∙ ap (λ text. was ++ text) (line_one (Dropped number));
    kids_are = sym (append-nil kids);
    sent_are = sym (append-nil sent);
    no_temp = λ known. (places known).placed.no_temp;
    reads = λ known. reads_placed is old new (places known).placed;
    files = λ known of notes same ready text_is due. record {
      given = [];
      numbered = refl;
      ends = notes_made of notes (Dropped number ∷ []) is old new ready (text_with notes (Dropped number) was is added text_is)
          (λ image is. inl (quiet of))
          (places known).changes (places known).placed (quiet of);
    };
  }

  pub not_dropped : (fault : HostFault) → CallsInside {T = Unit {0}} Failed before after (Err fault)
      → (tells ≡ true → Places mail_file is old new (Err fault)) →
      Posts program tells before after old new (Drop number ∷ []) was is kids kids sent sent (Err fault)
  not_dropped fault calls places = record {
    part = record { made = []; next = Dropped number ∷ []; added = [] };
    inside = calls.stays.inside;
    counts = calls.stays.counts;
    cause = calls.cause;
    children = calls.stays.children ∙ sym (append-nil before.children);
    prefix = ([], refl);
    all = tt;
    text = tt;
    kids_are = sym (append-nil kids);
    sent_are = sym (append-nil sent);
    no_temp = λ known. tt;
    reads = λ known. tt;
    files = λ known of notes same ready text_is due. record {
      given = [];
      numbered = refl;
      ends = notes_stopped of notes (Dropped number ∷ []) is old new ready (text_with notes (Dropped number) was is added text_is)
          (λ image is. inl (quiet of)) (places known).changes;
    };
  }

  pub drop_ends : (result : Result (Unit {0}) HostFault) → CallsInside {T = Unit {0}} Failed before after result
      → (tells ≡ true → Places mail_file is old new result) →
      Posts program tells before after old new (Drop number ∷ []) was is kids kids sent sent result
  drop_ends (Ok done) calls places = dropped calls places
  drop_ends (Err fault) calls places = not_dropped fault calls places

children_of : (number : ℕ) (child : Option Child) → option_to_list child ≡ map (λ (kid : Kid). kid.child) (kids_of number child)
children_of number None = refl
children_of number (Some child) = refl

started_of_one : (number : ℕ) (child : Option Child) (handed : Handed) → handed.number ≡ number → handed.started ≡ is_some child →
    started_numbers (handed ∷ []) ≡ map (λ (kid : Kid). kid.number) (kids_of number child)
started_of_one number None handed number_is started = rw started refl
started_of_one number (Some child) handed number_is started = rw started (ap (λ n. n ∷ []) number_is)

-- A notice is sent.
module _ (program : List ℕ) (tells : Bool) (before after : Session) (old new : World) (job : NotedJob) (end : TurnStepText)
    (script : List ℕ) (was is : List ℕ)
    (kids more : List Kid) (sent gone : List ℕ) (added : is ≡ was ++ note_line (Sent job.number))
    (script_is : script ≡ notice_text program job (turn_text end)) where
  notice_of : (of : Mailing) → of.program ≡ program → AreDue of (Send job end ∷ []) → IsNoticeOf of job.number script
  notice_of of same due = record {
    job = job;
    noted = due.0.0;
    number_is = refl;
    end = end;
    ended = due.0.1;
    script_is = script_is ∙ ap (λ (by : List ℕ). notice_text by job (turn_text end)) (sym same);
  }

  pub sent_one : (child : Option Child) → Sends tells before after old new job.number script is (Ok child)
      → more ≡ kids ++ kids_of job.number child → gone ≡ sent ++ job.number ∷ [] →
      Posts program tells before after old new (Send job end ∷ []) was is kids more sent gone (Ok tt)
  sent_one child sends kept noted = record {
    part = record { made = Sent job.number ∷ []; next = []; added = kids_of job.number child };
    inside = sends.inside;
    counts = sends.counts;
    cause = record { later = sends.cause.later; rose = λ bad. absurd (no_fault tt Failed bad) };
    children = sends.children ∙ ap (λ (l : List Child). before.children ++ l) (children_of job.number child);
    prefix = ([], refl);
    all = refl;
    text = added ∙ ap (λ text. was ++ text) (line_one (Sent job.number));
    kids_are = kept;
    sent_are = noted;
    no_temp = sends.no_temp;
    reads = sends.reads;
    files = λ known of notes same ready text_is due.
        let ends = sends.files known of notes ready (text_with notes (Sent job.number) was is added text_is) (notice_of of same due) in
        record { given = ends.0 ∷ []; numbered = started_of_one job.number child ends.0 ends.1.number_is ends.2; ends = ends.3 };
  }

  pub not_sent : (fault : HostFault) → Sends tells before after old new job.number script is (Err fault) →
      Posts program tells before after old new (Send job end ∷ []) was is kids kids sent sent (Err fault)
  not_sent fault sends = record {
    part = record { made = []; next = Sent job.number ∷ []; added = [] };
    inside = sends.inside;
    counts = sends.counts;
    cause = record {
      later = sends.cause.later;
      rose = λ bad. sends.cause.rose (ap (λ (of : HostFault). Err of) (same_fault fault Failed bad));
    };
    children = sends.children;
    prefix = ([], refl);
    all = tt;
    text = tt;
    kids_are = sym (append-nil kids);
    sent_are = sym (append-nil sent);
    no_temp = λ known. tt;
    reads = λ known. tt;
    files = λ known of notes same ready text_is due. record {
      given = [];
      numbered = refl;
      ends = sends.files known of notes ready (text_with notes (Sent job.number) was is added text_is) (notice_of of same due);
    };
  }

-- One thing more of what is due.
pub take_one : (due_notices : List NoticeDue) (place : ℕ) (due : NoticeDue) → place < length due_notices
    → due ≡ get_or due_notices place due → take (place + 1) due_notices ≡ take place due_notices ++ due ∷ []
take_one due_notices place due inside is = take_more due_notices place due inside
    ∙ ap (λ (one : NoticeDue). take place due_notices ++ one ∷ []) (sym is)

pub all_of : (due_notices : List NoticeDue) (place : ℕ) (due : NoticeDue) → place < length due_notices → due ≡ get_or due_notices place due
    → (take place due_notices ++ due ∷ []) ++ drop (place + 1) due_notices ≡ due_notices
all_of due_notices place due inside is =
    ap (λ (l : List NoticeDue). l ++ drop (place + 1) due_notices) (sym (take_one due_notices place due inside is))
    ∙ take-append-drop (place + 1) due_notices
