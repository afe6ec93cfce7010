-- Over sessions, trims, other events and crashes no notice is sent twice: its number is closed by the notes, or a trim
-- dropped its notes, and its job never lives again.
use Rattle.std.proofs.Common.{◌≡◌, ◌∙◌, ℕ, Bool, true, false, not, List, [], ◌∷◌, cond, refl, subst, inl, inr}
use Rattle.std.specs.Prelude.{filter, nat_le}
use Rattle.std.specs.FinMap as finite
use Rattle.std.specs.List.{All}
use Rattle.std.proofs.lemmas.Bool.{and_parts}
use Rattle.host_calls.specs.declared.child.Handed.{Handed}
use Rattle.host_calls.specs.Directory.{Files}
use Rattle.host_calls.specs.World.{HasEachImage, World, reading}
use Rattle.host_calls.proofs.DirectoryLemmas.{reading_is_image}
use Rattle.host_calls.proofs.WorldLemmas.{leaves_weaker}
use Rattle.spool_model.specs.JobTable.{JobTable}
use Rattle.spool_shows.specs.Shown.{Shows}
use Rattle.spool_shows.proofs.Membership.{Has}
use Rattle.step_runs.proofs.ApartLemmas.{all_each}
use Rattle.mail_notes.specs.declared.note.Note.{Note}
use Rattle.mail_notes.specs.Names.{mail_file}
use Rattle.at_mail.specs.Once.{HasWholeNotes, notice_numbers}
use Rattle.at_mail.proofs.OnceBase.{IsOnce, IsShut, KeepsOnce, untouched}
use Rattle.at_mail.proofs.OnceLemmas.{LeavesRetired, NotesNoRetired, beside_keeps, crash_keeps, event_keeps, once_since, whole_once}
use Rattle.at_mail.proofs.SentLemmas.{AreNotes, given_notes, gives_spelled, has, holds_spelled, one_reading}
use Rattle.at_mail.specs.Events.{NoneLivesAgain, NoticesAreHandedOnceWithTrims, TrimEvents, after_another, after_mail, after_trim, crash_of_another, crash_of_mail, crash_of_trim, no_event}
use Rattle.at_mail.specs.Rewriting.{HoldsEither}
use Rattle.at_mail.specs.TrimOutcome.{IsTrimming}
use Rattle.at_mail.specs.TrimmedNotes.{is_live_in, is_over, stays, trimmed}
use Rattle.at_mail.proofs.StayingLemmas.{closed_stays, drawn, gone_over, named_gone, named_stays, not_live, staying}
use Rattle.at_mail.proofs.NamedLemmas.{news_name_none, steps_name_none}

-- the job of the number is over in one of the tables by which trims dropped notes
pub record IsRetired (tables : List JobTable) (number : ℕ) : Type 0 where
  pub table : JobTable
  pub was : Has tables table
  pub over : is_over table number ≡ true

-- and stays so
retired_later : (tables : List JobTable) (table : JobTable) (number : ℕ) → IsRetired tables number → IsRetired (table ∷ tables) number
retired_later tables table number is = record { table = is.table; was = inr is.was; over = is.over }

-- it does not live where a later session begins
retired_dead : (tables : List JobTable) (before : World) (number : ℕ) (later : JobTable) → All (λ table. NoneLivesAgain table before) tables
    → IsRetired tables number
    → Shows (reading before) later → is_live_in later number ≡ false
retired_dead tables before number later none is shown = by_case (is_live_in later number) refl where
  over_parts : (nat_le number is.table.last ≡ true) × (not (is_live_in is.table number) ≡ true)
  over_parts = and_parts (nat_le number is.table.last) (not (is_live_in is.table number)) is.over

  by_case : (lives : Bool) → is_live_in later number ≡ lives → is_live_in later number ≡ false
  by_case true lives = absurd (elim (all_each (λ table. NoneLivesAgain table before) tables none is.table is.was later shown number lives) [
    | inl lived ↦ not_live (is_live_in is.table number) over_parts.1 lived
    | inr new ↦ drawn number is.table.last over_parts.0 new
  ])
  by_case false dead = dead

-- so a session notes nothing of it
sessions_leave : (tables : List JobTable) (before after : World) → All (λ table. NoneLivesAgain table before) tables
    → LeavesRetired (IsRetired tables) before after
sessions_leave tables before after none number is table notes steps read unnamed =
    steps_name_none _ table notes steps read.are number (retired_dead tables before number table none is read.shown) unnamed

notings_leave : (tables : List JobTable) (before after : World) → All (λ table. NoneLivesAgain table before) tables
    → NotesNoRetired (IsRetired tables) before after
notings_leave tables before after none number gone is unnamed =
    news_name_none is.table is.notes is.new_jobs is.are_new.numbers number
    (retired_dead tables before number is.table none gone is.writing.shown)

-- another table retires more numbers
once_later : (tables : List JobTable) (table : JobTable) (opening : List Handed) (image : Files) (handed : List Handed)
    → IsOnce (IsRetired tables) opening image handed
    → IsOnce (IsRetired (table ∷ tables)) opening image handed
once_later tables table opening image handed is = record {
  given = is.given;
  grown = is.grown;
  notes = is.notes;
  gives = is.gives;
  shut = λ number has_it. elim (is.shut number has_it) [
    | inl closed ↦ inl closed
    | inr gone ↦ inr (gone.0, retired_later tables table number gone.1)
  ];
  once = is.once;
}

-- Trims.

notes_filtered : (keep : Note → Bool) (notes : List Note) → AreNotes notes → AreNotes (filter keep notes)
notes_filtered keep [] are = tt
notes_filtered keep (note ∷ later) are = by_test (notes_filtered keep later are.1) (keep note) where
  by_test : AreNotes (filter keep later) → (test : Bool) → AreNotes (cond test (note ∷ filter keep later) (filter keep later))
  by_test rest true = (are.0, rest)
  by_test rest false = rest

-- A trim drops notes by the table.
module _ (tables : List JobTable) (opening : List Handed) (old new : World) (inv : HasEachImage (IsOnce (IsRetired tables) opening) old.now)
    (table : JobTable) (notes : List Note) (is : IsTrimming table notes old new) where
  later : HasEachImage (IsOnce (IsRetired (table ∷ tables)) opening) old.now
  later image of = once_later tables table opening image old.now.handed (inv image of)

  base : IsOnce (IsRetired tables) opening (reading old) old.now.handed
  base = inv (reading old) (reading_is_image old.now.directory)

  same_notes : base.notes ≡ notes
  same_notes = one_reading (finite.get (reading old) mail_file) base.notes notes base.gives
      (gives_spelled (finite.get (reading old) mail_file) notes is.gives)

  are : AreNotes notes
  are = subst AreNotes same_notes (given_notes (finite.get (reading old) mail_file) base.notes base.gives)

  shut_before : (number : ℕ) → has number (notice_numbers base.given) ≡ true → IsShut (IsRetired tables) notes number
  shut_before number has_it = subst (λ (list : List Note). IsShut (IsRetired tables) list number) same_notes (base.shut number has_it)

  -- before the replacement
  all_shut : (number : ℕ) → IsShut (IsRetired tables) notes number → IsShut (IsRetired (table ∷ tables)) notes number
  all_shut number (inl closed) = inl closed
  all_shut number (inr gone) = inr (gone.0, retired_later tables table number gone.1)

  -- and after it
  kept_shut : (number : ℕ) (stay : Bool) → staying table notes number ≡ stay → IsShut (IsRetired tables) notes number
      → IsShut (IsRetired (table ∷ tables)) (trimmed table notes) number
  kept_shut number true stay (inl closed) = inl (closed_stays table notes number stay ∙ closed)
  kept_shut number true stay (inr gone) = inr (named_stays table notes number stay ∙ gone.0, retired_later tables table number gone.1)
  kept_shut number false gone shut =
      inr (named_gone table notes number gone, record { table = table; was = inl refl; over = gone_over table notes number gone })

  trimmed_once : (image : Files) (handed : List Handed) → HoldsEither table notes (trimmed table notes) is.opened.now image handed
      → IsOnce (IsRetired (table ∷ tables)) opening image handed
  trimmed_once image handed holds = elim holds.holds [
    | inl all ↦ record {
      given = base.given;
      grown = holds.as_many ∙ is.is_opened.handed ∙ base.grown;
      notes = notes;
      gives = holds_spelled (finite.get image mail_file) notes are all;
      shut = λ number has_it. all_shut number (shut_before number has_it);
      once = base.once;
    }
    | inr some ↦ record {
      given = base.given;
      grown = holds.as_many ∙ is.is_opened.handed ∙ base.grown;
      notes = trimmed table notes;
      gives = holds_spelled (finite.get image mail_file) (trimmed table notes) (notes_filtered (stays table notes) notes are) some;
      shut = λ number has_it. kept_shut number (staying table notes number) refl (shut_before number has_it);
      once = base.once;
    }
  ]

  opened_once : HasEachImage (IsOnce (IsRetired (table ∷ tables)) opening) is.opened.now
  opened_once image of =
      untouched (IsRetired (table ∷ tables)) opening old is.opened later image is.opened.now.handed (is.is_opened.now image of)

  -- since it has recovered
  trim_keeps : KeepsOnce (IsRetired (table ∷ tables)) opening is.opened new
  trim_keeps = record {
    leaves = leaves_weaker (HoldsEither table notes (trimmed table notes) is.opened.now) (IsOnce (IsRetired (table ∷ tables)) opening) is.opened
        new trimmed_once is.leaves;
    now = λ image of. trimmed_once image new.now.handed (is.now image of);
  }

all_keep : (first last : World) (tables : List JobTable) → HasWholeNotes first.now.directory → TrimEvents first tables last
    → HasEachImage (IsOnce (IsRetired tables) first.now.handed) last.now
all_keep first _ _ are no_event = whole_once (IsRetired []) first.now.directory first.now.handed are
all_keep first _ _ are (after_mail tables before after events none event) =
    (event_keeps (IsRetired tables) first.now.handed before after (all_keep first before tables are events)
    (sessions_leave tables before after none) (notings_leave tables before after none) event).now
all_keep first _ _ are (after_another tables before after events beside) =
    (beside_keeps (IsRetired tables) first.now.handed before after (all_keep first before tables are events) beside).now
all_keep first _ _ are (after_trim tables before after table notes events is) =
    (trim_keeps tables first.now.handed before after (all_keep first before tables are events) table notes is).now
all_keep first _ _ are (crash_of_mail tables before during after events none event crash) =
    let inv = all_keep first before tables are events in
    crash_keeps (IsRetired tables) first.now.handed before during after inv
    (event_keeps (IsRetired tables) first.now.handed before during inv (sessions_leave tables before during none)
    (notings_leave tables before during none) event) crash
all_keep first _ _ are (crash_of_another tables before during after events beside crash) =
    let inv = all_keep first before tables are events in
    crash_keeps (IsRetired tables) first.now.handed before during after inv
    (beside_keeps (IsRetired tables) first.now.handed before during inv beside) crash
all_keep first _ _ are (crash_of_trim tables before during after table notes events is crash) =
    let inv = all_keep first before tables are events in
    crash_keeps (IsRetired (table ∷ tables)) first.now.handed is.opened during after
    (opened_once tables first.now.handed before during inv table notes is)
    (trim_keeps tables first.now.handed before during inv table notes is) crash

pub notices_are_handed_once_with_trims : NoticesAreHandedOnceWithTrims
notices_are_handed_once_with_trims first last tables whole events =
    once_since (IsRetired tables) first.now.handed last (all_keep first last tables whole events)
