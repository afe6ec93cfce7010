-- The parts of a session of mail.
use Rattle.std.proofs.Common.{◌≡◌, ◌≢◌, ◌∙◌, ℕ, List, [], ◌++◌, Option, Some, None, append-nil, refl, sym, ap, subst, inl, inr, arith}
use Rattle.std.specs.Prelude.{Contains, IsSome}
use Rattle.std.specs.FinMap as map
use Rattle.host_calls.specs.declared.child.Handed.{Handed}
use Rattle.host_calls.specs.Directory.{Files, Directory, IsImage}
use Rattle.host_calls.specs.World.{HasEachImage, LeavesOnly, World, reading}
use Rattle.host_calls.proofs.WorldLemmas.{leaves_then, leaves_weaker}
use Rattle.spool_model.specs.JobTable.{JobTable}
use Rattle.step_runs.specs.Calls.{ShowsAsBefore}
use Rattle.step_runs.specs.Current.{EachShows}
use Rattle.spool_store.proofs.BesideLemmas.{shows_the_same}
use Rattle.whole_file.specs.Removal.{AreCleared, IsClearing}
use Rattle.whole_file.specs.Others.{ChangesFiles, LeavesOthers}
use Rattle.whole_file.proofs.ChangesJoined.{changes_end, left_alone}
use Rattle.mail_notes.specs.declared.note.Note.{Note}
use Rattle.mail_notes.specs.Hands.{Mailing}
use Rattle.mail_notes.specs.Lines.{HoldsNotes}
use Rattle.mail_notes.specs.Names.{IsMailName, mail_file, mail_temp}
use Rattle.mail_notes.specs.Runs.{IsAlongNotes}
use Rattle.mail_notes.proofs.NameLemmas.{mail_is_none_of_the_stores}
use Rattle.mail_session.specs.Laws.{LeftoversAreCleared, RecoveriesOpen, SessionsPost, StoppedSessionsPost}
use Rattle.mail_session.specs.Sessions.{HasPosted, IsCleared, AreNotesOpened, IsPosted, IsMailUntouched, ShowsBeside}

-- Recovery.

untouched_by : (start : World) (image : Files) (handed : List Handed)
    → ShowsAsBefore start.now.directory image × (handed ≡ start.now.handed) → IsMailUntouched start.now image handed
untouched_by start image handed is = record {
  beside = record { from = is.0.from; was = is.0.was; shown = is.0.same; others = λ name spool mail. is.0.others name spool };
  same = is.0.others mail_file (mail_is_none_of_the_stores mail_file (inl refl));
  as_many = is.1;
}

-- a recovery leaves each image as one of the start was
pub recovery_leaves : (start opened : World) → ChangesFiles (ShowsAsBefore start.now.directory) start opened
    → LeavesOnly (IsMailUntouched start.now) start opened
recovery_leaves start opened changes = leaves_weaker _ _ start opened (untouched_by start) changes.leaves

pub recovery_now : (start opened : World) → ChangesFiles (ShowsAsBefore start.now.directory) start opened
    → HasEachImage (IsMailUntouched start.now) opened.now
recovery_now start opened changes image of_it = untouched_by start image opened.now.handed (
  changes_end (ShowsAsBefore start.now.directory) start opened changes
      (λ one was. record { from = one; was = was; same = refl; others = λ name other. refl }) image of_it,
  changes.handed,
)

pub recoveries_open : RecoveriesOpen
recoveries_open kept notes start opened changes is holds = record {
  leaves = recovery_leaves start opened changes;
  now = recovery_now start opened changes;
  handed = changes.handed;
  shows = is.current.shows;
  holds = holds;
  durable = λ image of_it name mail. is.durable_others image of_it name (mail_is_none_of_the_stores name mail);
}

-- What leaves other files than the mail's alone shows the same.

beside_then : (start middle : Directory) (image : Files) → ((from : Files) → IsImage middle from → ShowsBeside start from)
    → LeavesOthers IsMailName middle image → ShowsBeside start image
beside_then start middle image before alone =
    let earlier = before alone.from alone.was in
    record {
      from = earlier.from;
      was = earlier.was;
      shown = shows_the_same IsMailName mail_is_none_of_the_stores middle image alone ∙ earlier.shown;
      others = λ name spool mail. alone.others name mail ∙ earlier.others name spool mail;
    }

-- Left-over files.

module _ (notes : List Note) (table : JobTable) (names : List (List ℕ)) (start opened cleared : World)
    (is : AreNotesOpened notes table start opened)
    (of_mail : (name : List ℕ) → Contains names name → IsMailName name × (name ≢ mail_file))
    (changes : ChangesFiles (IsClearing names opened.now.directory) opened cleared) where
  alone_clearing : (image : Files) → IsClearing names opened.now.directory image → LeavesOthers IsMailName opened.now.directory image
  alone_clearing image gone = record {
    from = gone.alone.from;
    was = gone.alone.was;
    others = λ name other. gone.alone.others name (λ has. other (of_mail name has).0);
  }

  notes_kept : (image : Files) → (gone : IsClearing names opened.now.directory image)
      → map.get image mail_file ≡ map.get gone.alone.from mail_file
  notes_kept image gone = gone.alone.others mail_file (λ has. (of_mail mail_file has).1 refl)

  untouched_still : (image : Files) (handed : List Handed) → IsClearing names opened.now.directory image × (handed ≡ opened.now.handed)
      → IsMailUntouched start.now image handed
  unfolding beside_then alone_clearing
  untouched_still image handed gone =
      let earlier = is.now gone.0.alone.from gone.0.alone.was in
      record {
        beside =
            beside_then start.now.directory opened.now.directory image (λ from was. (is.now from was).beside) (alone_clearing image gone.0);
        same = notes_kept image gone.0 ∙ earlier.same;
        as_many = gone.1 ∙ is.handed;
      }

  clearing_end : (image : Files) → IsImage cleared.now.directory image → IsClearing names opened.now.directory image
  clearing_end = changes_end (IsClearing names opened.now.directory) opened cleared changes
      (λ one was. record { alone = left_alone (Contains names) opened.now.directory one was; less = λ name. inl refl })

  -- a file that is being made is in no image
  no_temp : (IsSome (map.get (reading opened) mail_temp) → Contains names mail_temp)
      → (names ≢ [] → AreCleared names opened.now.directory cleared.now.directory) →
      (held : Option (List ℕ)) → map.get (reading opened) mail_temp ≡ held → (image : Files) → IsImage cleared.now.directory image
      → map.get image mail_temp ≡ None
  no_temp among gone None lacks image of_it =
      let clearing = clearing_end image of_it in
      elim (clearing.less mail_temp) [
        | inl same ↦ same ∙ is.durable clearing.alone.from clearing.alone.was mail_temp (inr (inl refl)) ∙ lacks
        | inr none ↦ none
      ]
  no_temp among gone (Some bytes) has image of_it =
      let contained : Contains names mail_temp = among (subst IsSome (sym has) refl) in
      (gone (λ none. not_in_none (subst (λ (l : List (List ℕ)). Contains l mail_temp) none contained))).gone mail_temp contained image of_it
    where
      not_in_none : Contains [] mail_temp → ⊥
      not_in_none inside = omega (arith, inside.1)

pub leftovers_are_cleared : LeftoversAreCleared
unfolding clearing_end alone_clearing
leftovers_are_cleared notes table names start opened cleared is of_mail among changes gone = record {
  leaves = leaves_then (IsMailUntouched start.now) start opened cleared is.leaves
      (leaves_weaker _ (IsMailUntouched start.now) opened cleared
      (untouched_still notes table names start opened cleared is of_mail changes) changes.leaves);
  now = λ image of_it. untouched_still notes table names start opened cleared is of_mail changes image cleared.now.handed
      (clearing_end notes table names start opened cleared is of_mail changes image of_it, changes.handed);
  handed = changes.handed ∙ is.handed;
  shows = λ image of_it.
      let clearing = clearing_end notes table names start opened cleared is of_mail changes image of_it in
      shows_the_same IsMailName mail_is_none_of_the_stores opened.now.directory image
      (alone_clearing notes table names start opened cleared is of_mail changes image clearing)
      ∙ is.shows clearing.alone.from clearing.alone.was;
  ready = record {
    holds = λ image of_it.
        let clearing = clearing_end notes table names start opened cleared is of_mail changes image of_it in
        subst (λ held. HoldsNotes held notes)
        (sym (notes_kept notes table names start opened cleared is of_mail changes image clearing
        ∙ is.durable clearing.alone.from clearing.alone.was mail_file (inl refl))) is.holds;
    no_temp = no_temp notes table names start opened cleared is of_mail changes among gone (map.get (reading opened) mail_temp) refl;
  };
}

-- Notes.

untouched_posted : (of : Mailing) (notes new_ones : List Note) (start : World) (image : Files) (handed : List Handed)
    → IsMailUntouched start.now image handed →
    IsPosted of notes new_ones start.now image handed
untouched_posted of notes new_ones start image handed is = record { beside = is.beside; mail = inl (is.same, is.as_many) }

along_posted : (of : Mailing) (notes new_ones : List Note) (table : JobTable) (start cleared : World) → IsCleared notes table start cleared
    → (image : Files) (handed : List Handed) →
    IsAlongNotes of notes new_ones cleared.now image handed → IsPosted of notes new_ones start.now image handed
along_posted of notes new_ones table start cleared is image handed along = record {
  beside = beside_then start.now.directory cleared.now.directory image (λ from was. (is.now from was).beside) along.alone;
  mail = inr (record {
    prefix = along.prefix;
    is_prefix = along.is_prefix;
    holds = along.holds;
    given = along.given;
    grown = along.grown ∙ ap (λ (l : List Handed). l ++ along.given) is.handed;
    hands = along.hands;
  });
}

leaves_posted : (of : Mailing) (notes new_ones : List Note) (table : JobTable) (start cleared end : World)
    → IsCleared notes table start cleared →
    LeavesOnly (IsAlongNotes of notes new_ones cleared.now) cleared end → LeavesOnly (IsPosted of notes new_ones start.now) start end
leaves_posted of notes new_ones table start cleared end is leaves =
    leaves_then (IsPosted of notes new_ones start.now) start cleared end
    (leaves_weaker (IsMailUntouched start.now) (IsPosted of notes new_ones start.now) start cleared
    (untouched_posted of notes new_ones start) is.leaves)
    (leaves_weaker (IsAlongNotes of notes new_ones cleared.now) (IsPosted of notes new_ones start.now) cleared end
    (along_posted of notes new_ones table start cleared is) leaves)

shows_still : (notes : List Note) (table : JobTable) (start cleared : World) (end : Directory) → IsCleared notes table start cleared →
    ((image : Files) → IsImage end image → LeavesOthers IsMailName cleared.now.directory image) → EachShows end table
shows_still notes table start cleared end is alone image of_it =
    let from = alone image of_it in
    shows_the_same IsMailName mail_is_none_of_the_stores cleared.now.directory image from ∙ is.shows from.from from.was

pub sessions_post : SessionsPost
sessions_post of notes new_ones given questions table start cleared end is made = record {
  leaves = leaves_posted of notes new_ones table start cleared end is made.leaves;
  now = λ image of_it. record {
    beside = beside_then start.now.directory cleared.now.directory image (λ from was. (is.now from was).beside) (made.alone image of_it);
    mail = inr (record {
      prefix = new_ones;
      is_prefix = ([], sym (append-nil new_ones));
      holds = made.ready.holds image of_it;
      given = given;
      grown = made.handed ∙ ap (λ (l : List Handed). l ++ given) is.handed;
      hands = inl made.hands;
    });
  };
  shows = shows_still notes table start cleared end.now.directory is made.alone;
}

pub stopped_sessions_post : StoppedSessionsPost
stopped_sessions_post of notes new_ones next given questions table start cleared end is stopped = record {
  leaves = leaves_posted of notes (new_ones ++ next) table start cleared end is stopped.leaves;
  now = λ image of_it. along_posted of notes (new_ones ++ next) table start cleared is image end.now.handed (stopped.now image of_it);
  shows = shows_still notes table start cleared end.now.directory is (λ image of_it. (stopped.now image of_it).alone);
}

-- A session that was stopped while files were removed.
pub clearing_posts : (of : Mailing) (notes new_ones : List Note) (table : JobTable) (names : List (List ℕ)) (start opened cleared : World)
    → AreNotesOpened notes table start opened →
    ((name : List ℕ) → Contains names name → IsMailName name × (name ≢ mail_file))
    → ChangesFiles (IsClearing names opened.now.directory) opened cleared →
    HasPosted of notes new_ones table start cleared
unfolding clearing_end alone_clearing
clearing_posts of notes new_ones table names start opened cleared is of_mail changes = record {
  leaves = leaves_then (IsPosted of notes new_ones start.now) start opened cleared
      (leaves_weaker (IsMailUntouched start.now) (IsPosted of notes new_ones start.now) start opened
      (untouched_posted of notes new_ones start) is.leaves)
      (leaves_weaker _ (IsPosted of notes new_ones start.now) opened cleared
      (λ image handed gone. untouched_posted of notes new_ones start image handed
      (untouched_still notes table names start opened cleared is of_mail changes image handed gone)) changes.leaves);
  now = λ image of_it. untouched_posted of notes new_ones start image cleared.now.handed
      (untouched_still notes table names start opened cleared is of_mail changes image cleared.now.handed
      (clearing_end notes table names start opened cleared is of_mail changes image of_it, changes.handed));
  shows = λ image of_it.
      let clearing = clearing_end notes table names start opened cleared is of_mail changes image of_it in
      shows_the_same IsMailName mail_is_none_of_the_stores opened.now.directory image
      (alone_clearing notes table names start opened cleared is of_mail changes image clearing)
      ∙ is.shows clearing.alone.from clearing.alone.was;
}
