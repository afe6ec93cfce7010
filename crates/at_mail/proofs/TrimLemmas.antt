-- A trim is an event, also one in which there was a crash: at a moment before it had recovered, or since.
use Rattle.std.proofs.Common.{◌≡◌, ◌∙◌, ◌⊎◌, ◌++◌, List, [], ◌∷◌, append-nil, append_assoc, ap, refl, sym, subst, inl, inr}
use Rattle.std.proofs.lemmas.List.{append_cancel_right}
use Rattle.host_calls.specs.declared.child.Handed.{Handed}
use Rattle.host_calls.specs.Directory.{Files, IsImage}
use Rattle.host_calls.specs.World.{AnyMoment, HasEachImage, Moment, World, moments}
use Rattle.host_calls.proofs.WorldLemmas.{leaves_none, leaves_weaker}
use Rattle.host_calls.specs.declared.turn_end.TurnEnd.{TurnEnd}
use Rattle.host_calls.specs.declared.turn_end.TurnEnd.TheVariants.{Done, Busy, FileFault, Damaged, Memory}
use Rattle.spool_model.specs.JobTable.{JobTable}
use Rattle.mail_notes.specs.declared.note.Note.{Note}
use Rattle.mail_session.specs.Sessions.{AreNotesOpened, IsMailUntouched}
use Rattle.at_mail.specs.Events.{CrashesOfTrimsAreEvents, TrimsAreEvents, after_another, after_trim, crash_of_another, crash_of_trim}
use Rattle.at_mail.specs.Once.{IsBesideMail, IsCrashOfEvent, LeavesNotes}
use Rattle.at_mail.specs.Rewriting.{AreNotesKept}
use Rattle.at_mail.specs.TrimOutcome.{IsTrimming, TrimLeaves}

-- What leaves the notes untouched is beside them.

untouched_beside : (start : Moment) (image : Files) (handed : List Handed) → IsMailUntouched start image handed
    → LeavesNotes start image handed
untouched_beside start image handed is = record {
  from = is.beside.from;
  was = is.beside.was;
  same = is.same;
  given = [];
  grown = is.as_many ∙ sym (append-nil start.handed);
  no_notice = refl;
}

pub unwritten_beside : (old new : World) → AreNotesKept old new → IsBesideMail old new
unwritten_beside old new is = record {
  leaves = leaves_weaker (IsMailUntouched old.now) (LeavesNotes old.now) old new (untouched_beside old.now) is.leaves;
  now = λ image of. untouched_beside old.now image new.now.handed (is.now image of);
}

opened_beside : (table : JobTable) (notes : List Note) (old opened : World) → AreNotesOpened notes table old opened
    → IsBesideMail old opened
opened_beside table notes old opened is = record {
  leaves = leaves_weaker (IsMailUntouched old.now) (LeavesNotes old.now) old opened (untouched_beside old.now) is.leaves;
  now = λ image of. untouched_beside old.now image opened.now.handed (is.now image of);
}

own_notes : (world : World) (image : Files) → IsImage world.now.directory image → LeavesNotes world.now image world.now.handed
own_notes world image is =
    record { from = image; was = is; same = refl; given = []; grown = sym (append-nil world.now.handed); no_notice = refl }

pub still_beside : (old new : World) → new ≡ old → IsBesideMail old new
still_beside old new same = record {
  leaves = leaves_none (LeavesNotes old.now) old new same;
  now = subst (λ (world : World). HasEachImage (LeavesNotes old.now) world.now) (sym same) (own_notes old);
}

-- What a trim is: beside the notes, or a trimming.

trim_is : (old new : World) (end : TurnEnd) → TrimLeaves old new end →
    IsBesideMail old new ⊎ ((table : JobTable) × (notes : List Note) × IsTrimming table notes old new)
trim_is old new Done is = inr (is.0, is.1, is.2.writing)
trim_is old new Busy is = inl (still_beside old new is)
trim_is old new FileFault is = elim is [ inl none ↦ inl (unwritten_beside old new none) | inr some ↦ inr some ]
trim_is old new (Damaged damage) is = inl (unwritten_beside old new is.0)
trim_is old new Memory is = elim is [ inl none ↦ inl (unwritten_beside old new none) | inr some ↦ inr some ]

pub trims_are_events : TrimsAreEvents
trims_are_events first old new tables before after end events trims = elim (trim_is old new end (trims.leaves refl refl)) [
  | inl beside ↦ (tables, after_another tables old new events beside)
  | inr some ↦ (some.0 ∷ tables, after_trim tables old new some.0 some.1 events some.2)
]

-- A crash of a trimming comes since its recovery, or before.

some_of_both : (P : Moment → Type 0) (first second : List Moment) → AnyMoment P (first ++ second) → AnyMoment P first ⊎ AnyMoment P second
some_of_both P [] second some = inr some
some_of_both P (here ∷ others) second some = elim some [
  | inl is ↦ inl (inl is)
  | inr later ↦ elim (some_of_both P others second later) [ inl left ↦ inl (inr left) | inr right ↦ inr right ]
]

some_of_first : (P : Moment → Type 0) (first second : List Moment) → AnyMoment P first → AnyMoment P (first ++ second)
some_of_first P [] second some = absurd some
some_of_first P (here ∷ others) second some = elim some [ inl is ↦ inl is | inr later ↦ inr (some_of_first P others second later) ]

module _ (table : JobTable) (notes : List Note) (old during new : World) (is : IsTrimming table notes old during)
    (crash : IsCrashOfEvent old during new) where
  abbrev IsAt : Moment → Type 0
  IsAt moment = moment ≡ crash.at

  -- the moments since the recovery, and those until then
  joined : crash.more ≡ is.leaves.more ++ is.is_opened.leaves.more
  joined =
      let run : moments during ≡ (is.leaves.more ++ is.is_opened.leaves.more) ++ moments old =
      is.leaves.run ∙ ap (λ (list : List Moment). is.leaves.more ++ list) is.is_opened.leaves.run
      ∙ sym (append_assoc is.leaves.more is.is_opened.leaves.more (moments old)) in
      append_cancel_right crash.more (is.leaves.more ++ is.is_opened.leaves.more) (moments old) (sym crash.run ∙ run)

  either : AnyMoment IsAt is.leaves.more ⊎ AnyMoment IsAt (is.is_opened.leaves.more ++ old.now ∷ [])
  either =
      some_of_both IsAt is.leaves.more (is.is_opened.leaves.more ++ old.now ∷ [])
      (subst (AnyMoment IsAt)
      (ap (λ (list : List Moment). list ++ old.now ∷ []) joined
      ∙ append_assoc is.leaves.more is.is_opened.leaves.more (old.now ∷ [])) crash.is_one)

  crash_since : AnyMoment IsAt is.leaves.more → IsCrashOfEvent is.opened during new
  crash_since at = record {
    more = is.leaves.more;
    run = is.leaves.run;
    at = crash.at;
    is_one = some_of_first IsAt is.leaves.more (is.opened.now ∷ []) at;
    images = crash.images;
    handed = crash.handed;
  }

  crash_before : AnyMoment IsAt (is.is_opened.leaves.more ++ old.now ∷ []) → IsCrashOfEvent old is.opened new
  crash_before at = record {
    more = is.is_opened.leaves.more;
    run = is.is_opened.leaves.run;
    at = crash.at;
    is_one = at;
    images = crash.images;
    handed = crash.handed;
  }

pub crashes_of_trims_are_events : CrashesOfTrimsAreEvents
crashes_of_trims_are_events first old during new tables before after end events trims crash =
    elim (trim_is old during end (trims.leaves refl refl)) [
      | inl beside ↦ (tables, crash_of_another tables old during new events beside crash)
      | inr some ↦ elim (either some.0 some.1 old during new some.2 crash) [
        | inl since ↦ (
          some.0 ∷ tables,
          crash_of_trim tables old during new some.0 some.1 events some.2
              (crash_since some.0 some.1 old during new some.2 crash since),
        )
        | inr before_it ↦ (
          tables,
          crash_of_another tables old some.2.opened new events
              (opened_beside some.0 some.1 old some.2.opened some.2.is_opened)
              (crash_before some.0 some.1 old during new some.2 crash before_it),
        )
      ]
    ]
