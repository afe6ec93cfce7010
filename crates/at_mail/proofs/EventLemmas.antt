-- Sessions and notings are events, one after another.
use Rattle.std.proofs.Common.{◌≡◌, Bool, true, List, refl, subst, inl, inr}
use Rattle.host_calls.specs.World.{World}
use Rattle.host_calls.specs.declared.turn_end.TurnEnd.{TurnEnd}
use Rattle.host_calls.specs.declared.turn_end.TurnEnd.TheVariants.{Done, Busy, FileFault, Damaged, Memory}
use Rattle.mail_session.specs.SessionOutcome.{PostSpool, PostsTo}
use Rattle.tool_output.specs.Outside.{Telling, WorkAt}
use Rattle.at_mail.specs.SessionsWithRests.{MakesMailSessions, next_session, no_session}
use Rattle.at_mail.specs.Once.{MailEvent, MailEvents, NotingsAreEvents, ProgramsAreEvents, SessionsAreEvents, a_noting, a_session, another, next_event, no_event}
use Rattle.at_mail.specs.NotingOutcome.{IsNoted, NotingLeaves}
use Rattle.at_mail.specs.Outcomes.{PostItem}
use Rattle.at_mail.proofs.TrimLemmas.{still_beside, unwritten_beside}

pub sessions_are_events : SessionsAreEvents
sessions_are_events old new end sent posts =
    a_session (record { before = old; after = new; was = refl; is = refl; end = end; sent = sent; leaves = posts.leaves refl refl })

noted_event : (old new : World) → IsNoted old new → MailEvent old new
noted_event old new is = a_noting (record {
  table = is.table;
  notes = is.notes;
  new_jobs = is.new_jobs;
  writing = is.written.writing;
  are_new = is.are_new;
})

noting_event : (old new : World) (end : TurnEnd) → NotingLeaves old new end → MailEvent old new
noting_event old new Done is = noted_event old new is
noting_event old new Busy is = another (still_beside old new is)
noting_event old new FileFault is = elim is [ inl none ↦ another (unwritten_beside old new none) | inr some ↦ a_noting some ]
noting_event old new (Damaged damage) is = another (unwritten_beside old new is.0)
noting_event old new Memory is = elim is [ inl none ↦ another (unwritten_beside old new none) | inr some ↦ a_noting some ]

pub notings_are_events : NotingsAreEvents
notings_are_events old new before after end notes = noting_event old new end (notes.leaves refl refl)

module _ (tells : Telling) (first : WorkAt PostSpool) (files : tells.files ≡ true) (alone : tells.alone ≡ true) where
  one_event : (item : PostItem) (old new : PostSpool) → PostsTo tells.files tells.alone old new item.end item.sent
      → MailEvent old.world new.world
  one_event item old new posts =
      sessions_are_events old new item.end item.sent
      (subst (λ (is : Bool). PostsTo true is old new item.end item.sent) alone
      (subst (λ (is : Bool). PostsTo is tells.alone old new item.end item.sent) files posts))

  all_events : (items : List PostItem) (last : WorkAt PostSpool) → MakesMailSessions tells first items last
      → MailEvents first.spool.world last.spool.world
  all_events _ _ no_session = no_event
  all_events _ _ (next_session before item last rested after makes goes_on rests session) =
      next_event last.spool.world after.spool.world (all_events before last makes)
      (subst (λ (spool : PostSpool). MailEvent spool.world after.spool.world) rests.spool
      (one_event item rested.spool after.spool session.posts))

pub programs_are_events : ProgramsAreEvents
programs_are_events tells items first last files alone makes = all_events tells first files alone items last makes
