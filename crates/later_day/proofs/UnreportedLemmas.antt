-- An event of a day for which memory ran out, or none for the post after it.
use Rattle.std.proofs.Common.{refl, inl, inr}
use Rattle.at_day.specs.EventEffects.{Happens, IsUnreported}
use Rattle.at_day.specs.Machines.{Machine}
use Rattle.at_day.specs.declared.event.Event.{Event}
use Rattle.at_day.specs.declared.event.Event.TheVariants.{Command, Turn, Reboot}
use Rattle.at_day.specs.declared.events_report.EventReport.{EventReport}
use Rattle.mail_session.specs.PostState.{PostState, new_post}
use Rattle.later_day.specs.LaterEventEffects.{IsPostAfter, IsUnreportedOnDay}
use Rattle.later_day.specs.LaterMachines.{LaterMachine}

-- the post that the event leaves
abbrev post_after : Event → PostState → PostState
post_after (Command words caller input now) post = post
post_after (Turn now load) post = post
post_after (Reboot pick fuse) post = new_post post.program

is_post_after : (event : Event) (post : PostState) → IsPostAfter event post (post_after event post)
is_post_after (Command words caller input now) post = refl
is_post_after (Turn now load) post = refl
is_post_after (Reboot pick fuse) post = refl

-- the event happened, and its report was lost
pub report_lost : (event : Event) (report : EventReport) (old : LaterMachine) (new : Machine) → Happens event report old.at new →
    IsUnreportedOnDay event old new.host
report_lost event report old new happens = inr (
  report,
  record { at = new; post = post_after event old.post },
  record { happens = happens; post = is_post_after event old.post },
  refl,
)

pub unreported_on_day : (event : Event) (old : LaterMachine) (new : Machine) → IsUnreported event old.at new →
    IsUnreportedOnDay event old new.host
unreported_on_day event old new (inl same) = inl same.host
unreported_on_day event old new (inr happened) = report_lost event happened.0 old new happened.1
