-- A session of mail goes on next to the table, and keeps the mark of the crontab.
use Rattle.std.proofs.Common.{◌≡◌, ◌++◌, ℕ, List, ap, inl, inr, refl}
use Rattle.std.specs.FinMap as finite
use Rattle.host_calls.specs.declared.child.Handed.{Handed}
use Rattle.host_calls.specs.Directory.{Files, Directory, IsImage}
use Rattle.host_calls.specs.World.{Moment, World}
use Rattle.host_calls.proofs.WorldLemmas.{leaves_weaker}
use Rattle.spool_model.specs.JobTable.{JobTable}
use Rattle.host_calls.specs.declared.turn_end.TurnEnd.{TurnEnd}
use Rattle.host_calls.specs.declared.turn_end.TurnEnd.TheVariants.{Done, Busy, FileFault, Damaged, Memory}
use Rattle.mail_notes.specs.declared.note.Note.{Note}
use Rattle.mail_notes.specs.Hands.{Mailing}
use Rattle.mail_session.specs.SessionOutcome.{IsMailIdle, IsMailStopped, IsMailDone, MailLeaves, PostSpool, mailing_of}
use Rattle.mail_session.specs.Sessions.{HasPosted, IsMailUntouched, ShowsBeside}
use Rattle.cron_session.specs.MarkNames.{mark_file}
use Rattle.cron_session.proofs.NameLemmas.{file_beside}
use Rattle.later_day.specs.LaterEffects.{LeavesJobsAlone, of_jobs}
use Rattle.later_day.proofs.NoticeLemmas.{sessions_go_beside}
use Rattle.later_day.specs.EventsLaws.{MailSessionsPass}
use Rattle.later_day.specs.SessionsPass.{PassesMail}
use Rattle.later_day.proofs.NamesApart.{mark_is_no_mail_name}

-- an image that shows the same next to mail has the mark of before
mark_of : (start : Directory) (image : Files) → ShowsBeside start image →
    (from : Files) × IsImage start from × (finite.get image mark_file ≡ finite.get from mark_file)
mark_of start image is = (is.from, is.was, is.others mark_file file_beside mark_is_no_mail_name)

posted_passes : (of : Mailing) (notes new_ones : List Note) (table : JobTable) (start end : World) →
    HasPosted of notes new_ones table start end → PassesMail start end
posted_passes of notes new_ones table start end posted = record {
  later = sessions_go_beside of notes new_ones table start end posted;
  mark = λ image is. mark_of start.now.directory image (posted.now image is).beside;
}

untouched_is_beside : (start : Moment) (image : Files) (handed : List Handed) → IsMailUntouched start image handed →
    LeavesJobsAlone start image handed
untouched_is_beside start image handed is =
    record { from = is.beside.from; was = is.beside.was; same = is.beside.shown; as_many = ap of_jobs is.as_many }

module _ (sent : List ℕ) (old new : PostSpool) where
  idle_passes : IsMailIdle sent old new → PassesMail old.world new.world
  idle_passes idle = record {
    later = record {
      leaves = leaves_weaker (IsMailUntouched old.world.now) (LeavesJobsAlone old.world.now) old.world new.world
          (untouched_is_beside old.world.now) idle.leaves;
      now = λ image is. untouched_is_beside old.world.now image new.world.now.handed (idle.now image is);
    };
    mark = λ image is. mark_of old.world.now.directory image (idle.now image is).beside;
  }

  whole_passes : IsMailDone sent old new → PassesMail old.world new.world
  whole_passes whole =
      posted_passes (mailing_of old.post whole.table whole.notes whole.steps) whole.notes whole.steps whole.table old.world new.world
      whole.posted

  stopped_passes : IsMailStopped sent old new → PassesMail old.world new.world
  stopped_passes stopped =
      posted_passes (mailing_of old.post stopped.table stopped.notes stopped.steps) stopped.notes (stopped.made ++ stopped.next)
      stopped.table old.world new.world stopped.posted

  session_passes : (end : TurnEnd) → MailLeaves sent old new end → PassesMail old.world new.world
  session_passes Done leaves = whole_passes leaves
  session_passes Busy leaves = idle_passes leaves.0
  session_passes FileFault leaves = elim leaves [ inl idle ↦ idle_passes idle | inr stopped ↦ stopped_passes stopped ]
  session_passes (Damaged damage) leaves = idle_passes leaves.0
  session_passes Memory leaves = elim leaves [ inl idle ↦ idle_passes idle | inr stopped ↦ stopped_passes stopped ]

pub mail_sessions_pass : MailSessionsPass
mail_sessions_pass old new end sent posts = session_passes sent old new end (posts.leaves refl refl)
