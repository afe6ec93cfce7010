-- A session of mail starts nothing for jobs: a notice begins with no header of a job.
use Rattle.std.proofs.Common.{◌≡◌, ◌++◌, ℕ, false, List, [], ◌∷◌, ap, ◌∙◌, refl, inl, inr}
use Rattle.std.specs.Prelude.{None, is_some}
use Rattle.host_calls.specs.declared.child.Handed.{Handed}
use Rattle.host_calls.specs.Directory.{Files}
use Rattle.host_calls.specs.World.{Moment}
use Rattle.host_calls.proofs.WorldLemmas.{leaves_weaker}
use Rattle.job_script.specs.HeaderIn as headers
use Rattle.job_script.specs.HeaderIn.{header_in}
use Rattle.listing_text.specs.Lines.{turn_text}
use Rattle.mail_notes.specs.declared.note.Note.{Note}
use Rattle.mail_notes.specs.declared.note.Note.TheVariants.{Dropped, Noted, Sent}
use Rattle.mail_notes.specs.declared.note.NotedJob.{NotedJob}
use Rattle.mail_notes.specs.Hands.{SendsNotices, SendsNoticesByNow, IsHandedFor, Mailing}
use Rattle.mail_notes.specs.Notices.{notice_text}
use Rattle.mail_session.specs.Sessions.{IsPosted}
use Rattle.later_day.specs.EffectLaws.{SessionsGoBeside}
use Rattle.later_day.specs.LaterEffects.{LeavesJobsAlone, is_of_job, of_jobs}
use Rattle.later_day.proofs.OnlyJobs.{of_first, others_go}

-- a notice begins with no header
no_header : (program line : List ℕ) (job : NotedJob) → header_in (notice_text program job line) ≡ None
unfolding header_in headers.has_user headers.alike
no_header program line job = refl

-- so it is started for no job
notice_is_no_job : (of : Mailing) (number : ℕ) (handed : Handed) → IsHandedFor of number handed → is_of_job handed ≡ false
notice_is_no_job of number handed is =
    ap (λ (script : List ℕ). is_some (header_in script)) is.notice.script_is
    ∙ ap is_some (no_header of.program (turn_text is.notice.end) is.notice.job)

-- and so is all that notes send
notices_are_no_jobs : (of : Mailing) (notes : List Note) (given : List Handed) → SendsNotices of notes given → of_jobs given ≡ []
notices_are_no_jobs of [] given hands = ap of_jobs hands
notices_are_no_jobs of (Sent number ∷ later) given (first, rest, (handed, is, one), hands, both) =
    ap of_jobs (both ∙ ap (λ (l : List Handed). l ++ rest) one)
    ∙ others_go handed rest (notice_is_no_job of number handed is) ∙ notices_are_no_jobs of later rest hands
notices_are_no_jobs of (Noted job ∷ later) given (first, rest, one, hands, both) =
    ap of_jobs (both ∙ ap (λ (l : List Handed). l ++ rest) one) ∙ notices_are_no_jobs of later rest hands
notices_are_no_jobs of (Dropped number ∷ later) given (first, rest, one, hands, both) =
    ap of_jobs (both ∙ ap (λ (l : List Handed). l ++ rest) one) ∙ notices_are_no_jobs of later rest hands

notices_by_now : (of : Mailing) (notes : List Note) (image : Files) (given : List Handed)
    → SendsNoticesByNow of notes image given → of_jobs given ≡ []
notices_by_now of notes image given by_now = elim by_now [
  | inl all ↦ notices_are_no_jobs of notes given all
  | inr lacks ↦ notices_are_no_jobs of lacks.earlier given lacks.hands
]

posted_is_beside : (of : Mailing) (notes new_ones : List Note) (start : Moment) (image : Files) (handed : List Handed) →
    IsPosted of notes new_ones start image handed → LeavesJobsAlone start image handed
posted_is_beside of notes new_ones start image handed is = record {
  from = is.beside.from;
  was = is.beside.was;
  same = is.beside.shown;
  as_many = elim is.mail [
    | inl same ↦ ap of_jobs same.1
    | inr holds ↦ ap of_jobs holds.grown ∙ of_first start.handed holds.given (notices_by_now of holds.prefix image holds.given holds.hands)
  ];
}

pub sessions_go_beside : SessionsGoBeside
sessions_go_beside of notes new_ones table start end posted = record {
  leaves = leaves_weaker (IsPosted of notes new_ones start.now) (LeavesJobsAlone start.now) start end
      (posted_is_beside of notes new_ones start.now) posted.leaves;
  now = λ image is. posted_is_beside of notes new_ones start.now image end.now.handed (posted.now image is);
}
