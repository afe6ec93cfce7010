-- What holds of all trims (own).
use Rattle.std.specs.Prelude.{◌≡◌, ◌⊎◌, ◌↔◌, ◌<◌, ℕ, true, false, List}
use Rattle.host_calls.specs.Directory.{Files}
use Rattle.spool_model.specs.declared.step.Step.{Step}
use Rattle.spool_model.specs.JobTable.{JobTable}
use Rattle.spool_model.specs.Steps.{AreLegal, FollowDraws, after_steps}
use Rattle.mail_notes.specs.declared.note.Note.{Note}
use Rattle.mail_session.specs.SessionOutcome.{AreMailSteps}
use Rattle.at_mail.specs.TrimmedNotes.{is_live_in, trimmed}

-- a job that is live in the later table was live in the first one, or its number was drawn since
abbrev pub NoJobLivesAgain : JobTable → JobTable → Type 0
NoJobLivesAgain table later = (number : ℕ) → is_live_in later number ≡ true →
    (is_live_in table number ≡ true) ⊎ (table.last < number)

-- a job that is over never lives again by the steps of a table, of which each acceptance follows a draw
abbrev pub StepsReviveNoJob : Type 0
StepsReviveNoJob = (table : JobTable) (steps : List Step) → AreLegal table steps → FollowDraws false steps →
    NoJobLivesAgain table (after_steps table steps)

-- after a trim the steps of a session on a later table are those that they are without it
abbrev pub TrimsChangeNoSession : Type 0
TrimsChangeNoSession = (table later : JobTable) (notes steps : List Note) (files : Files) → NoJobLivesAgain table later →
    (AreMailSteps files later (trimmed table notes) steps ↔ AreMailSteps files later notes steps)
