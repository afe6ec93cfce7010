-- One more session, and the end of all (own).
use Rattle.std.specs.Prelude.{◌≡◌, ◌⊎◌, ◌≤◌, ℕ, zero, suc, Bool, List, Option, Some, None, IsSome, length}
use Rattle.tool_output.specs.Outside.{Telling, WorkAt}
use Rattle.tool_output.specs.Sinks.{SinkAt}
use Rattle.mail_session.specs.SessionOutcome.{PostSpool, PostsTo}
use Rattle.at_mail.specs.declared.outcome.MailOutcome.{MailOutcome}
use Rattle.at_mail.specs.SessionsWithRests.{MakesMailSessions, rest_seconds}
use Rattle.at_mail.specs.Outcomes.{PostItem, SaysMailEnd, last_session_outcome, session_outcome, outcome_or_done}

-- the rest before the session of this place: none before the first one
abbrev pub rest_before : ℕ → Option ℕ
rest_before zero = None
rest_before (suc place) = Some rest_seconds

-- a session was made and its end said, and the program comes to this by it
pub record MakesOne (tells alone errors : Bool) (old new : PostSpool) (said_old said_new : SinkAt)
    (outcome : Option MailOutcome) : Type 0
  where
    pub item : PostItem
    pub posts : PostsTo tells alone old new item.end item.sent
    pub says : SaysMailEnd errors item.end said_old said_new item.said
    pub comes : outcome ≡ session_outcome item.end item.said

-- The sessions were made, and came to this.
pub record HasMade (tells : Telling) (turns : ℕ) (first last : WorkAt PostSpool) (outcome : MailOutcome) : Type 0 where
  pub items : List PostItem
  pub few : length items ≤ turns
  pub makes : MakesMailSessions tells first items last
  pub stops : (length items ≡ turns) ⊎ IsSome (last_session_outcome items)
  pub comes : outcome ≡ outcome_or_done (last_session_outcome items)
