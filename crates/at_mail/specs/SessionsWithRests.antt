-- The sessions of the program, one after another, with a rest between two (own).
use Rattle.std.specs.Prelude.{◌≡◌, ◌++◌, [], ◌∷◌, ℕ, List, Option, Some, None}
use Rattle.tool_output.specs.Outside.{RestsBefore, Telling, WorkAt}
use Rattle.mail_session.specs.SessionOutcome.{PostSpool, PostsTo}
use Rattle.at_mail.specs.Outcomes.{PostItem, SaysMailEnd, last_session_outcome}

-- the seconds between two sessions
abbrev pub rest_seconds : ℕ
rest_seconds = 20

-- the rest after these sessions: none before the first one
abbrev pub rest_after_sessions : List PostItem → Option ℕ
rest_after_sessions [] = None
rest_after_sessions (item ∷ items) = Some rest_seconds

-- One session was made, and its end said. No clock is read, and no load.
pub record IsSession (tells : Telling) (item : PostItem) (old new : WorkAt PostSpool) : Type 0 where
  pub posts : PostsTo tells.files tells.alone old.spool new.spool item.end item.sent
  pub says : SaysMailEnd tells.errors item.end old.said new.said item.said
  pub clock : new.clock ≡ old.clock
  pub input : new.input ≡ old.input

-- The sessions lead from the first state to this one: each begins where the one before it ended, after a rest.
pub data MakesMailSessions (tells : Telling) (first : WorkAt PostSpool) : List PostItem → WorkAt PostSpool → Type 0 where
  no_session : MakesMailSessions tells first [] first
  next_session : (before : List PostItem) (item : PostItem) (last rested after : WorkAt PostSpool)
      → MakesMailSessions tells first before last
      → last_session_outcome before ≡ None
      → RestsBefore tells.clock (rest_after_sessions before) last rested
      → IsSession tells item rested after
      → MakesMailSessions tells first (before ++ item ∷ []) after
