-- The sessions of the program, and what they come to (own).
use Rattle.std.specs.Prelude.{◌≡◌, ◌≤◌, [], ◌∷◌, ℕ, Bool, true, List, Option, Some, None, Result, Ok, Err, IsErrOf, codes}
use Rattle.host_calls.specs.Causes.{Rose}
use Rattle.host_calls.specs.declared.fault.SinkFault.{SinkFault}
use Rattle.host_calls.specs.declared.fault.SinkFault.TheVariants as put
use Rattle.listing_text.specs.Cause.{cause_line_of}
use Rattle.listing_text.specs.declared.cause.Cause.TheVariants as cause
use Rattle.tool_output.specs.Ends.{cause_of_end}
use Rattle.tool_output.specs.Sinks.{IsCut, IsPut, IsSilent, SinkAt}
use Rattle.host_calls.specs.declared.turn_end.TurnEnd.{TurnEnd}
use Rattle.host_calls.specs.declared.turn_end.TurnEnd.TheVariants.{Done, Busy, FileFault, Damaged, Memory}
use Rattle.at_mail.specs.declared.outcome.MailOutcome.{MailOutcome}
use Rattle.at_mail.specs.declared.outcome.MailOutcome.TheVariants.{OfSession, Own}

-- the name under which the program says its causes
abbrev pub mail_program : List ℕ
mail_program = codes "atpost"

-- A session of the program: how it ended, the numbers of the notices that it sent, and what the put of its line answered.
pub record PostItem : Type 0 where
  pub end : TurnEnd
  pub sent : List ℕ
  pub said : Result (Unit {0}) SinkFault

-- the line of a session's end: one that was done has none
abbrev pub mail_end_line : TurnEnd → List ℕ
mail_end_line end = cause_line_of mail_program (cause_of_end end)

-- the line was put whole, or up to a fault of the sink; nothing where memory ran out
abbrev pub SaysEndBy : List ℕ → SinkAt → SinkAt → Result (Unit {0}) SinkFault → Type 0
SaysEndBy line old new (Ok done) = IsPut line old new
SaysEndBy line old new (Err put.Failed) = IsCut line old new
SaysEndBy line old new (Err put.Memory) = IsSilent old new

-- The end of a session was said, by what the put of its line answered.
pub record SaysMailEnd (tells : Bool) (end : TurnEnd) (old new : SinkAt) (said : Result (Unit {0}) SinkFault) : Type 0 where
  pub later : old.faults ≤ new.faults
  pub failed : IsErrOf said put.Failed → Rose old.faults new.faults
  pub says : tells ≡ true → SaysEndBy (mail_end_line end) old new said

-- what comes of a line that was put: a damage ends the program
abbrev pub outcome_said : TurnEnd → Option MailOutcome
outcome_said Done = None
outcome_said Busy = None
outcome_said FileFault = None
outcome_said (Damaged damage) = Some (OfSession (cause.Damaged damage))
outcome_said Memory = None

-- of one whose put failed: a damage comes before that
abbrev pub outcome_cut : TurnEnd → Option MailOutcome
outcome_cut Done = Some (Own cause.OutputFault)
outcome_cut Busy = Some (Own cause.OutputFault)
outcome_cut FileFault = Some (Own cause.OutputFault)
outcome_cut (Damaged damage) = Some (OfSession (cause.Damaged damage))
outcome_cut Memory = Some (Own cause.OutputFault)

-- and of one that ran out of memory: that of an out-of-memory error may be missing
abbrev pub outcome_unsaid : TurnEnd → Option MailOutcome
outcome_unsaid Done = Some (Own cause.Memory)
outcome_unsaid Busy = Some (Own cause.Memory)
outcome_unsaid FileFault = Some (Own cause.Memory)
outcome_unsaid (Damaged damage) = Some (Own cause.Memory)
outcome_unsaid Memory = None

-- what the program comes to by a session, if no further one is made
abbrev pub session_outcome : TurnEnd → Result (Unit {0}) SinkFault → Option MailOutcome
session_outcome end (Ok done) = outcome_said end
session_outcome end (Err put.Failed) = outcome_cut end
session_outcome end (Err put.Memory) = outcome_unsaid end

-- its result by the last of its sessions
abbrev pub last_session_outcome : List PostItem → Option MailOutcome
last_session_outcome [] = None
last_session_outcome (item ∷ []) = session_outcome item.end item.said
last_session_outcome (item ∷ other ∷ items) = last_session_outcome (other ∷ items)

-- all was done where no session ended it
abbrev pub outcome_or_done : Option MailOutcome → MailOutcome
outcome_or_done None = Own cause.Done
outcome_or_done (Some outcome) = outcome
