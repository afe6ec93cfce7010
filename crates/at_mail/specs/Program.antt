-- How the program ends (own): its sessions, what is said, and its cause.
use Rattle.std.specs.Prelude.{◌≡◌, ◌⊎◌, ◌≤◌, ℕ, Bool, true, List, Result, Ok, Err, IsSome, length}
use Rattle.at_words.specs.declared.fault.WordsFault.{WordsFault}
use Rattle.tool_output.specs.SaidLines.{IsSaid}
use Rattle.tool_output.specs.Causes.{words_cause}
use Rattle.tool_output.specs.Outside.{OutsideAt, WorkAt, no_inputs, no_sink, outside_at, work_at}
use Rattle.tool_output.specs.Sinks.{SinkAt}
use Rattle.daemon_turn.specs.Kids.{KeepsChildren}
use Rattle.host_calls.specs.Causes.{Rose}
use Rattle.host_calls.specs.declared.host.Host as host
use Rattle.host_calls.specs.declared.readings.Readings as readings
use Rattle.host_calls.specs.declared.sink.Sink as sink
use Rattle.host_calls.specs.Session.{IsOutside, KeepsCounts}
use Rattle.listing_text.specs.declared.cause.Cause.{Cause}
use Rattle.listing_text.specs.declared.cause.Cause.TheVariants as cause
use Rattle.mail_session.specs.PostState.{PostState, new_post}
use Rattle.mail_session.specs.SessionOutcome.{PostSpool}
use Rattle.at_mail.specs.declared.outcome.MailOutcome.{MailOutcome}
use Rattle.at_mail.specs.declared.outcome.MailOutcome.TheVariants.{OfSession, Own}
use Rattle.at_mail.specs.declared.request.PostRequest.{PostRequest}
use Rattle.at_mail.specs.SessionsWithRests.{MakesMailSessions}
use Rattle.at_mail.specs.Outcomes.{PostItem, last_session_outcome, outcome_or_done, mail_program}

-- all that the program is handed: no inputs, and nothing to print on
abbrev pub mail_outside : {H R E : Type 0} → host.Ghosts H → readings.Ghosts R → sink.Ghosts E → H → R → E → OutsideAt
mail_outside h r e host readings err = outside_at h r no_inputs no_sink e host readings tt tt err

-- what is worked with, with this post
abbrev pub work_with : PostState → OutsideAt → WorkAt PostSpool
work_with post at = work_at (record { session = at.session; world = at.holds.spool; post = post }) at

-- the last line: that of a cause of its own; the line of a session that ended it was said before
abbrev pub SaysMailOutcome : Bool → MailOutcome → SinkAt → SinkAt → Cause → Type 0
SaysMailOutcome tells (OfSession of) old new final = (final ≡ of) × (tells ≡ true → new ≡ old)
SaysMailOutcome tells (Own of) old new final = IsSaid mail_program tells of old new final

-- No session was made, and this cause was said.
pub record HasMadeNoSession (of : Cause) (old new : OutsideAt) (final : Cause) : Type 0 where
  pub session : new.session ≡ old.session
  pub spool : new.holds.spool ≡ old.holds.spool
  pub answers : new.holds.answers ≡ old.holds.answers
  pub readers : new.readers ≡ old.readers
  pub says : IsSaid mail_program old.tells.errors of old.holds.errors new.holds.errors final

-- The sessions, on one post, lead to the end: all that were requested, or fewer where one ended the program. Its result
-- is that of the last session, or that all was done.
pub record PostsSessions (turns : ℕ) (begun : PostState) (old new : OutsideAt) (final : Cause) : Type 0 where
  pub items : List PostItem
  pub last : WorkAt PostSpool
  pub few : length items ≤ turns
  pub makes : MakesMailSessions old.tells (work_with begun old) items last
  pub stops : (length items ≡ turns) ⊎ IsSome (last_session_outcome items)
  pub session : new.session ≡ last.spool.session
  pub spool : new.holds.spool ≡ last.spool.world
  pub answers : new.holds.answers ≡ last.clock.answers
  pub readers : new.readers ≡ last.clock.readers
  pub says : SaysMailOutcome old.tells.errors (outcome_or_done (last_session_outcome items)) last.said new.holds.errors final

-- How the program ends, by what its words request. No session is on, no child is forgotten and no count has fallen; what the
-- readings and the sink were made as stays; a fault of the output comes only where its count rose. Words that request nothing
-- are said to be wrong. An out-of-memory error may come before the first session, and leaves all as it was.
pub record PostEnds (asked : Result PostRequest WordsFault) (old new : OutsideAt) (final : Cause) : Type 0 where
  pub outside : IsOutside new.session
  pub kept : KeepsChildren old.session.children new.session.children
  pub counts : KeepsCounts old.session new.session
  pub readers_made : new.readers.made_as ≡ old.readers.made_as
  pub made : new.err.made_as ≡ old.err.made_as
  pub output_fault : final ≡ cause.OutputFault → Rose old.holds.errors.faults new.holds.errors.faults
  pub unasked : (fault : WordsFault) → asked ≡ Err fault →
      HasMadeNoSession (words_cause fault) old new final ⊎ HasMadeNoSession cause.Memory old new final
  pub posts : (request : PostRequest) → asked ≡ Ok request →
      HasMadeNoSession cause.Memory old new final ⊎ PostsSessions request.turns (new_post request.program) old new final
