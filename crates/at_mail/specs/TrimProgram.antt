-- How the program that trims ends (own).
use Rattle.std.specs.Prelude.{◌≡◌, ◌⊎◌, Result, Ok, Err, codes}
use Rattle.at_words.specs.declared.fault.WordsFault.{WordsFault}
use Rattle.tool_output.specs.Causes.{words_cause}
use Rattle.tool_output.specs.Ends.{cause_of_end}
use Rattle.tool_output.specs.SaidLines.{IsSaid}
use Rattle.tool_output.specs.Outside.{OutsideAt, no_inputs, no_readings, no_sink, outside_at}
use Rattle.host_calls.specs.declared.host.Host as host
use Rattle.host_calls.specs.declared.sink.Sink as sink
use Rattle.host_calls.specs.declared.turn_end.TurnEnd.{TurnEnd}
use Rattle.listing_text.specs.declared.cause.Cause.{Cause}
use Rattle.listing_text.specs.declared.cause.Cause.TheVariants.{Memory}
use Rattle.at_mail.specs.TrimOutcome.{TrimsTo}

-- all that the program is handed: no readings, no inputs, and nothing to print on
abbrev pub trim_outside : {H E : Type 0} → host.Ghosts H → sink.Ghosts E → H → E → OutsideAt
trim_outside h e host err = outside_at h no_readings no_inputs no_sink e host tt tt tt err

-- One trim was made, and its end was said.
pub record HasTrimmed (old new : OutsideAt) (final : Cause) : Type 0 where
  pub end : TurnEnd
  pub trims : TrimsTo old.tells.files old.tells.alone old.session new.session old.holds.spool new.holds.spool end
  pub says : IsSaid (codes "atpost") old.tells.errors (cause_of_end end) old.holds.errors new.holds.errors final

-- No trim was made, and this cause was said.
pub record HasMadeNoTrim (of : Cause) (old new : OutsideAt) (final : Cause) : Type 0 where
  pub session : new.session ≡ old.session
  pub spool : new.holds.spool ≡ old.holds.spool
  pub says : IsSaid (codes "atpost") old.tells.errors of old.holds.errors new.holds.errors final

-- How the program ends, by what its words request. Out of memory may come before the trim, and leaves all as it was.
abbrev pub TrimEnds : Result (Unit {0}) WordsFault → OutsideAt → OutsideAt → Cause → Type 0
TrimEnds (Ok asked) old new final = HasTrimmed old new final ⊎ HasMadeNoTrim Memory old new final
TrimEnds (Err fault) old new final = HasMadeNoTrim (words_cause fault) old new final ⊎ HasMadeNoTrim Memory old new final
