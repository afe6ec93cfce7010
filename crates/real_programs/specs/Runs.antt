-- How each program runs over what it is lent (own): all that its own clauses say, and what it leaves alone.
use Rattle.std.specs.Prelude.{◌≡◌, ℕ, true, false, List, codes}
use Rattle.at_account.specs.AccountOutcome.{Accounting}
use Rattle.at_account.specs.Words.{account_asked}
use Rattle.at_commands.specs.Outside.{HasRisenAsked, ServesAsked, StaysMade}
use Rattle.at_commands.specs.Served.{IsNotServed}
use Rattle.at_day.specs.Programs.{EndsUnservedUnlessDay, MakesDay, asks_for_day}
use Rattle.at_mail.specs.Program.{PostEnds}
use Rattle.at_mail.specs.TrimProgram.{TrimEnds}
use Rattle.at_mail.specs.TrimWords.{trim_asked}
use Rattle.at_mail.specs.Words.{post_asked}
use Rattle.at_stat.specs.declared.status.StatExit.{StatExit}
use Rattle.at_stat.specs.StatOutcome.{HasCode, Stating}
use Rattle.at_stat.specs.Words.{stat_asked}
use Rattle.at_words.specs.Requests.{request_of}
use Rattle.cron_turn.specs.CronRuns.{CronRuns, HasRisenInTurns}
use Rattle.cron_turn.specs.ListingRun.{NextRuns, listing_telling}
use Rattle.cron_turn.specs.ListingWords.{next_asked}
use Rattle.cron_turn.specs.Outside.{StaysSo, cron_telling}
use Rattle.cron_turn.specs.Words.{cron_asked}
use Rattle.host_calls.specs.declared.host.Host as host
use Rattle.host_calls.specs.declared.inputs.Inputs as inputs
use Rattle.host_calls.specs.declared.readings.Readings as readings
use Rattle.host_calls.specs.declared.sink.Sink as sink
use Rattle.listing_text.specs.Cause.{status_of}
use Rattle.listing_text.specs.declared.status.Status.{Status}
use Rattle.real_programs.specs.declared.system.ProgramSystem.{ProgramSystem}
use Rattle.real_programs.specs.Systems.{account_at, commands_at, crontab_at, errors_at, errors_made_as, next_at, output_made_as, mail_at, stat_at, notes_at}
use Rattle.serving.specs.Outside.{EndsOutside}
use Rattle.tool_output.specs.declared.caller.Caller.{Caller}
use Rattle.tool_output.specs.Sinks.{EndsLine}

-- The commands ran by these words, for this caller: its session and its faults; what no daemon does, what a daemon does, and
-- what words of `atday` do; and what the others were made as stays.
pub record IsCommandsRun {D C I O E : Type 0} (h : host.Ghosts D) (r : readings.Ghosts C) (i : inputs.Ghosts I)
    (o : sink.Ghosts O) (e : sink.Ghosts E) (words : List (List ℕ)) (caller : Caller) (old new : ProgramSystem D C I O E)
    (status : Status) : Type 0 where
  pub code : status ≡ status_of status.cause
  pub session : EndsOutside (h.session old.directory) (h.session new.directory)
  pub faults : HasRisenAsked (request_of words) (commands_at h r i o e old) (commands_at h r i o e new) status.cause
  pub ends : IsNotServed (request_of words) →
      EndsUnservedUnlessDay words caller (commands_at h r i o e old) (commands_at h r i o e new) status.cause
  pub serves : ServesAsked (request_of words) (commands_at h r i o e old) (commands_at h r i o e new) status.cause
  pub day : asks_for_day words ≡ true →
      MakesDay (request_of words) old.directory new.directory old.clock new.clock old.input new.input
      (commands_at h r i o e old) (commands_at h r i o e new) status.cause
  pub made : StaysMade (request_of words) (commands_at h r i o e old) (commands_at h r i o e new)
  pub target : new.target ≡ old.target

-- The sessions of mail ran by these words. The input and the output are left alone.
pub record IsPostRun {D C I O E : Type 0} (h : host.Ghosts D) (r : readings.Ghosts C) (e : sink.Ghosts E)
    (words : List (List ℕ)) (old new : ProgramSystem D C I O E) (status : Status) : Type 0 where
  pub code : status ≡ status_of status.cause
  pub posts : PostEnds (post_asked words) (mail_at h r e old) (mail_at h r e new) status.cause
  pub target : new.target ≡ old.target
  pub input : new.input ≡ old.input
  pub output : new.output ≡ old.output

-- A trim of the notes of mail ran by these words. The clock, the input and the output are left alone.
pub record IsTrimRun {D C I O E : Type 0} (h : host.Ghosts D) (e : sink.Ghosts E)
    (words : List (List ℕ)) (old new : ProgramSystem D C I O E) (status : Status) : Type 0 where
  pub code : status ≡ status_of status.cause
  pub errors_made : errors_made_as e new ≡ errors_made_as e old
  pub trims : TrimEnds (trim_asked words) (notes_at h e old) (notes_at h e new) status.cause
  pub target : new.target ≡ old.target
  pub clock : new.clock ≡ old.clock
  pub input : new.input ≡ old.input
  pub output : new.output ≡ old.output

-- The sessions of a crontab ran by these words, for this caller. The output is left alone.
pub record IsCronRun {D C I O E : Type 0} (h : host.Ghosts D) (r : readings.Ghosts C) (i : inputs.Ghosts I)
    (e : sink.Ghosts E) (words : List (List ℕ)) (caller : Caller) (old new : ProgramSystem D C I O E) (status : Status)
    : Type 0 where
  pub code : status ≡ status_of status.cause
  pub errors_made : errors_made_as e new ≡ errors_made_as e old
  pub stays : StaysSo (crontab_at h r i e old) (crontab_at h r i e new)
  pub risen : HasRisenInTurns (crontab_at h r i e old) (crontab_at h r i e new) status.cause
  pub runs : CronRuns (cron_asked words) (cron_telling h r i e) caller (crontab_at h r i e old) (crontab_at h r i e new) status.cause
  pub target : new.target ≡ old.target
  pub output : new.output ≡ old.output

-- A listing of next minutes ran by these words, in the zone of this caller. The directory is left alone.
pub record IsNextRun {D C I O E : Type 0} (r : readings.Ghosts C) (i : inputs.Ghosts I) (o : sink.Ghosts O)
    (e : sink.Ghosts E) (words : List (List ℕ)) (caller : Caller) (old new : ProgramSystem D C I O E) (status : Status)
    : Type 0 where
  pub code : status ≡ status_of status.cause
  pub output_made : output_made_as o new ≡ output_made_as o old
  pub errors_made : errors_made_as e new ≡ errors_made_as e old
  pub runs : NextRuns (next_asked words) (listing_telling r i o) e.tells caller.zone (next_at r i o old) (next_at r i o new)
      (errors_at e old) (errors_at e new) status.cause
  pub directory : new.directory ≡ old.directory
  pub target : new.target ≡ old.target

-- An account ran by these words. The clock and the input are left alone.
pub record IsAccountRun {D C I O E : Type 0} (h : host.Ghosts D) (o : sink.Ghosts O) (e : sink.Ghosts E)
    (words : List (List ℕ)) (old new : ProgramSystem D C I O E) (status : Status) : Type 0 where
  pub code : status ≡ status_of status.cause
  pub accounting : Accounting (account_asked words) (account_at h o old) (account_at h o new) status.cause
  pub says : e.tells ≡ true → EndsLine (codes "ataccount") status.cause (errors_at e old) (errors_at e new)
  pub errors_made : errors_made_as e new ≡ errors_made_as e old
  pub target : new.target ≡ old.target
  pub clock : new.clock ≡ old.clock
  pub input : new.input ≡ old.input

-- atstat ran by these words, for this caller. The input is left alone.
pub record IsStatRun {D C I O E : Type 0} (h : host.Ghosts D) (r : readings.Ghosts C) (o : sink.Ghosts O)
    (e : sink.Ghosts E) (words : List (List ℕ)) (caller : Caller) (old new : ProgramSystem D C I O E) (exit : StatExit)
    : Type 0 where
  pub code : HasCode exit
  pub stating : Stating (stat_asked words) caller (stat_at h r o old) (stat_at h r o new) e.tells
      (errors_at e old) (errors_at e new) exit
  pub errors_made : errors_made_as e new ≡ errors_made_as e old
  pub target : new.target ≡ old.target
  pub input : new.input ≡ old.input
