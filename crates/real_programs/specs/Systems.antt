-- What a program works with (own): no session is on when it begins, and what each program sees of it.
use Rattle.std.specs.Prelude.{ℕ, List}
use Rattle.cron_session.specs.SessionOutcome.{CronAt}
use Rattle.cron_turn.specs.ListingRun.{ListingAt, listing_at}
use Rattle.cron_turn.specs.Outside.{run_at}
use Rattle.at_account.specs.AccountOutcome.{account_outside}
use Rattle.at_mail.specs.Program.{mail_outside}
use Rattle.at_mail.specs.TrimProgram.{trim_outside}
use Rattle.at_stat.specs.StatOutcome.{stat_outside}
use Rattle.host_calls.specs.declared.host.Host as host
use Rattle.host_calls.specs.declared.inputs.Inputs as inputs
use Rattle.host_calls.specs.declared.readings.Readings as readings
use Rattle.host_calls.specs.declared.sink.Sink as sink
use Rattle.host_calls.specs.Session.{IsOutside}
use Rattle.memory_host.specs.Host.{memory_session}
use Rattle.real_programs.specs.declared.system.ProgramSystem.{ProgramSystem}
use Rattle.real_programs.specs.declared.target.SalvageTarget.{SalvageTarget}
use Rattle.real_programs.specs.declared.target.SalvageTarget.TheVariants.{Directory, Memory}
use Rattle.tool_output.specs.Outside.{OutsideAt, WorkAt, outside_at}
use Rattle.tool_output.specs.Sinks.{SinkAt, sink_at}

-- no session of the target is on
abbrev pub IsTargetOutside : {D : Type 0} → host.Ghosts D → SalvageTarget D → Type 0
IsTargetOutside h (Directory to) = IsOutside (h.session to)
IsTargetOutside h (Memory to) = IsOutside (memory_session to)

-- all that the commands see
abbrev pub commands_at : {D C I O E : Type 0} → host.Ghosts D → readings.Ghosts C → inputs.Ghosts I → sink.Ghosts O →
    sink.Ghosts E → ProgramSystem D C I O E → OutsideAt
commands_at h r i o e system = outside_at h r i o e system.directory system.clock system.input system.output system.errors

-- what sessions of mail see
abbrev pub mail_at : {D C I O E : Type 0} → host.Ghosts D → readings.Ghosts C → sink.Ghosts E → ProgramSystem D C I O E → OutsideAt
mail_at h r e system = mail_outside h r e system.directory system.clock system.errors

-- what a trim of the notes of mail sees
abbrev pub notes_at : {D C I O E : Type 0} → host.Ghosts D → sink.Ghosts E → ProgramSystem D C I O E → OutsideAt
notes_at h e system = trim_outside h e system.directory system.errors

-- what sessions of a crontab see
abbrev pub crontab_at : {D C I O E : Type 0} → host.Ghosts D → readings.Ghosts C → inputs.Ghosts I → sink.Ghosts E →
    ProgramSystem D C I O E → WorkAt CronAt
crontab_at h r i e system = run_at h r i e system.directory system.clock system.input system.errors

-- what a listing of next minutes sees
abbrev pub next_at : {D C I O E : Type 0} → readings.Ghosts C → inputs.Ghosts I → sink.Ghosts O → ProgramSystem D C I O E → ListingAt
next_at r i o system = listing_at r i o system.clock system.input system.output

-- what an account sees
abbrev pub account_at : {D C I O E : Type 0} → host.Ghosts D → sink.Ghosts O → ProgramSystem D C I O E → OutsideAt
account_at h o system = account_outside h o system.directory system.output

-- what atstat sees
abbrev pub stat_at : {D C I O E : Type 0} → host.Ghosts D → readings.Ghosts C → sink.Ghosts O → ProgramSystem D C I O E → OutsideAt
stat_at h r o system = stat_outside h r o system.directory system.clock system.output

-- what was written to the errors
abbrev pub errors_at : {D C I O E : Type 0} → sink.Ghosts E → ProgramSystem D C I O E → SinkAt
errors_at e system = sink_at (e.content system.errors) (e.outlet system.errors)

-- what the output and the errors were made as
abbrev pub output_made_as : {D C I O E : Type 0} → sink.Ghosts O → ProgramSystem D C I O E → List ℕ
output_made_as o system = (o.outlet system.output).made_as

abbrev pub errors_made_as : {D C I O E : Type 0} → sink.Ghosts E → ProgramSystem D C I O E → List ℕ
errors_made_as e system = (e.outlet system.errors).made_as
