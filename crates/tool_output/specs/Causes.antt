-- The causes of a command's end, as its calls answer them.
use Rattle.std.specs.Prelude.{Result, Ok, Err}
use Rattle.at_words.specs.declared.fault.WordsFault.{WordsFault}
use Rattle.at_words.specs.declared.fault.WordsFault.TheVariants as words
use Rattle.host_calls.specs.declared.fault.EnterFault.{EnterFault}
use Rattle.host_calls.specs.declared.fault.EnterFault.TheVariants as entry
use Rattle.host_calls.specs.declared.fault.HostFault.{HostFault}
use Rattle.host_calls.specs.declared.fault.HostFault.TheVariants as host
use Rattle.host_calls.specs.declared.fault.InputFault.{InputFault}
use Rattle.host_calls.specs.declared.fault.InputFault.TheVariants as input
use Rattle.host_calls.specs.declared.fault.SinkFault.{SinkFault}
use Rattle.host_calls.specs.declared.fault.SinkFault.TheVariants as sink
use Rattle.job_script.specs.declared.fault.ScriptFault.{ScriptFault}
use Rattle.job_script.specs.declared.fault.ScriptFault.TheVariants as script
use Rattle.listing_text.specs.declared.cause.Cause.{Cause}
use Rattle.listing_text.specs.declared.cause.Cause.TheVariants.{Busy, Damaged, Done, FileFault, InputFault as InputFailed, Memory, OutputFault, Refused}
use Rattle.listing_text.specs.declared.refusal.Refusal.TheVariants as refusal
use Rattle.host_calls.specs.declared.store_fault.StoreFault.{StoreFault}
use Rattle.host_calls.specs.declared.store_fault.StoreFault.TheVariants as store
use Rattle.tool_output.specs.declared.command_error.CommandError.{CommandError}

-- a fault of the store, as the cause of a command
abbrev pub cause_of : StoreFault → Cause
cause_of store.FileFault = FileFault
cause_of (store.Damaged damage) = Damaged damage
cause_of store.QueueFull = Refused refusal.QueueFull
cause_of store.NumbersUsedUp = Refused refusal.NumbersUsedUp
cause_of store.Memory = Memory

-- a fault of the host, as the cause of a command
abbrev pub cause_of_host : HostFault → Cause
cause_of_host host.Failed = FileFault
cause_of_host host.Memory = Memory

-- why a session could not begin, as the cause of a command
abbrev pub cause_of_entry : EnterFault → Cause
cause_of_entry entry.Taken = Busy
cause_of_entry entry.Failed = FileFault
cause_of_entry entry.Memory = Memory

-- why commands could not be read, as the cause of a command
abbrev pub cause_of_input : InputFault → Cause
cause_of_input input.Failed = InputFailed
cause_of_input input.Memory = Memory

-- why bytes could not be put, as the cause of a command
abbrev pub cause_of_sink : SinkFault → Cause
cause_of_sink sink.Failed = OutputFault
cause_of_sink sink.Memory = Memory

-- the cause by what was put
abbrev pub cause_of_put : {T : Type 0} → Result T SinkFault → Cause
cause_of_put (Ok value) = Done
cause_of_put (Err fault) = cause_of_sink fault

-- why no job text is made, as the cause of a command
abbrev pub cause_of_script : ScriptFault → Cause
cause_of_script script.BadUser = Refused refusal.BadUser
cause_of_script script.BadDirectory = Refused refusal.BadDirectory
cause_of_script script.EnvironmentTooLarge = Refused refusal.EnvironmentTooLarge
cause_of_script script.TooLong = Refused refusal.TooLong
cause_of_script script.Memory = Memory

-- the cause of words that request nothing: they are refused, or there was no memory to read them
abbrev pub words_cause : WordsFault → Cause
words_cause words.Usage = Refused refusal.Usage
words_cause words.BadQueue = Refused refusal.BadQueue
words_cause words.Memory = Memory

-- stopped by a cause
abbrev pub error_of : Cause → CommandError
error_of cause = record { cause = cause }

-- the cause of an answer: it is done, or stopped by a cause
abbrev pub cause_in : {T : Type 0} → Result T CommandError → Cause
cause_in (Ok value) = Done
cause_in (Err command_error) = command_error.cause
