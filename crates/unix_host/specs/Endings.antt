-- How a child ended, by the status that the system told (own; such a status is that of `waitpid`, IEEE Std 1003.1-2017).
use Rattle.std.specs.Prelude.{ℕ, ℤ, pos, negsuc, Option, Some, None}
use Rattle.std.specs.Process.{exit_code, exit_signal}
use Rattle.std.specs.declared.process.ExitStatus.{ExitStatus}
use Rattle.host_calls.specs.declared.child.Ending.{Ending}
use Rattle.host_calls.specs.declared.child.Ending.TheVariants.{Exit, Signal}

-- the number that an integer counts
abbrev pub natural_of : ℤ → ℕ
natural_of (pos count) = count
natural_of (negsuc _) = 0

-- the ending by its exit code, and else by the signal, 0 where none is reported
abbrev pub ending_by : Option ℤ → Option ℤ → Ending
ending_by (Some code) signal = Exit (natural_of code)
ending_by None (Some signal) = Signal (natural_of signal)
ending_by None None = Signal 0

-- the ending of a child with this status
abbrev pub ending_for : ExitStatus → Ending
ending_for status = ending_by (exit_code status) (exit_signal status)
