use Rattle.std.proofs.Common.{◌≤◌, length, take}
use Rattle.std.specs.Io.KnownBytes.{Consumes}
use Rattle.unix_host.proofs.prefix.fill_buffer.Given as goal

-- what is filled lies in the buffer, and is what the reader gave
abbrev pub invariant-loop : goal.invariant-loop
invariant-loop g l = record {
  few : l.filled ≤ length l.buffer;
  bytes : Consumes (g.R.Read.remaining l.initial.reader) (g.R.Read.remaining l.reader) (take l.filled l.buffer);
}
