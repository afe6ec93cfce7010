use Rattle.std.proofs.Common.{◌≤◌, vec_len}
use Rattle.std.specs.Io.KnownBytes.{Consumes}
use Rattle.unix_host.proofs.prefix.read_prefix.Given as goal

-- no more was read than was requested, and all of it is kept
abbrev pub invariant-loop : goal.invariant-loop
invariant-loop g l = record {
  few : vec_len l.bytes ≤ l.most;
  bytes : Consumes (g.R.Read.remaining l.initial.reader) (g.R.Read.remaining l.reader) l.bytes.items;
}
