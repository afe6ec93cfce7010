use Rattle.std.proofs.Common.{◌≡◌}
use Rattle.unix_host.specs.declared.lock_files.LockPlace.{LockPlace}
use Rattle.unix_host.proofs.lock.Lock.take.Given as goal

-- each of the two is still the one it was
abbrev pub invariant-loop : goal.invariant-loop
invariant-loop g l = (l.beside.place ≡ LockPlace.Beside) × (l.within.place ≡ LockPlace.Within)
