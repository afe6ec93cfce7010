-- Why a session ends so.
use Rattle.std.proofs.Common.{◌≡◌, refl}
use Rattle.std.specs.Prelude.{Result, Ok, Err}
use Rattle.host_calls.specs.declared.store_fault.StoreFault.{StoreFault}
use Rattle.host_calls.specs.declared.store_fault.StoreFault.TheVariants as fault
use Rattle.host_calls.specs.declared.turn_end.TurnEnd.TheVariants.{Busy, FileFault}
use Rattle.host_calls.specs.SessionEnds.{end_after}

pub not_busy : (result : Result (Unit {0}) StoreFault) → end_after result ≡ Busy → ⊥
not_busy (Ok done) is = cc
not_busy (Err fault.FileFault) is = cc
not_busy (Err (fault.Damaged damage)) is = cc
not_busy (Err fault.Memory) is = cc
not_busy (Err fault.QueueFull) is = cc
not_busy (Err fault.NumbersUsedUp) is = cc

pub is_fault : (result : Result (Unit {0}) StoreFault) → end_after result ≡ FileFault → result ≡ Err fault.FileFault
is_fault (Ok done) is = cc
is_fault (Err fault.FileFault) is = refl
is_fault (Err (fault.Damaged damage)) is = cc
is_fault (Err fault.Memory) is = cc
is_fault (Err fault.QueueFull) is = cc
is_fault (Err fault.NumbersUsedUp) is = cc
