-- A fault of a file is the only one that a count of such faults has to explain.
use Rattle.std.proofs.Common.{◌≡◌, ap}
use Rattle.std.specs.Prelude.{IsErrOf, Ok, Err}
use Rattle.host_calls.specs.declared.store_fault.StoreFault.{StoreFault}
use Rattle.host_calls.specs.declared.store_fault.StoreFault.TheVariants.{FileFault, Memory, NumbersUsedUp, QueueFull}

pub ok_is_none : {T : Type 0} (value : T) → IsErrOf {T = T} {E = StoreFault} (Ok value) FileFault → ⊥
ok_is_none value is = cc

pub memory_is_none : {T : Type 0} → IsErrOf {T = T} {E = StoreFault} (Err Memory) FileFault → ⊥
memory_is_none is = cc

pub full_is_none : {T : Type 0} → IsErrOf {T = T} {E = StoreFault} (Err QueueFull) FileFault → ⊥
full_is_none is = cc

pub used_up_is_none : {T : Type 0} → IsErrOf {T = T} {E = StoreFault} (Err NumbersUsedUp) FileFault → ⊥
used_up_is_none is = cc

-- whatever the value would have been
pub same_fault : {T U : Type 0} (of : StoreFault) → IsErrOf {T = T} {E = StoreFault} (Err of) FileFault
    → IsErrOf {T = U} {E = StoreFault} (Err of) FileFault
same_fault of is = let same : of ≡ FileFault = cc in ap (λ (one : StoreFault). Err one) same
