-- Which directory a fault is of.
use Rattle.std.proofs.Common.{◌≡◌, arith, refl, sym, ◌∙◌}
use Rattle.std.specs.Prelude.{Result, Ok, Err, IfErr, IsErrAnd}
use Rattle.host_calls.specs.Session.{CallsInside, IsInside, Session}
use Rattle.spool_check.specs.Faults.{IsOfSource, IsTargetFault}
use Rattle.spool_check.specs.declared.fault.SalvageFault.{SalvageFault}
use Rattle.spool_check.specs.declared.fault.SalvageFault.TheVariants.{FromFailed, ToFailed, NotEmpty, Memory}

pub source_not_target : (fault : SalvageFault) → IsOfSource fault → ¬ (fault ≡ ToFailed)
source_not_target FromFailed of = λ is. cc
source_not_target Memory of = λ is. cc
source_not_target _ of = absurd of

pub source_not_empty : (fault : SalvageFault) → IsOfSource fault → ¬ (fault ≡ NotEmpty)
source_not_empty FromFailed of = λ is. cc
source_not_empty Memory of = λ is. cc
source_not_empty _ of = absurd of

pub target_not_source : (fault : SalvageFault) → IsTargetFault fault → ¬ (fault ≡ FromFailed)
target_not_source ToFailed of = λ is. cc
target_not_source Memory of = λ is. cc
target_not_source _ of = absurd of

pub target_not_empty : (fault : SalvageFault) → IsTargetFault fault → ¬ (fault ≡ NotEmpty)
target_not_empty ToFailed of = λ is. cc
target_not_empty Memory of = λ is. cc
target_not_empty _ of = absurd of

module _ {T : Type 0} where
  -- an answer that is a fault is no other fault
  pub no_other : (fault other : SalvageFault) (result : Result T SalvageFault) → ¬ (fault ≡ other)
      → IsErrAnd result (λ found. found ≡ fault) → ¬ (result ≡ Err other)
  no_other fault other (Ok value) differ same = absurd same
  no_other fault other (Err found) differ same = λ is. (let both : found ≡ other = cc in differ (sym same ∙ both))

  pub no_fault : (other : SalvageFault) (P : SalvageFault → Type 0) (result : Result T SalvageFault)
      → ((fault : SalvageFault) → P fault → ¬ (fault ≡ other)) → IfErr result P → ¬ (result ≡ Err other)
  no_fault other P (Ok value) not of = λ is. cc
  no_fault other P (Err fault) not of = λ is. (let same : fault ≡ other = cc in not fault of same)

  -- nothing was called
  pub unmoved : (fault : SalvageFault) (session : Session) (result : Result T SalvageFault) → IsInside session → ¬ (result ≡ Err fault)
      → CallsInside fault session session result
  unmoved fault session result inside not = record {
    stays = record {
      inside = inside;
      children = refl;
      counts = record { made_as = refl; file_faults = omega arith; start_faults = omega arith; taken = omega arith };
    };
    cause = record { later = omega arith; rose = λ is. absurd (not is) };
  }

-- what comes after a call is no such fault
pub calls_unless : {T U : Type 0} (fault : SalvageFault) (old new : Session) (first : Result T SalvageFault)
    (result : Result U SalvageFault) → CallsInside fault old new first → ¬ (result ≡ Err fault) → CallsInside fault old new result
calls_unless fault old new first result calls not =
    record { stays = calls.stays; cause = record { later = calls.cause.later; rose = λ is. absurd (not is) } }
