use Rattle.std.proofs.Common.{◌≡◌, ◌∙◌, ◌<◌, Err, Ok, Result, Some, ap, arith, length, refl, subst, sym, vec_len}
use Rattle.std.specs.Prelude.{IfOk}
use Rattle.host_calls.specs.declared.fault.StartFault.TheVariants.{Failed}
use Rattle.unix_host.proofs.ChildLemmas.{below_count, one_more, last_mapped}
use Rattle.unix_host.proofs.host.UnixHostHost.start.Goals as goal

pub returns-clause-starts : goal.returns-clause-starts
returns-clause-starts g c =
    let count = vec_len c.args.self.now.kids in
    let id = length c.as_slice.result.now in
    record {
      inside = refl;
      children = one_more count (vec_len c.push_reserved.new.self) id (omega arith) (omega arith);
      is_new = λ known. let below : id < count = below_count count _ known in absurd (omega arith);
      counts = record { made_as = refl; file_faults = omega arith; start_faults = omega arith; taken = omega arith };
    }

pub returns-clause-cause : goal.returns-clause-cause
returns-clause-cause g c = record { later = c.start_call-2.ensures.cause.later; rose = λ failed. cc }

pub returns-clause-started_as : goal.returns-clause-started_as
returns-clause-started_as g c =
    let kid = c.in_ok-kid.kid in
    let is : c.start-started.result ≡ Ok kid = sym c.start_call-2.ensures.same ∙ c.in_ok-kid.was in
    last_mapped (λ kid. kid.started_as) c.reserve.new.self.items c.push_reserved.new.self.items kid (length c.as_slice.result.now)
    c.push_reserved.ensures.items (ap length c.as_slice.ensures.value)
    ∙ ap Some (subst (λ answer. IfOk answer (λ kid. kid.started_as ≡ record { name = c.args.name.now; nice = c.args.nice })) is
    c.start-started.ensures.started_as)

-- what succeeded has no fault
no_fault : {T E : Type 0} (result : Result T E) (value : T) (fault : E) → result ≡ Ok value → ¬ (result ≡ Err fault)
no_fault result value fault is failed = let both : ◌≡◌ {A = Result _ _} (Ok value) (Err fault) = sym is ∙ failed in cc

pub returns-clause-counts : goal.returns-clause-counts
returns-clause-counts g c =
    record {
      files = c.start_call-2.ensures.files;
      starts = λ _. c.start_call-2.ensures.quiet (no_fault c.start_call-2.result c.in_ok-kid.kid Failed c.in_ok-kid.was);
      taken = c.start_call-2.ensures.taken;
    }
