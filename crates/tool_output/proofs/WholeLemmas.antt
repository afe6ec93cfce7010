-- The cause of a put, by what its sink answers.
use Rattle.std.proofs.Common.{◌≡◌, ◌≢◌, ◌∙◌, [], ap, ◌++◌, ◌==◌, ◌∷◌, append-nil, arith, refl, sym, Bool, List, ℕ, Result, Ok, Err, true, false, length}
use Rattle.std.proofs.lemmas.Bool.{eqb-true}
use Rattle.host_calls.specs.Causes.{HasCause, Rose}
use Rattle.host_calls.specs.declared.fault.SinkFault.{SinkFault}
use Rattle.host_calls.specs.declared.fault.SinkFault.TheVariants.{Failed, Memory as NoMemory}
use Rattle.host_calls.specs.Sink.{Outlet, Puts}
use Rattle.listing_text.specs.declared.cause.Cause.{Cause}
use Rattle.listing_text.specs.declared.cause.Cause.TheVariants.{Done, Memory, OutputFault}
use Rattle.tool_output.specs.Causes.{cause_of_put}
use Rattle.tool_output.specs.Sinks.{SinkAt, sink_at}
use Rattle.tool_output.specs.Whole.{PutsWhole}

-- an output fault comes only of a sink that failed
pub put_failed : (put : Result (Unit {0}) SinkFault) (was is : ℕ) (cause : Cause) → HasCause Failed was is put → cause ≡ cause_of_put put →
    cause ≡ OutputFault → Rose was is
put_failed (Ok value) was is cause has of same = let impossible : Done ≡ OutputFault = sym of ∙ same in cc
put_failed (Err Failed) was is cause has of same = has.rose refl
put_failed (Err NoMemory) was is cause has of same = let impossible : Memory ≡ OutputFault = sym of ∙ same in cc

pub whole_put : (tells : Bool) (text old new : List ℕ) (was is : Outlet) (put : Result (Unit {0}) SinkFault) → text ≢ [] →
    (tells ≡ true → Puts text old new put) → HasCause Failed was.sink_faults is.sink_faults put →
    PutsWhole tells text (sink_at old was) (sink_at new is) (cause_of_put put)
whole_put tells text old new was is (Ok value) some puts has = λ known. record { content = puts known; later = has.later }
whole_put tells text old new was is (Err Failed) some puts has = (
  some,
  λ known.
      let part = puts known in
      record { count = part.0; content = part.1; later = has.later; rose = has.rose refl },
)
whole_put tells text old new was is (Err NoMemory) some puts has = λ known. record { content = puts known; later = has.later }

-- where there is no byte, nothing is put
pub no_text_put : (tells : Bool) (text : List ℕ) (at : SinkAt) → text ≡ [] → PutsWhole tells text at at Done
no_text_put tells text at none = λ known.
    record { content = sym (append-nil at.content) ∙ ap (λ (bytes : List ℕ). at.content ++ bytes) (sym none); later = omega arith }

-- a text without a byte, and one with one
pub no_byte : (text : List ℕ) → (length text == 0) ≡ true → text ≡ []
no_byte [] is = refl
no_byte (byte ∷ later) is = absurd (let none : length (byte ∷ later) ≡ 0 = eqb-true (length (byte ∷ later)) 0 is in omega (arith, none))

pub some_byte : (text : List ℕ) → (length text == 0) ≡ false → text ≢ []
some_byte text is none = let no : true ≡ false = ap (λ (of : List ℕ). length of == 0) (sym none) ∙ is in cc
