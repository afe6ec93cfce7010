-- How the program that trims ends, by what its words request.
use Rattle.std.proofs.Common.{inl, inr, subst}
use Rattle.std.specs.Prelude.{Result, Ok, Err}
use Rattle.at_words.specs.Answers.{Answers}
use Rattle.at_words.specs.declared.fault.WordsFault.{WordsFault}
use Rattle.at_words.specs.declared.fault.WordsFault.TheVariants as words
use Rattle.tool_output.specs.Causes.{words_cause}
use Rattle.listing_text.specs.declared.cause.Cause.{Cause}
use Rattle.listing_text.specs.declared.cause.Cause.TheVariants.{Memory}
use Rattle.tool_output.specs.Outside.{OutsideAt}
use Rattle.at_mail.specs.TrimProgram.{HasMadeNoTrim, HasTrimmed, TrimEnds}

pub asked_ends : (asked : Result (Unit {0}) WordsFault) (value : Unit {0}) (old new : OutsideAt) (final : Cause) → Answers asked (Ok value)
    → HasTrimmed old new final → TrimEnds asked old new final
asked_ends asked value old new final is has = subst (λ of. TrimEnds of old new final) is (inl has)

-- words for which memory ran out
no_memory : (asked : Result (Unit {0}) WordsFault) (old new : OutsideAt) (final : Cause) → HasMadeNoTrim Memory old new final
    → TrimEnds asked old new final
no_memory (Ok value) old new final none = inr none
no_memory (Err fault) old new final none = inr none

pub unasked_ends : (asked : Result (Unit {0}) WordsFault) (old new : OutsideAt) (final : Cause) (fault : WordsFault)
    → Answers asked (Err fault) → HasMadeNoTrim (words_cause fault) old new final →
    TrimEnds asked old new final
unasked_ends asked old new final words.Usage is none = subst (λ of. TrimEnds of old new final) is (inl none)
unasked_ends asked old new final words.BadQueue is none = subst (λ of. TrimEnds of old new final) is (inl none)
unasked_ends asked old new final words.Memory is none = no_memory asked old new final none
