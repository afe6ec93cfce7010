-- After a trim no session is on.
use Rattle.std.proofs.Common.{◌≡◌, inl, inr, sym, subst}
use Rattle.std.specs.Prelude.{Result, Ok, Err}
use Rattle.at_mail.specs.TrimProgram.{TrimEnds}
use Rattle.at_words.specs.declared.fault.WordsFault.{WordsFault}
use Rattle.host_calls.specs.Session.{IsOutside, Session}
use Rattle.listing_text.specs.declared.cause.Cause.{Cause}
use Rattle.tool_output.specs.Outside.{OutsideAt}

module _ (old new : OutsideAt) (final : Cause) (was : IsOutside old.session) where
  -- it is as it was
  as_before : new.session ≡ old.session → IsOutside new.session
  as_before same = subst (λ (session : Session). IsOutside session) (sym same) was

  -- however the trim ended
  pub outside_after : (asked : Result (Unit {0}) WordsFault) → TrimEnds asked old new final → IsOutside new.session
  outside_after (Ok asked) (inl trimmed) = trimmed.trims.left.outside
  outside_after (Ok asked) (inr none) = as_before none.session
  outside_after (Err fault) (inl none) = as_before none.session
  outside_after (Err fault) (inr none) = as_before none.session
