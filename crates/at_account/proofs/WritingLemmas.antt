-- Each record that can be in a line has one.
use Rattle.std.proofs.Common.{◌≡◌, ◌<◌, ◌≤◌, ◌^◌, false, ◌∷◌, ◌++◌, refl, arith}
use Rattle.std.specs.Prelude.{◌==◌}
use Rattle.std.specs.Char.{is_ascii_alphanumeric}
use Rattle.std.proofs.lemmas.Bool.Decides.{nat_tests}
use Rattle.text_reader.specs.HexDigits.{SpellsNumber, digits_of}
use Rattle.text_reader.proofs.DigitLemmas.{are_alphanumeric}
use Rattle.text_reader.proofs.EightDigits.{digits_spelled}
use Rattle.spool_model.specs.Users.{is_user_byte}
use Rattle.record_lines.specs.Lines.{CanBeSpelled, HasNoNewline}
use Rattle.record_lines.proofs.LineLemmas.{both_none, none_of}
use Rattle.at_account.specs.declared.record.AccountEvent.{AccountEvent}
use Rattle.at_account.specs.declared.record.AccountEvent.TheVariants.{Closed, Seen, Started}
use Rattle.at_account.specs.declared.record.AccountRecord.{AccountRecord}
use Rattle.at_account.specs.declared.record.Closing.TheVariants.{Finished, Interrupted, Lost, NotStarted, Removed}
use Rattle.at_account.specs.Lines.{HasOwner, IsRestOf, SpellsRecord, letter_of_event, owner_text}

rest_of : (event : AccountEvent) → HasOwner event → IsRestOf (owner_text event) event
rest_of (Seen owner) (letter, user) = record { is = refl; letter = letter; user = user }
rest_of Started has = refl
rest_of (Closed closing) has = refl

rest_none : (event : AccountEvent) → HasOwner event → HasNoNewline (owner_text event)
rest_none (Seen owner) (letter, user) =
    let queue : (owner.queue == 10) ≡ false = grind (arith, nat_tests) in
    let name : HasNoNewline owner.user = none_of is_user_byte 10 owner.user refl user.each in
    rw (queue, name) refl
rest_none Started has = refl
rest_none (Closed closing) has = refl

letter_none : (event : AccountEvent) → (letter_of_event event == 10) ≡ false
letter_none (Seen owner) = refl
letter_none Started = refl
letter_none (Closed Finished) = refl
letter_none (Closed NotStarted) = refl
letter_none (Closed Interrupted) = refl
letter_none (Closed Removed) = refl
letter_none (Closed Lost) = refl

pub can_write : (one : AccountRecord) → 1 ≤ one.number → one.number < 2 ^ 32 → HasOwner one.event → CanBeSpelled SpellsRecord one
can_write one some fits owner =
    let spelled : SpellsNumber (digits_of one.number) one.number = digits_spelled one.number (omega arith) in
    let digits : HasNoNewline (digits_of one.number) =
    none_of is_ascii_alphanumeric 10 (digits_of one.number) refl (are_alphanumeric (digits_of one.number) one.number spelled) in
    let both : HasNoNewline (digits_of one.number ++ owner_text one.event) =
    both_none (digits_of one.number) (owner_text one.event) digits (rest_none one.event owner) in
    record {
      line = letter_of_event one.event ∷ 32 ∷ (digits_of one.number ++ owner_text one.event);
      whole = rw (letter_none one.event) both;
      spelled = record {
        letter = letter_of_event one.event;
        digits = digits_of one.number;
        rest = owner_text one.event;
        parted = refl;
        counted = refl;
        number = spelled;
        some = some;
        event = record { letter_is = refl; rest_is = rest_of one.event owner };
      };
    }
