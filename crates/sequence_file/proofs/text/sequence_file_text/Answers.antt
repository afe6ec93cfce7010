use Rattle.std.proofs.Common.{◌∙◌, ap, length, take}
use Rattle.std.specs.Prelude.{true, codes}
use Rattle.sequence_file.proofs.SequenceLemmas.{digits_and_newline}
use Rattle.sequence_file.proofs.text.sequence_file_text.Goals as goal

pub returns : goal.returns
returns c =
    let room = ap (λ digits. length (take digits (codes "00000000\n"))) c.number_digits.ensures in
    rw c.number_digits.ensures (digits_and_newline true c.write_hex.new.out c.args.number (c.write_hex.auto.out ∙ room) c.write_hex.ensures)
