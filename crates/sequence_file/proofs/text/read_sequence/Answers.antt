use Rattle.std.proofs.Common.{◌∙◌, sym}
use Rattle.sequence_file.proofs.SequenceLemmas.{of_no_form}
use Rattle.sequence_file.proofs.text.read_sequence.Goals as goal

pub damage_of-requires : goal.damage_of-requires
damage_of-requires c = of_no_form c.args.bytes.now c.number_in_file.result c.number_in_file-2.result c.number_in_file.ensures.none
    c.number_in_file-2.ensures.none (sym c.or.ensures ∙ c.in-None.is)
