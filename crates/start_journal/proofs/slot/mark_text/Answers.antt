use Rattle.start_journal.proofs.SlotLemmas.{second_small}
use Rattle.start_journal.proofs.slot.mark_text.Goals as goal

pub write-requires : goal.write-requires
write-requires c = rw c.of.ensures (second_small c.args.mark.now c.requires)
