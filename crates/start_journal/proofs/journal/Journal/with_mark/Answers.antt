use Rattle.std.proofs.Common.{sym, subst}
use Rattle.start_journal.specs.Marks.{IsLegalAfter}
use Rattle.start_journal.proofs.ReadLemmas.{added_sound}
use Rattle.start_journal.proofs.journal.Journal.with_mark.Goals as goal

pub invariant_of-result : goal.invariant_of-result
invariant_of-result c =
    added_sound c.self.inside.marks.items c.push.new.self.items c.args.mark c.self.invariant
    (subst (λ read. IsLegalAfter read.marks c.args.mark) (sym c.self.view_is) c.requires.legal) c.requires.writable
    c.in_ok-push.ensures.items
