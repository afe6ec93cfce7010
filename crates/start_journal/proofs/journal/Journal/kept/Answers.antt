use Rattle.std.proofs.Common.{◌∙◌, ap}
use Rattle.start_journal.specs.Journals.{are_sound}
use Rattle.start_journal.specs.Marks.{kept_marks}
use Rattle.start_journal.proofs.KeepLemmas.{kept_sound}
use Rattle.start_journal.proofs.journal.Journal.kept.Goals as goal

pub invariant_of-result : goal.invariant_of-result
invariant_of-result c =
    ap are_sound (c.in_ok-kept_marks.ensures ∙ ap kept_marks c.as_slice.ensures.value)
    ∙ kept_sound c.self.inside.marks.items c.self.invariant
