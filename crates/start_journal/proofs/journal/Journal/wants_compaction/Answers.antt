use Rattle.std.proofs.Common.{◌∙◌, ap, arith, subst}
use Rattle.start_journal.specs.Marks.{AreLegalMarks}
use Rattle.start_journal.proofs.ReadLemmas.{sound_legal}
use Rattle.start_journal.proofs.CompactionLemmas.{few_forgotten, few_marks}
use Rattle.start_journal.proofs.journal.Journal.wants_compaction.Goals as goal
use Rattle.start_journal.proofs.journal.Journal.wants_compaction.Goals.{then-marks-lt-COMPACTION_SLOTS-via-then-marks-lt-COMPACTION_SLOTS, then-marks-lt-COMPACTION_SLOTS-via-else-marks-lt-COMPACTION_SLOTS+then-forgotten_count-marks}

pub returns-then-marks-lt-COMPACTION_SLOTS : goal.returns-then-marks-lt-COMPACTION_SLOTS
returns-then-marks-lt-COMPACTION_SLOTS c =
    let seen = ap (λ read. read.marks) c.self.view_is in
    elim c.then-marks-lt-COMPACTION_SLOTS.branch [
      | then-marks-lt-COMPACTION_SLOTS-via-then-marks-lt-COMPACTION_SLOTS w ↦
          few_marks c.as_slice-marks.result.now c.args.self.now.marks (c.as_slice-marks.ensures.value ∙ seen)
          w.if-marks-lt-COMPACTION_SLOTS.true
      | then-marks-lt-COMPACTION_SLOTS-via-else-marks-lt-COMPACTION_SLOTS+then-forgotten_count-marks w ↦
          few_forgotten c.as_slice-marks.result.now c.args.self.now.marks (c.as_slice-marks.ensures.value ∙ seen)
          (subst AreLegalMarks seen (sound_legal c.self.inside.marks.items c.self.invariant))
          (omega (arith, w.forgotten_count.ensures, w.if-forgotten_count-marks.true))
    ]
