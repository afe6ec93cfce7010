use Rattle.std.proofs.Common.{◌∙◌, ap, Vec}
use Rattle.spool_store.proofs.RecoveryForms.{all_numbers, next_is_old_form, next_is_new_form}
use Rattle.spool_store.proofs.scanned_files.old_form_numbers.Goals as goal
use Rattle.spool_store.proofs.scanned_files.old_form_numbers.Goals.{then-not-file+in_ok-push, else-not-file}

pub loop-file-preserved : goal.loop-file-preserved
loop-file-preserved c = elim c.if-not-file.branch [
  | then-not-file+in_ok-push w ↦
      next_is_old_form c.args.scanned.now c.loop-file.file-index c.file-item.result c.loop-file.numbers.items c.if-not-file.numbers.items
      c.loop-file-test.true c.file-item.is w.if-not-file.true c.loop-file.invariant
      (ap (λ (numbers : Vec _ _). numbers.items) w.numbers-is ∙ w.in_ok-push.ensures.items)
  | else-not-file w ↦
      next_is_new_form c.args.scanned.now c.loop-file.file-index c.file-item.result c.loop-file.numbers.items c.if-not-file.numbers.items
      c.loop-file-test.true c.file-item.is w.if-not-file.false c.loop-file.invariant
      (ap (λ (numbers : Vec _ _). numbers.items) w.numbers-is)
]

pub returns : goal.returns
returns c = all_numbers c.args.scanned.now c.loop-file.file-index c.loop-file.numbers.items c.loop-file-test.false c.loop-file.invariant
