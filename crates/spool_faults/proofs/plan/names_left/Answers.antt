use Rattle.std.proofs.Common.{[], ap}
use Rattle.spool_faults.specs.inside.FoundFiles.{file_first}
use Rattle.spool_faults.specs.inside.SavedParts.{name_unless}
use Rattle.spool_faults.proofs.SavingLists.{given_end, given_step}
use Rattle.spool_faults.proofs.plan.names_left.Goals as goal

pub loop-file-preserved : goal.loop-file-preserved
loop-file-preserved c =
    given_step (λ file. name_unless c.args.decided.now (file_first file)) c.args.files.now c.loop-file.file-index c.file-item.result []
    c.loop-file.names.items c.leave.new.names.items (name_unless c.args.decided.now (file_first c.file-item.result)) c.loop-file-test.true
    c.loop-file.invariant c.in_ok-leave.ensures (ap (λ file. name_unless c.args.decided.now (file_first file)) c.file-item.is)

pub returns : goal.returns
returns c =
    given_end (λ file. name_unless c.args.decided.now (file_first file)) c.args.files.now c.loop-file.file-index [] c.loop-file.names.items
    c.loop-file-test.false c.loop-file.invariant
