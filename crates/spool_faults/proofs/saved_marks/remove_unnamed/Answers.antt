use Rattle.std.proofs.Common.{◌∙◌, ap}
use Rattle.spool_faults.specs.inside.FoundFiles.{file_first}
use Rattle.spool_faults.specs.inside.SavedParts.{removal_unless}
use Rattle.spool_faults.proofs.SavingLists.{given_end, given_step}
use Rattle.spool_faults.proofs.saved_marks.remove_unnamed.Goals as goal

pub loop-file-preserved : goal.loop-file-preserved
loop-file-preserved c = record {
  writable = λ start. c.in_ok-keep_mark.ensures.writable c.taken_back.ensures.writable (c.loop-file.invariant.writable start);
  saved =
      given_step (λ file. removal_unless c.args.named.now (file_first file)) c.args.files.now c.loop-file.file-index c.file-item.result
      c.args.saved.now.items c.loop-file.saved.items c.keep_mark.new.saved.items c.taken_back.result c.loop-file-test.true
      c.loop-file.invariant.saved c.in_ok-keep_mark.ensures.saved (c.taken_back.ensures.taken
      ∙ ap (λ file. removal_unless c.args.named.now (file_first file)) c.file-item.is);
}

pub returns-clause-saved : goal.returns-clause-saved
returns-clause-saved c =
    given_end (λ file. removal_unless c.args.named.now (file_first file)) c.args.files.now c.loop-file.file-index c.args.saved.now.items
    c.loop-file.saved.items c.loop-file-test.false c.loop-file.invariant.saved
