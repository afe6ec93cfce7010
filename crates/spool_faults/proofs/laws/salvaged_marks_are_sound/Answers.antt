use Rattle.std.specs.FinMap.{entries, find}
use Rattle.host_calls.specs.Directory.{name_cmp}
use Rattle.sequence_file.specs.LastNumber.{last_in}
use Rattle.sequence_file.specs.Sequence.{sequence_file}
use Rattle.start_journal.specs.Journals.{journal_file}
use Rattle.spool_faults.proofs.AddedMarks.{saved_sound}
use Rattle.spool_faults.proofs.laws.salvaged_marks_are_sound.Goals as goal

pub returns : goal.returns
returns c files =
    saved_sound (last_in (find name_cmp sequence_file (entries files))) (find name_cmp journal_file (entries files)) (entries files)
