-- A directory whose journal was written anew with the same marks shows the same table.
use Rattle.std.proofs.Common.{◌≡◌, ◌≤◌, List, ap, subst, ◌∙◌, arith}
use Rattle.std.specs.FinMap as map
use Rattle.host_calls.specs.Directory.{Files}
use Rattle.sequence_file.specs.Sequence.{sequence_file}
use Rattle.whole_file.specs.Temporary.{temporary_file}
use Rattle.spool_model.specs.JobTable.{JobTable, entry_at}
use Rattle.start_journal.specs.declared.mark.Mark.{Mark}
use Rattle.start_journal.specs.Journals.{journal_file}
use Rattle.start_journal.specs.Marks.{last_batch}
use Rattle.spool_shows.specs.ByName.{AreSound, ShowsByName, ShowsEntry}
use Rattle.spool_shows.specs.Laws.{HasRewritten}
use Rattle.sequence_file.proofs.LastNumbers.{last_spelled}
use Rattle.spool_shows.proofs.ByNameReads.{last_read, read_gives_journal}
use Rattle.spool_shows.proofs.NameLemmas.{AgreeOnNames, agreeing_keep, entry_kept, job_name_apart, journal_no_job, sound_kept, temporary_no_job}
use Rattle.spool_shows.proofs.OneMark.{had_same, last_moves}

pub rewritten_by_name : (before after : Files) (table : JobTable) → ShowsByName before table → HasRewritten table before after
    → ShowsByName after table
rewritten_by_name before after table shows has =
    let same : shows.read.marks ≡ has.marks = had_same before table has.marks shows has.had in
    let least : table.last ≤ table.last = omega arith in
    let agree : AgreeOnNames before after =
    λ name job named. has.others name (job_name_apart temporary_file journal_file name job temporary_no_job journal_no_job named) in
    let sound : AreSound table.last has.marks before = subst (λ (marks : List Mark). AreSound table.last marks before) same shows.sound in
    record {
      read = record { marks = has.marks; free = has.free };
      last = last_spelled (map.get after sequence_file) table.last
          (last_moves before after table.last has.others (last_read before table shows));
      journal = read_gives_journal table.last (map.get after journal_file) _ has.journal;
      sound = sound_kept table.last table.last has.marks before after least agree sound;
      batch = shows.batch ∙ ap last_batch same;
      entries =
          λ number. entry_kept has.marks before after number (entry_at table number) (agreeing_keep has.marks before after number agree)
          (subst (λ (marks : List Mark). ShowsEntry marks before number (entry_at table number)) same (shows.entries number));
    }
