-- A directory in which the next number was drawn shows the table with that number.
use Rattle.std.proofs.Common.{◌≡◌, ◌≤◌, ◌+◌, ap, ◌∙◌, arith}
use Rattle.std.specs.FinMap as map
use Rattle.host_calls.specs.Directory.{Files}
use Rattle.sequence_file.specs.Sequence.{sequence_file}
use Rattle.whole_file.specs.Temporary.{temporary_file}
use Rattle.spool_model.specs.declared.step.Step.TheVariants.{Draw}
use Rattle.spool_model.specs.JobTable.{JobTable, entry_at}
use Rattle.spool_model.specs.Steps.{after_step}
use Rattle.start_journal.specs.Journals.{journal_file, journal_in}
use Rattle.spool_shows.specs.ByName.{ShowsByName}
use Rattle.spool_shows.specs.Laws.{HasDrawn}
use Rattle.start_journal.proofs.JournalReads.{journal_more}
use Rattle.sequence_file.proofs.LastNumbers.{last_spelled}
use Rattle.spool_shows.proofs.ByNameReads.{journal_read, read_gives_journal}
use Rattle.spool_shows.proofs.NameLemmas.{AgreeOnNames, agreeing_keep, entry_kept, job_name_apart, journal_apart, sequence_no_job, sound_kept, temporary_no_job}

pub drawn_by_name : (before after : Files) (table : JobTable) → ShowsByName before table → HasDrawn table before after
    → ShowsByName after (after_step table Draw)
drawn_by_name before after table shows has =
    let least : table.last ≤ table.last + 1 = omega arith in
    let same_journal : map.get after journal_file ≡ map.get before journal_file = has.others journal_file journal_apart in
    let agree : AgreeOnNames before after =
    λ name job named. has.others name (job_name_apart temporary_file sequence_file name job temporary_no_job sequence_no_job named) in
    record {
      read = shows.read;
      last = last_spelled (map.get after sequence_file) (table.last + 1) has.number;
      journal = read_gives_journal (table.last + 1) (map.get after journal_file) shows.read (ap (journal_in (table.last + 1)) same_journal
          ∙ journal_more table.last (table.last + 1) (map.get before journal_file) shows.read least (journal_read before table shows));
      sound = sound_kept table.last (table.last + 1) shows.read.marks before after least agree shows.sound;
      batch = shows.batch;
      entries = λ number. entry_kept shows.read.marks before after number (entry_at table number)
          (agreeing_keep shows.read.marks before after number agree) (shows.entries number);
    }
