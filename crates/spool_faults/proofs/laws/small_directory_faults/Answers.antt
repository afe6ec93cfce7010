use Rattle.std.proofs.Common.{refl}
use Rattle.job_script.specs.HeaderIn.{alike, flag_alike, has_user, header_in, header_place, name_prefix, user_in}
use Rattle.start_journal.specs.Journals.{free_slot, journal_in}
use Rattle.start_journal.specs.SlotBytes.{mark_in, may_stand, right_prefix}
use Rattle.start_journal.specs.Taken.{faults_in, taken_of}
use Rattle.spool_faults.proofs.laws.small_directory_faults.Goals as goal

pub returns-clause-faults : goal.returns-clause-faults
unfolding alike flag_alike has_user header_in header_place name_prefix user_in free_slot journal_in mark_in may_stand
    right_prefix faults_in taken_of
returns-clause-faults c = record {
  undrawn_job = refl;
  rest = refl;
  no_file = refl;
  another_queue = refl;
  twice = refl;
  after_closed = refl;
  second_file = refl;
  above_last = refl;
  no_number = refl;
  old_form = refl;
}

pub returns-clause-salvaged : goal.returns-clause-salvaged
unfolding alike flag_alike has_user header_in header_place name_prefix user_in free_slot journal_in mark_in may_stand
    right_prefix faults_in taken_of
returns-clause-salvaged c = record {
  undrawn_job = refl;
  rest = refl;
  no_file = refl;
  another_queue = refl;
  twice = refl;
  after_closed = refl;
  second_file = refl;
  above_last = refl;
  orphan = refl;
  no_number = refl;
  old_form = refl;
}
