use Rattle.std.proofs.Common.{refl}
use Rattle.job_script.specs.HeaderIn.{alike, flag_alike, has_user, header_in, header_place, name_prefix, user_in}
use Rattle.start_journal.specs.Journals.{free_slot, journal_in}
use Rattle.start_journal.specs.SlotBytes.{mark_in, may_stand, right_prefix}
use Rattle.spool_shows.proofs.laws.small_directories.Goals as goal

pub returns-clause-show : goal.returns-clause-show
unfolding alike flag_alike has_user header_in header_place name_prefix user_in free_slot journal_in mark_in may_stand right_prefix
returns-clause-show c = record {
  nothing = refl;
  drawn = refl;
  pending = refl;
  running = refl;
  done = refl;
  done_with_file = refl;
  free = refl;
  new_form_drawn = refl;
  new_form_pending = refl;
  new_form_running = refl;
  both_forms = refl;
  both_forms_running = refl;
  new_form_name_alone = refl;
  other_names = refl;
}

pub returns-clause-damaged : goal.returns-clause-damaged
unfolding alike flag_alike has_user header_in header_place name_prefix user_in free_slot journal_in mark_in may_stand right_prefix
returns-clause-damaged c = record {
  sequence_digit = refl;
  sequence_short = refl;
  sequence_long = refl;
  sequence_empty = refl;
  six_digits = refl;
  six_digits_alone = refl;
  new_form_sequence_digit = refl;
  new_form_sequence_short = refl;
  new_form_sequence_long = refl;
  rest = refl;
  start_without_file = refl;
  start_in_another_queue = refl;
  kind = refl;
  number_of_zeros = refl;
  second_start = refl;
  open_after_closed = refl;
  not_drawn = refl;
  header = refl;
  long_user = refl;
  empty_file = refl;
  two_files = refl;
  old_form_after_new_form = refl;
  new_form_after_old_form = refl;
  new_form_not_drawn = refl;
}

pub returns-clause-old_form : goal.returns-clause-old_form
unfolding alike flag_alike has_user header_in header_place name_prefix user_in free_slot journal_in mark_in may_stand right_prefix
returns-clause-old_form c = record {
  nothing = refl;
  pending = refl;
  running = refl;
  new_form_name = refl;
  new_form_sequence = refl;
}
