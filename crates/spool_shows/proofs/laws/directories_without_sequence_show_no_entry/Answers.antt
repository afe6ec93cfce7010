use Rattle.spool_shows.proofs.ShownHeaders.{directories_without_sequence_show_no_entry as law}
use Rattle.spool_shows.proofs.laws.directories_without_sequence_show_no_entry.Goals as goal

pub returns : goal.returns
returns c = law
