use Rattle.spool_shows.proofs.OtherLemmas.{other_files_count_for_nothing as law}
use Rattle.spool_shows.proofs.laws.other_files_count_for_nothing.Goals as goal

pub returns : goal.returns
returns c = law
