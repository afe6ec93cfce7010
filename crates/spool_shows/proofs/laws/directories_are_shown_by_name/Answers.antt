use Rattle.spool_shows.proofs.ByNameLemmas.{directories_are_shown_by_name as law}
use Rattle.spool_shows.proofs.laws.directories_are_shown_by_name.Goals as goal

pub returns : goal.returns
returns c = law
