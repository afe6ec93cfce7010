use Rattle.spool_shows.proofs.StepLaws.{draws_are_shown as law}
use Rattle.spool_shows.proofs.laws.draws_are_shown.Goals as goal

pub returns : goal.returns
returns c = law
