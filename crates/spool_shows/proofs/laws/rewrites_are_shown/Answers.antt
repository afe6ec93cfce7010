use Rattle.spool_shows.proofs.StepLaws.{rewrites_are_shown as law}
use Rattle.spool_shows.proofs.laws.rewrites_are_shown.Goals as goal

pub returns : goal.returns
returns c = law
