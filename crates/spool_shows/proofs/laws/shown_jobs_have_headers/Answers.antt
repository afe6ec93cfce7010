use Rattle.spool_shows.proofs.ShownHeaders.{shown_jobs_have_headers as law}
use Rattle.spool_shows.proofs.laws.shown_jobs_have_headers.Goals as goal

pub returns : goal.returns
returns c = law
