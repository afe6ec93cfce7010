use Rattle.real_programs.proofs.PostLemmas.{trim_by_words}
use Rattle.real_programs.proofs.post.trim_by.Goals as goal

pub returns-clause-run : goal.returns-clause-run
returns-clause-run g c = trim_by_words _ _ _ _ _ _ _ c.requires.words c.run_trim.ensures.run
