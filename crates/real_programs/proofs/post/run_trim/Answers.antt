use Rattle.real_programs.proofs.TrimLemmas.{outside_after}
use Rattle.real_programs.proofs.post.run_trim.Goals as goal

pub returns-clause-outside : goal.returns-clause-outside
returns-clause-outside g c = outside_after _ _ _ c.requires _ c.trim_program.ensures.trims
