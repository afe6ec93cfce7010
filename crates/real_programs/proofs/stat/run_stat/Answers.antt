use Rattle.std.proofs.Common.{refl}
use Rattle.real_programs.proofs.StatLemmas.{said_code}
use Rattle.real_programs.proofs.stat.run_stat.Goals as goal

pub returns : goal.returns
returns g c = record {
  code = said_code _ _ _ _ _ c.stat_program.ensures.stating.before.cause c.stat_program.ensures.stating.says;
  stating = c.stat_program.ensures.stating;
  errors_made = c.stat_program.ensures.made_as;
  target = refl;
  input = refl;
}
