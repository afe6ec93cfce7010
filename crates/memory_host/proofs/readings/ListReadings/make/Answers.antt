use Rattle.std.proofs.Common.{refl}
use Rattle.memory_host.specs.Readings.{answers_to}
use Rattle.memory_host.proofs.readings.ListReadings.make.Goals as goal

pub returns-clause-answers : goal.returns-clause-answers
unfolding answers_to
returns-clause-answers c = refl
