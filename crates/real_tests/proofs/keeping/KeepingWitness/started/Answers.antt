use Rattle.std.proofs.Common.{rules}
use Rattle.std.specs.Prelude.{◌≢◌, Err}
use Rattle.host_calls.specs.declared.fault.StartFault.TheVariants.{Memory}
use Rattle.real_tests.proofs.KeptLemmas.{keeps_start}
use Rattle.real_tests.proofs.keeping.KeepingWitness.started.Goals as goal
use Rattle.real_tests.proofs.keeping.KeepingWitness.started.Goals.{in-Err+in-Failed-1, in-Ok-1}

pub returns : goal.returns
returns c =
    let room : c.args.answer.now ≢ Err Memory =
    elim c.match-answer.branch [ in-Err+in-Failed-1 w ↦ search rules | in-Ok-1 w ↦ search rules ] in
    record {
      handed = λ knows. keeps_start c.args.self.now.model c.args.self.now.steps.items c.and-self.result.items
          c.args.self.now.asked.items c.of-model.result
          c.args.number c.args.name.now c.args.nice c.is_ok.result c.args.answer.now c.of-model.ensures
          c.is_ok.ensures.value c.and-self.ensures room
          (c.requires.held knows);
    }
