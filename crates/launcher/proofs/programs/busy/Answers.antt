use Rattle.std.proofs.Common.{◌∙◌, ap}
use Rattle.listing_text.specs.declared.cause.Cause.TheVariants.{Busy}
use Rattle.listing_text.specs.declared.status.Status.{Status}
use Rattle.real_programs.specs.declared.program_exit.ProgramExit.{ProgramExit}
use Rattle.launcher.proofs.programs.busy.Goals as goal

pub returns-clause-code : goal.returns-clause-code
returns-clause-code c = (
  Busy,
  ap (λ (exit : ProgramExit). exit.code) c.of.ensures
      ∙ ap (λ (status : Status). status.code) c.refuse_tool.ensures,
)
