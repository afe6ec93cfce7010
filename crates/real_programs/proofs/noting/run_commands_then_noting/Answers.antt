use Rattle.std.proofs.Common.{Bool, subst}
use Rattle.real_programs.specs.NotingRuns.{NotesIf}
use Rattle.real_programs.proofs.noting.run_commands_then_noting.Goals as goal

pub returns : goal.returns
returns g c = record {
  between = c.run_commands-status.new.system;
  commands = c.run_commands-status.ensures;
  noting = subst (λ (is_done : Bool). NotesIf is_done g.D.Host c.run_commands-status.new.system c.note_if.new.system)
      c.is_done.ensures c.note_if.ensures;
}
