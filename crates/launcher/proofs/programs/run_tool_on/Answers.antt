use Rattle.std.proofs.Common.{◌≡◌, map, string_bytes, ◌∙◌, subst}
use Rattle.caller_rules.specs.DaemonStarts.{begins_trim}
use Rattle.launcher.proofs.ExitLemmas.{tool_code}
use Rattle.launcher.specs.ToolRuns.{program_by}
use Rattle.launcher.proofs.programs.run_tool_on.Goals as goal

pub returns-clause-code : goal.returns-clause-code
returns-clause-code g c = tool_code _ _ _ _ _ c.in_ok-program.ensures.program.1 c.in_ok-ran.ensures.code

-- (the words as they were lent are the ones that are left)
pub returns-clause-run : goal.returns-clause-run
returns-clause-run g c = record {
  kept = c.in_ok-program.ensures.program.0;
  program = c.in_ok-program.program;
  program_is = subst (λ words. c.in_ok-program.program
      ≡ program_by c.args.tool (begins_trim (map string_bytes words)) c.in_ok-program.ensures.program.0)
      c.deref-3.ensures.value c.in_ok-program.ensures.program.1;
  plan = _;
  clock = _;
  spool_is = c.in_ok-of.ensures ∙ c.as_str-path.ensures;
  ran = rw c.deref-4.ensures.value at c.in_ok-ran.ensures.run;
}
