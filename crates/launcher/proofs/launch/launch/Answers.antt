use Rattle.std.proofs.Common.{inr}
use Rattle.std.proofs.lemmas.Result.{IfOk-weaker}
use Rattle.launcher.proofs.launch.launch.Goals as goal

-- (the words as they were lent are the ones that were given)
pub returns-in-Admitted-clause-launch : goal.returns-in-Admitted-clause-launch
returns-in-Admitted-clause-launch g c = IfOk-weaker c.run_tool_on.result _ _ (λ run ran. inr (inr (inr (record {
  submission = c.args.submission;
  paths = c.in-Admitted.paths;
  is_submission = c.requires;
  asked = _;
  admitted = rw (c.deref.ensures.value, c.in-Admitted.is) at c.in_ok-admission.ensures;
  later = c.run_tool_on.ensures.asked;
  ran = ran;
})))) c.run_tool_on.ensures.run
