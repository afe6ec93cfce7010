use Rattle.std.proofs.Common.{sym, ◌∙◌}
use Rattle.memory_host.proofs.FilesLemmas.{part_found, part_passed}
use Rattle.memory_host.proofs.failing_list.first_part.Goals as goal

pub loop-failing-preserved : goal.loop-failing-preserved
loop-failing-preserved c = sym (part_passed c.args.list.now c.args.call c.loop-failing.failing-index _ c.loop-failing-test.true
    c.if-failing-call.false) ∙ c.loop-failing.invariant

pub returns-then-failing-call : goal.returns-then-failing-call
returns-then-failing-call c = sym (part_found c.args.list.now c.args.call c.loop-failing.failing-index _ c.loop-failing-test.true
    c.if-failing-call.true) ∙ c.loop-failing.invariant
