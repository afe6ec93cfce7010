use Rattle.std.proofs.Common.{◌≡◌, Some, None, codes, map, string_bytes, sym, ◌∙◌}
use Rattle.caller_rules.specs.DaemonStarts.{has_option}
use Rattle.launcher.specs.Descriptions.{description_asked}
use Rattle.launcher.specs.ToolEnds.{program_apart}
use Rattle.launcher.proofs.run_tool.run_tool.Goals as goal

-- (the words as they were lent are the ones that were given)
pub returns-in-Some-program_apart-clause-end : goal.returns-in-Some-program_apart-clause-end
returns-in-Some-program_apart-clause-end g c =
    let asked : description_asked (map string_bytes c.args.words.now.items) ≡ None =
    sym (rw c.deref.ensures.value at c.description_asked.ensures) ∙ c.in_default.is in
    let apart : program_apart c.args.tool (has_option (codes "--next") (map string_bytes c.args.words.now.items))
    ≡ Some c.in-Some-program_apart.program = sym (rw c.deref-2.ensures.value at c.program_apart.ensures) ∙ c.in-Some-program_apart.is in
    rw (asked, apart, sym c.deref-in-Some-program_apart.ensures.value) c.run_apart.ensures.end
