use Rattle.std.proofs.Common.{◌≡◌, ◌++◌, drop}
use Rattle.tool_output.specs.PutLines.{joined_lines}
use Rattle.at_account.specs.TotalLines.{line_text}
use Rattle.at_account.proofs.lines.add_lines.Given as goal

abbrev pub invariant-loop-line : goal.invariant-loop-line
invariant-loop-line l = l.text.items ++ joined_lines line_text (drop l.line-index l.lines)
    ≡ l.fn.text.items ++ joined_lines line_text l.lines
