-- The lines that are shown (own).
use Rattle.std.specs.Prelude.{◌≡◌, [], ◌∷◌, ◌++◌, ℕ, Bool, true, false, List}
use Rattle.std.specs.Fmt.{decimal}
use Rattle.tool_output.specs.PutLines.{joined_lines}
use Rattle.at_account.specs.declared.record.AccountRecord.{AccountRecord}
use Rattle.at_account.specs.declared.line.AccountLine.{AccountLine}
use Rattle.at_account.specs.Totals.{AreTotals}

-- each count after a space
abbrev pub counts_text : List ℕ → List ℕ
counts_text [] = []
counts_text (count ∷ later) = 32 ∷ (decimal count ++ counts_text later)

-- a line: the user, the queue and the counts, with a space between
abbrev pub line_text : AccountLine → List ℕ
line_text line = (line.user ++ 32 ∷ line.queue ∷ []) ++ (counts_text line.counts ++ 10 ∷ [])

-- the text that is shown of the records: a line for each owner where it is requested, and else nothing
abbrev pub IsShown : Bool → List AccountRecord → List ℕ → Type 0
IsShown true records text = (lines : List AccountLine) × AreTotals records lines × (text ≡ joined_lines line_text lines)
IsShown false records text = text ≡ []
