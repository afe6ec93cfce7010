use Rattle.std.proofs.Common.{take}
use Rattle.std.specs.List.{All}
use Rattle.real_tests.specs.Kept.{AgreesWith}
use Rattle.real_tests.proofs.asked.agrees_with_all.Given as goal

-- it agrees with so many of them
abbrev pub invariant-loop-one : goal.invariant-loop-one
invariant-loop-one l = All (AgreesWith l.child l.answer) (take l.one-index l.asked)
