-- The letter that comes last.
use Rattle.std.proofs.Common.{◌≡◌, List, [], ◌∷◌, ◌++◌, Some, refl}
use Rattle.text_tests.specs.Kinds.{last_of}
use Rattle.text_tests.specs.declared.letters.Letter.{Letter}

pub last_more : (before : List Letter) (next : Letter) → last_of (before ++ next ∷ []) ≡ Some next.byte
last_more [] next = refl
last_more (first ∷ []) next = refl
last_more (first ∷ second ∷ later) next = last_more (second ∷ later) next
