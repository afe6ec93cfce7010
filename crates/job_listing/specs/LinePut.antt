-- Another line after a text (own).
use Rattle.std.specs.Prelude.{◌≡◌, ◌++◌, ℕ, List}

-- a line that shows what it is to show was put after the old text
pub record IsLinePut (IsShown : List ℕ → Type 0) (old new : List ℕ) : Type 0 where
  pub line : List ℕ
  pub shown : IsShown line
  pub put : new ≡ old ++ line
