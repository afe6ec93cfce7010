-- Blanks, as the POSIX locale has them: a space and a tab (XBD 7.3.1, the class blank).
use Rattle.std.specs.Prelude.{ℕ, Bool, ◌||◌, ◌==◌, List, [], ◌∷◌, reverse, if◌then◌else◌}

-- a space or a tab
abbrev pub is_blank : ℕ → Bool
is_blank byte = byte == 32 || byte == 9

-- the bytes from the first on that is no blank
abbrev pub after_blanks : List ℕ → List ℕ
after_blanks [] = []
after_blanks (byte ∷ rest) = if is_blank byte then after_blanks rest else byte ∷ rest

-- the bytes without the blanks at their end
abbrev pub before_blanks : List ℕ → List ℕ
before_blanks bytes = reverse (after_blanks (reverse bytes))
