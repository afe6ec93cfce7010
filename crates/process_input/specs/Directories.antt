-- The directory that a program names first (own).
use Rattle.std.specs.Prelude.{◌==◌, [], ◌∷◌, ℕ, Bool, true, not, List, Option, Some, None, if◌then◌else◌}

-- the word names a directory: it does not begin with `-`, as options do
abbrev pub is_directory_word : List ℕ → Bool
is_directory_word [] = true
is_directory_word (byte ∷ later) = not (byte == 45)

-- the directory in the words of a program: the word after its name
abbrev pub directory_word : List (List ℕ) → Option (List ℕ)
directory_word [] = None
directory_word (name ∷ []) = None
directory_word (name ∷ word ∷ later) = if is_directory_word word then Some word else None
