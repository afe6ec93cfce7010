-- What the search for the longest keyword keeps from row to row of its table.
use Rattle.std.specs.Prelude.{◌≡◌, ℕ, ◌+◌, List, [], ◌∷◌, ◌++◌, length, map, Option, Some, None}
use Rattle.std.specs.Borrow.{Bor}
use Rattle.timespec_lexer.specs.Tokens.{HasNoWord, IsLongest, WordTable}
use Rattle.timespec_lexer.specs.declared.found.Found.{Found}
use Rattle.timespec_lexer.specs.declared.token.Token.{Token}

-- the rows of a table as the code keeps them
abbrev pub words_of : List (Bor (List ℕ) × Token) → WordTable
words_of rows = map (λ row. (row.0.now, row.1)) rows

-- the word of the table that is found at a place is its longest there, and none where it has none
abbrev pub IsLongestMatch : List ℕ → ℕ → WordTable → Option Found → Type 0
IsLongestMatch text place table None = HasNoWord text place table
IsLongestMatch text place table (Some found) =
    (word : List ℕ) × IsLongest text place table word found.token × (found.end ≡ place + length word)

-- what is found with one more row, whatever the rows before it are
abbrev pub AddsRow : List ℕ → ℕ → Option Found → List ℕ × Token → Option Found → Type 0
AddsRow text place old row new =
    (table : WordTable) → IsLongestMatch text place table old → IsLongestMatch text place (table ++ row ∷ []) new
