-- The commands of an entry's job (POSIX.1-2017, XCU crontab, Input Files: a percent sign in the command stands for a
-- newline unless a backslash comes before it, the shell runs the first line, and the others are its standard input).
-- That a backslash counts before a percent sign alone, and how the lines are started, is this project's own.
use Rattle.std.specs.Prelude.{ℕ, ◌==◌, ◌&&◌, List, [], ◌∷◌, ◌++◌, codes, if◌then◌else◌}
use Rattle.std.specs.List.{flat_map, onto_first}
use Rattle.job_script.specs.JobText.{quoted}
use Rattle.cron_minutes.specs.declared.pieces.Piece.{Piece}
use Rattle.cron_minutes.specs.declared.pieces.Piece.TheVariants.{Byte, Cut}

-- a percent sign is a cut, each other byte is itself
abbrev pub piece_of : ℕ → Piece
piece_of byte = if byte == 37 then Cut else Byte byte

-- the pieces of a command: a backslash and a percent sign are the byte of the percent sign
unfoldable pub pieces : List ℕ → List Piece
pieces [] = []
pieces (first ∷ []) = piece_of first ∷ []
pieces (first ∷ second ∷ rest) =
    if first == 92 && second == 37 then Byte 37 ∷ pieces rest else piece_of first ∷ pieces (second ∷ rest)

-- the bytes between the cuts, or the ends of the command
unfoldable pub parts : List Piece → List (List ℕ)
parts [] = [] ∷ []
parts (Byte byte ∷ pieces) = onto_first byte (parts pieces)
parts (Cut ∷ pieces) = [] ∷ parts pieces

-- a part and a newline
abbrev pub with_newline : List ℕ → List ℕ
with_newline part = part ++ 10 ∷ []

-- the commands that run the part with the others on standard input, a newline after each
abbrev pub piped : List ℕ → List (List ℕ) → List ℕ
piped first others =
    codes "printf %s " ++ (quoted (flat_map with_newline others) ++ (codes " | {\n" ++ (first ++ codes "\n}\n")))

-- the commands of these parts: the first alone, or with the others on standard input
abbrev pub commands_of_parts : List (List ℕ) → List ℕ
commands_of_parts [] = []
commands_of_parts (first ∷ []) = with_newline first
commands_of_parts (first ∷ second ∷ others) = piped first (second ∷ others)

-- the commands of a command
abbrev pub commands : List ℕ → List ℕ
commands command = commands_of_parts (parts (pieces command))
