-- What a job text means, by the words of the shell (POSIX.1-2017, XCU 2.2.1 and 2.2.2).
use Rattle.std.specs.Prelude.{◌≡◌, ◌≢◌, ◌<◌, ◌≤◌, ◌==◌, ℕ, Bool, not, List, [], ◌∷◌, ◌++◌, length, IsTrue}
use Rattle.std.specs.List.{flat_map, list_all}
use Rattle.spool_model.specs.Users.{IsUserName}
use Rattle.job_script.specs.Header.{header_text}
use Rattle.job_script.specs.JobText.{directory_lines, umask_line, variable_line}
use Rattle.job_script.specs.Variables.{may_be_set}

-- a piece of a word: bytes between single quotes, or one byte after a backslash
pub data Piece : Type 0 where
  between_quotes : List ℕ → Piece
  after_backslash : ℕ → Piece

-- the bytes have no single quote
abbrev pub has_no_quote : List ℕ → Bool
has_no_quote bytes = list_all (λ byte. not (byte == 39)) bytes

-- the shell reads the piece so: there is no single quote between quotes, and a newline after a
-- backslash would join two lines
abbrev pub IsPiece : Piece → Type 0
IsPiece (between_quotes bytes) = IsTrue (has_no_quote bytes)
IsPiece (after_backslash byte) = byte ≢ 10

-- the shell reads each of the pieces so
abbrev pub ArePieces : List Piece → Type 0
ArePieces [] = Unit {0}
ArePieces (first ∷ others) = IsPiece first × ArePieces others

-- how a piece is spelled
abbrev pub spelling : Piece → List ℕ
spelling (between_quotes bytes) = 39 ∷ (bytes ++ 39 ∷ [])
spelling (after_backslash byte) = 92 ∷ byte ∷ []

-- what a piece stands for
abbrev pub holds_for : Piece → List ℕ
holds_for (between_quotes bytes) = bytes
holds_for (after_backslash byte) = byte ∷ []

-- the shell reads the text as one word with this value: a word has at least one piece
pub record IsShellWord (text value : List ℕ) : Type 0 where
  pub pieces : List Piece
  pub some : 1 ≤ length pieces
  pub each : ArePieces pieces
  pub spelled : text ≡ flat_map spelling pieces
  pub meant : value ≡ flat_map holds_for pieces

-- the text is a line for each variable in turn, which sets and exports it
abbrev pub SetsVariables : List ℕ → List (List ℕ × List ℕ) → Type 0
SetsVariables text [] = text ≡ []
SetsVariables text (variable ∷ others) =
    IsTrue (may_be_set variable.0) × (word : List ℕ) × IsShellWord word variable.1
    × (rest : List ℕ) × (text ≡ variable_line variable.0 word ++ rest) × SetsVariables rest others

-- what a job does: for a user and with a flag of mail it sets a umask and variables, changes to a
-- directory, and runs commands
pub record Means (text user : List ℕ) (mail : Bool) (umask : ℕ)
    (variables : List (List ℕ × List ℕ)) (directory commands : List ℕ) : Type 0 where
  pub name : IsUserName user
  pub octal : umask < 512
  pub lines : List ℕ
  pub sets : SetsVariables lines variables
  pub word : List ℕ
  pub goes_to : IsShellWord word directory
  pub all : text ≡ header_text user mail ++ (umask_line umask ++ (lines ++ (directory_lines word ++ commands)))
