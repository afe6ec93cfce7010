-- What the code finds where it reads a job text, one prefix of the bytes after another (own).
use Rattle.std.specs.Prelude.{◌≡◌, ◌≢◌, ◌<◌, ◌≤◌, ℕ, false, List, ◌∷◌, ◌++◌, length, slice_index, IsTrue}
use Rattle.std.specs.List.{list_all}
use Rattle.job_script.specs.Check.{IsAbsolutePath}
use Rattle.job_script.specs.JobText.{directory_lines, quoted, quoted_part, umask_line, variable_line, variable_lines}
use Rattle.job_script.specs.Variables.{has_no_zero, is_kept_variable, is_no_zero, is_variable_byte}

-- the bytes begin with a line that sets a umask, and go on so
pub record IsUmaskPrefix (bytes rest : List ℕ) : Type 0 where
  pub umask : ℕ
  pub octal : umask < 512
  pub text : bytes ≡ umask_line umask ++ rest

-- the bytes begin with one byte of a value, as it is written between single quotes, and go on so
pub record IsPartPrefix (bytes rest : List ℕ) : Type 0 where
  pub byte : ℕ
  pub no_zero : IsTrue (is_no_zero byte)
  pub text : bytes ≡ quoted_part byte ++ rest

-- the bytes begin with a value between single quotes, which ends there, and go on so
pub record IsQuotedPrefix (bytes rest : List ℕ) : Type 0 where
  pub value : List ℕ
  pub no_zero : IsTrue (has_no_zero value)
  pub text : bytes ≡ quoted value ++ rest
  pub ends : (more : List ℕ) → rest ≢ 92 ∷ 39 ∷ 39 ∷ more

-- the bytes begin with the line of a variable that a job keeps, and go on so
pub record IsLinePrefix (bytes rest : List ℕ) : Type 0 where
  pub variable : List ℕ × List ℕ
  pub keeps : IsTrue (is_kept_variable variable)
  pub text : bytes ≡ variable_line variable.0 (quoted variable.1) ++ rest

-- so many of the first bytes may be in a variable's name, and no more
pub record IsNameRun (bytes : List ℕ) (count : ℕ) : Type 0 where
  pub within : count ≤ length bytes
  pub each : (k : ℕ) → k < count → IsTrue (is_variable_byte (slice_index bytes k))
  pub stops : count < length bytes → is_variable_byte (slice_index bytes count) ≡ false

-- the bytes are the lines that change the directory, and commands
pub record HasDirectory (bytes : List ℕ) : Type 0 where
  pub directory : List ℕ
  pub path : IsAbsolutePath directory
  pub commands : List ℕ
  pub text : bytes ≡ directory_lines (quoted directory) ++ commands

-- the bytes are lines of variables that a job keeps, and then such a text
pub record HasLines (bytes : List ℕ) : Type 0 where
  pub variables : List (List ℕ × List ℕ)
  pub keeps : IsTrue (list_all is_kept_variable variables)
  pub rest : List ℕ
  pub change : HasDirectory rest
  pub text : bytes ≡ variable_lines variables ++ rest
