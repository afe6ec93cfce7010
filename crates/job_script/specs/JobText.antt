-- The text of a job (POSIX.1-2017, XCU, at: a job runs in the environment of its caller, in its
-- caller's directory and with its umask; the form of the text as in Debian's at, own).
use Rattle.std.specs.Prelude.{ℕ, ◌+◌, ◌/◌, ◌%◌, ◌==◌, Bool, List, [], ◌∷◌, ◌++◌, codes, if◌then◌else◌}
use Rattle.std.specs.List.{flat_map}
use Rattle.job_script.specs.Header.{header_text}
use Rattle.job_script.specs.Variables.{kept}
use Rattle.job_script.specs.declared.context.Context.{Context}
use Rattle.spool_model.specs.declared.job.Job.{Job}

-- a byte between single quotes: a single quote ends them, comes after a backslash, and opens them again
abbrev pub quoted_part : ℕ → List ℕ
quoted_part byte = if byte == 39 then codes "'\\''" else byte ∷ []

-- a value between single quotes
abbrev pub quoted : List ℕ → List ℕ
quoted value = 39 ∷ (flat_map quoted_part value ++ 39 ∷ [])

-- the line that sets the umask, in four octal digits
abbrev pub umask_line : ℕ → List ℕ
umask_line umask =
    codes "umask 0" ++ (48 + umask / 64 % 8) ∷ (48 + umask / 8 % 8) ∷ (48 + umask % 8) ∷ 10 ∷ []

-- the line that sets and exports a variable, with this word as its value
abbrev pub variable_line : List ℕ → List ℕ → List ℕ
variable_line name word = name ++ (61 ∷ (word ++ (codes "; export " ++ (name ++ 10 ∷ []))))

-- the lines of variables
abbrev pub variable_lines : List (List ℕ × List ℕ) → List ℕ
variable_lines variables = flat_map (λ variable. variable_line variable.0 (quoted variable.1)) variables

-- what is after the directory: the job ends where it can't change to it
abbrev pub after_directory : List ℕ
after_directory = codes " || {\n\techo 'Execution directory inaccessible' >&2\n\texit 1\n}\n"

-- the lines that change to the directory, with this word for it
abbrev pub directory_lines : List ℕ → List ℕ
directory_lines word = codes "cd " ++ (word ++ after_directory)

-- the text of a job
abbrev pub job_text : List ℕ → Bool → ℕ → List (List ℕ × List ℕ) → List ℕ → List ℕ → List ℕ
job_text user mail umask variables directory commands =
    header_text user mail ++ (umask_line umask ++ (variable_lines variables
    ++ (directory_lines (quoted directory) ++ commands)))

-- the text of a job that takes over a context
abbrev pub text_for : Context → Bool → List ℕ → List ℕ
text_for context mail commands =
    job_text context.user mail context.umask (kept context.environment) context.directory commands

-- the job of who submits: the user, the minute, and a text that does the commands as the user would
abbrev pub job_for : Context → ℕ → Bool → ℕ → List ℕ → Job
job_for context queue mail minute commands =
    record { queue = queue; minute = minute; user = context.user; script = text_for context mail commands }
