-- How a job is started (own; the words are those of `sh`, `nice` and `env`, IEEE Std 1003.1-2017, XCU 4).
use Rattle.std.specs.Prelude.{◌≡◌, [], ◌∷◌, ◌++◌, ℕ, List, false, None, codes}
use Rattle.std.specs.Fmt.{decimal}
use Rattle.std.specs.Process.{command_program, command_args, command_var, command_dir, clears_env}
use Rattle.std.specs.declared.process.Command.{Command}

-- the test of the output's file: where it can't be made, that is said and the output goes nowhere
abbrev pub output_test : List ℕ
output_test = codes "{ command : >\"$3\"; } 2>/dev/null || "
    ++ codes "{ printf '%s: no output file %s\\n' \"$0\" \"$3\" >&2; set -- \"$1\" \"$2\" /dev/null; }; "

-- the line of the shell: its first word is the niceness, its second the script, its third where the output goes
abbrev pub job_line : List ℕ
job_line = output_test ++ codes "exec nice -n \"$1\" env -i /bin/sh \"$2\" >\"$3\" 2>&1 </dev/null"

-- the words after the shell's name: its line, the name by which it calls itself, and the three words
abbrev pub job_words : ℕ → List ℕ → List ℕ → List (List ℕ)
job_words nice script output =
    codes "-c" ∷ job_line ∷ codes "atjob" ∷ decimal nice ∷ script ∷ output ∷ []

-- the command runs this line in this directory and environment, which the line clears
pub record IsJobCommand {A : Type 0} (nice : ℕ) (script output : List ℕ) (command : Command A) : Type 0 where
  pub program : command_program command ≡ codes "/bin/sh"
  pub words : command_args command ≡ job_words nice script output
  pub inherits : clears_env command ≡ false
  pub sets : (name : List ℕ) → command_var command name ≡ None
  pub directory : command_dir command ≡ None
