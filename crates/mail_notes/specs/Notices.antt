-- The notice of a job's end (own): a script that hands what the job printed, after a line that says how it ended, to the
-- mail program, with the job's user as its word.
use Rattle.std.specs.Prelude.{◌++◌, [], ℕ, Bool, List, codes, if◌then◌else◌}
use Rattle.job_script.specs.JobText.{quoted}
use Rattle.mail_notes.specs.declared.note.NotedJob.{NotedJob}

-- a job that is not mailed in any case has no mail where it printed nothing
abbrev pub guard_line : Bool → List ℕ
guard_line always = if always then [] else codes "test -s \"$out\" || exit 0\n"

-- what sets the output of the job
abbrev pub out_lines : NotedJob → List ℕ
out_lines job = codes "#!/bin/sh\n# at notice\nout=\"${0%/*}.out/" ++ (job.file ++ (codes "\"\n" ++ guard_line job.always))

-- what hands the line and the output to the program
abbrev pub mail_line : List ℕ → List ℕ → List ℕ → List ℕ
mail_line program user line =
    codes "{ echo '" ++ (line ++ (codes "'; cat \"$out\"; } | " ++ (quoted program ++ (codes " " ++ (quoted user ++ codes "\n")))))

-- the notice of a job, by the mail program and the line of the job's end
abbrev pub notice_text : List ℕ → NotedJob → List ℕ → List ℕ
notice_text program job line = out_lines job ++ mail_line program job.user line
