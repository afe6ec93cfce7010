use Rattle.std.proofs.Common.{◌++◌, List, ℕ, ap, ◌∙◌}
use Rattle.job_script.specs.Header.{before_user, after_user}
use Rattle.job_script.specs.JobText.{quoted, umask_line, variable_lines}
use Rattle.job_script.specs.Variables.{kept}
use Rattle.job_script.proofs.WordLemmas.{put_together}
use Rattle.job_script.proofs.writer.script_text.Goals as goal

pub returns : goal.returns
returns c =
    put_together c.args.context.now.user (after_user c.args.mail) (umask_line c.args.context.now.umask)
    (variable_lines (kept c.args.context.now.environment)) (quoted c.args.context.now.directory) c.args.commands.now
    c.extend_from_slice.new.self.items c.extend_from_slice-2.new.self.items c.put_umask.new.text.items
    c.put_variables.new.text.items c.extend_from_slice-3.new.self.items c.put_quoted.new.text.items
    c.extend_from_slice-4.new.self.items c.extend_from_slice-5.new.self.items
    (c.in_ok-extend_from_slice.ensures.items ∙ ap (λ (it : List ℕ). it ++ c.as_bytes.result.now) c.in_ok-text.ensures.items
    ∙ ap (λ (it : List ℕ). before_user ++ it) (c.as_bytes.ensures.value ∙ c.as_str.ensures))
    (c.in_ok-extend_from_slice-2.ensures.items
    ∙ ap (λ (it : List ℕ). c.extend_from_slice.new.self.items ++ it) c.text_of_flag.ensures)
    c.in_ok-put_umask.ensures
    (c.in_ok-put_variables.ensures
    ∙ ap (λ (it : List (List ℕ × List ℕ)). c.put_umask.new.text.items ++ variable_lines (kept it)) c.as_slice.ensures)
    c.in_ok-extend_from_slice-3.ensures.items
    (c.in_ok-put_quoted.ensures
    ∙ ap (λ (it : List ℕ). c.extend_from_slice-3.new.self.items ++ quoted it) (c.as_bytes-2.ensures.value ∙ c.as_str-2.ensures))
    c.in_ok-extend_from_slice-4.ensures.items c.in_ok-extend_from_slice-5.ensures.items
