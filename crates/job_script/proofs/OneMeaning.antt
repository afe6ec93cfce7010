-- A text of the form means what it was made of, and nothing else.
use Rattle.std.proofs.Common.{◌≡◌, ◌<◌, ℕ, Bool, true, false, List, [], ◌∷◌, IsTrue, refl, sym, ap, subst, ◌∙◌}
use Rattle.std.specs.List.{list_all}
use Rattle.job_script.specs.Check.{IsUsableContext}
use Rattle.job_script.specs.Form.{IsJobMeaning, IsJobText, JobMeaning, MeansJob, meaning_for, text_of_job}
use Rattle.job_script.specs.JobText.{quoted, variable_lines}
use Rattle.job_script.specs.Variables.{has_no_zero, is_kept_variable, kept, may_be_set}
use Rattle.job_script.specs.declared.context.Context.{Context}
use Rattle.job_script.proofs.MeaningLemmas.{SameMeaning, same_meaning}
use Rattle.job_script.proofs.RunLemmas.{both_hold, hold_both}
use Rattle.job_script.proofs.WordLemmas.{MayAllBeSet, lines_set, quoted_word}

-- two meanings of one text are one
pub one_meaning : (text : List ℕ) (one two : JobMeaning) → MeansJob text one → MeansJob text two → one ≡ two
one_meaning text one two first second =
    let s : SameMeaning one.user two.user one.mail two.mail one.umask two.umask one.variables two.variables
    one.directory two.directory one.commands two.commands =
    same_meaning text one.user two.user one.mail two.mail one.umask two.umask one.variables two.variables
    one.directory two.directory one.commands two.commands first second in
    λ i. record {
      user = s.users i;
      mail = s.mails i;
      umask = s.umasks i;
      variables = s.lines.set i;
      directory = s.lines.directory i;
      commands = s.lines.commands i;
    }

-- variables that a job keeps are all allowed
keeps_stand : (variables : List (List ℕ × List ℕ)) → IsTrue (list_all is_kept_variable variables) → MayAllBeSet variables
keeps_stand [] keeps = tt
keeps_stand (v ∷ variables) keeps =
    let each = both_hold (is_kept_variable v) (list_all is_kept_variable variables) keeps in
    ((both_hold (may_be_set v.0) (has_no_zero v.1) each.0).0, keeps_stand variables each.1)

-- the text of a job means that job
pub job_means : (job : JobMeaning) → IsJobMeaning job → MeansJob (text_of_job job) job
job_means job m = record {
  name = m.name;
  octal = m.octal;
  lines = variable_lines job.variables;
  sets = lines_set job.variables (keeps_stand job.variables m.keeps);
  word = quoted job.directory;
  goes_to = quoted_word job.directory;
  all = refl;
}

-- a text of the form means what it was made of
text_means : (text : List ℕ) (j : IsJobText text) → MeansJob text j.job
text_means text j = subst (λ (it : List ℕ). MeansJob it j.job) (sym j.text) (job_means j.job j.meant)

-- two texts of the form that mean one job are one
pub one_text : (text other : List ℕ) (job : JobMeaning) → IsJobText text → IsJobText other
    → MeansJob text job → MeansJob other job → text ≡ other
one_text text other job form same first second =
    let mine : form.job ≡ job = one_meaning text form.job job (text_means text form) first in
    let yours : same.job ≡ job = one_meaning other same.job job (text_means other same) second in
    form.text ∙ ap text_of_job (mine ∙ sym yours) ∙ sym same.text

-- one variable more before those that a job keeps
kept_keeps_by : (v : List ℕ × List ℕ) (variables : List (List ℕ × List ℕ)) (here : Bool) → is_kept_variable v ≡ here
    → IsTrue (list_all is_kept_variable (kept variables)) → IsTrue (list_all is_kept_variable (kept (v ∷ variables)))
kept_keeps_by v variables true here keeps =
    rw here (hold_both (is_kept_variable v) (list_all is_kept_variable (kept variables)) here keeps)
kept_keeps_by v variables false here keeps = rw here keeps

-- the variables that a job keeps are such
kept_keeps : (variables : List (List ℕ × List ℕ)) → IsTrue (list_all is_kept_variable (kept variables))
kept_keeps [] = refl
kept_keeps (v ∷ variables) = kept_keeps_by v variables (is_kept_variable v) refl (kept_keeps variables)

-- a job can mean what a context says that a job can take over
pub fit_meaning : (context : Context) (mail : Bool) (commands : List ℕ) → IsUsableContext context → context.umask < 512
    → IsJobMeaning (meaning_for context mail commands)
fit_meaning context mail commands fit octal = record {
  name = fit.user;
  octal = octal;
  keeps = kept_keeps context.environment;
  path = fit.directory.path;
}
