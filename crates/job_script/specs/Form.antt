-- The form of a job text, in which each meaning has one text (the form as in Debian's at, own).
use Rattle.std.specs.Prelude.{◌≡◌, ◌<◌, ℕ, Bool, List, IsTrue}
use Rattle.std.specs.List.{list_all}
use Rattle.spool_model.specs.Users.{IsUserName}
use Rattle.job_script.specs.Check.{IsAbsolutePath}
use Rattle.job_script.specs.JobText.{job_text}
use Rattle.job_script.specs.Meaning.{Means}
use Rattle.job_script.specs.Variables.{is_kept_variable, kept}
use Rattle.job_script.specs.declared.context.Context.{Context}

-- the six things that a job text means
pub record JobMeaning : Type 0 where
  pub user : List ℕ
  pub mail : Bool
  pub umask : ℕ
  pub variables : List (List ℕ × List ℕ)
  pub directory : List ℕ
  pub commands : List ℕ

-- the text means them
abbrev pub MeansJob : List ℕ → JobMeaning → Type 0
MeansJob text job = Means text job.user job.mail job.umask job.variables job.directory job.commands

-- what a context says, with the variables that a job keeps
abbrev pub meaning_for : Context → Bool → List ℕ → JobMeaning
meaning_for context mail commands = record {
  user = context.user;
  mail = mail;
  umask = context.umask;
  variables = kept context.environment;
  directory = context.directory;
  commands = commands;
}

-- the text of a job that is to mean this
abbrev pub text_of_job : JobMeaning → List ℕ
text_of_job job = job_text job.user job.mail job.umask job.variables job.directory job.commands

-- a job can mean this: a user, three octal digits, variables that a job keeps, and an absolute path
pub record IsJobMeaning (job : JobMeaning) : Type 0 where
  pub name : IsUserName job.user
  pub octal : job.umask < 512
  pub keeps : IsTrue (list_all is_kept_variable job.variables)
  pub path : IsAbsolutePath job.directory

-- the bytes are the text of a job
pub record IsJobText (bytes : List ℕ) : Type 0 where
  pub job : JobMeaning
  pub meant : IsJobMeaning job
  pub text : bytes ≡ text_of_job job
