-- The header of a job text: its first two lines, which say whose the job is and whether its output
-- is mailed in any case (the second line as in Debian's at; own).
use Rattle.std.specs.Prelude.{◌≡◌, ◌<◌, ◌≤◌, ℕ, Bool, List, ◌++◌, length, take, codes, if◌then◌else◌}
use Rattle.spool_model.specs.Users.{IsUserName}
use Rattle.job_script.specs.declared.headers.JobHeader.{JobHeader}

-- what is before the user
abbrev pub before_user : List ℕ
before_user = codes "#!/bin/sh\n# at user="

-- what is after the user: the flag of mail, and the end of the line
abbrev pub after_user : Bool → List ℕ
after_user mail = if mail then codes " mail=1\n" else codes " mail=0\n"

-- the header of a job
abbrev pub header_text : List ℕ → Bool → List ℕ
header_text user mail = before_user ++ (user ++ after_user mail)

-- the bytes begin with the header of this user and flag
pub record BeginsWithHeader (bytes user : List ℕ) (mail : Bool) : Type 0 where
  pub name : IsUserName user
  pub rest : List ℕ
  pub text : bytes ≡ header_text user mail ++ rest

-- the bytes begin with this header
abbrev pub IsHeaderOf : List ℕ → JobHeader → Type 0
IsHeaderOf bytes found = BeginsWithHeader bytes found.user found.mail

-- the header is this user's, with this flag
abbrev pub HeaderSays : List ℕ → Bool → JobHeader → Type 0
HeaderSays user mail found = (found.user ≡ user) × (found.mail ≡ mail)

-- the bytes begin with some header
pub record HasHeader (bytes : List ℕ) : Type 0 where
  pub user : List ℕ
  pub mail : Bool
  pub header : BeginsWithHeader bytes user mail

-- some header begins with the bytes
pub record IsHeaderPrefix (prefix : List ℕ) : Type 0 where
  pub user : List ℕ
  pub mail : Bool
  pub name : IsUserName user
  pub rest : List ℕ
  pub text : header_text user mail ≡ prefix ++ rest

-- the bytes begin with no header, and at this place they leave the last header that they began like
pub record IsHeaderFault (bytes : List ℕ) (place : ℕ) : Type 0 where
  pub none : ¬ HasHeader bytes
  pub within : place ≤ length bytes
  pub prefix : IsHeaderPrefix (take place bytes)
  pub longest : (more : ℕ) → place < more → more ≤ length bytes → ¬ IsHeaderPrefix (take more bytes)
