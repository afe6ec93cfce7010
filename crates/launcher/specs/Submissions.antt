-- Which words submit jobs, and with mail (own).
use Rattle.std.specs.Prelude.{◌≡◌, ℕ, Bool, true, false, List, Result, Ok, Err}
use Rattle.at_words.specs.Answers.{Answers}
use Rattle.at_words.specs.Requests.{request_of}
use Rattle.at_words.specs.declared.fault.WordsFault.{WordsFault}
use Rattle.at_words.specs.declared.tool_request.ToolRequest.{ToolRequest}
use Rattle.at_words.specs.declared.tool_request.ToolRequest.TheVariants as request
use Rattle.caller_environment.specs.ToolTable.{IsToolRow}
use Rattle.caller_environment.specs.declared.tool_name.ToolName.{ToolName}
use Rattle.caller_environment.specs.declared.tool_table.Submits.{Submits}
use Rattle.caller_environment.specs.declared.tool_table.Submits.TheVariants.{Never, ByWords, Always}
use Rattle.caller_environment.specs.declared.tool_table.ToolRow.{ToolRow}
use Rattle.launcher.specs.declared.submission.SubmittedWords.{SubmittedWords}

-- the request is a submission
abbrev pub is_submit : Result ToolRequest WordsFault → Bool
is_submit (Ok (request.Submit queue mail file when)) = true
is_submit (Ok (request.List filter)) = false
is_submit (Ok (request.Remove numbers)) = false
is_submit (Ok (request.Show numbers)) = false
is_submit (Ok (request.Daemon limit interval once turns)) = false
is_submit (Ok (request.Make count)) = false
is_submit (Err fault) = false

-- the request is a submission of a job for which mail is sent
abbrev pub is_mailed : Result ToolRequest WordsFault → Bool
is_mailed (Ok (request.Submit queue mail file when)) = mail
is_mailed (Ok (request.List filter)) = false
is_mailed (Ok (request.Remove numbers)) = false
is_mailed (Ok (request.Show numbers)) = false
is_mailed (Ok (request.Daemon limit interval once turns)) = false
is_mailed (Ok (request.Make count)) = false
is_mailed (Err fault) = false

-- what the request of the words submits
pub record IsAnswered (words : List (List ℕ)) (submission : SubmittedWords) : Type 0 where
  pub answer : Result ToolRequest WordsFault
  pub answers : Answers (request_of words) answer
  pub submits : submission.submits ≡ is_submit answer
  pub mails : submission.mails ≡ is_mailed answer

-- what words submit, of a tool that submits so
abbrev pub IsSubmissionBy : Submits → List (List ℕ) → SubmittedWords → Type 0
IsSubmissionBy Never words submission = submission.submits ≡ false
IsSubmissionBy ByWords words submission = IsAnswered words submission
IsSubmissionBy Always words submission = submission.submits ≡ true

-- what words of the tool submit, by its row of the table
pub record IsSubmission (tool : ToolName) (words : List (List ℕ)) (submission : SubmittedWords) : Type 0 where
  pub row : ToolRow
  pub is_row : IsToolRow tool row
  pub by : IsSubmissionBy row.submits words submission
