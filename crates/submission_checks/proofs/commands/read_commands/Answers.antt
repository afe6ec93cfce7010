use Rattle.submission_checks.proofs.commands.read_commands.Goals as goal

pub returns-in_ok-file-in-Some-clause-read : goal.returns-in_ok-file-in-Some-clause-read
returns-in_ok-file-in-Some-clause-read g c = λ tells. rw c.in-Some.is (c.in_ok-file-in-Some.ensures.prefix tells)

pub returns-in_ok-standard-in-None-clause-read : goal.returns-in_ok-standard-in-None-clause-read
returns-in_ok-standard-in-None-clause-read g c = λ tells. rw c.in-None.is (c.in_ok-standard-in-None.ensures.prefix tells)
