-- The lists of users, as they were read (own).
use Rattle.host_calls.specs.Directory.{Files}
use Rattle.command_rules.specs.Sessions.{AreListsIn}
use Rattle.spool_session.specs.declared.lists.Lists.{Lists}

-- the texts are those of the files
abbrev pub AreIn : Files → Lists → Type 0
AreIn files lists = AreListsIn files lists.allow lists.deny
