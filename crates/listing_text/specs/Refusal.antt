-- The texts of refusals (own).
use Rattle.std.specs.Prelude.{List, ℕ, ◌++◌, codes}
use Rattle.std.specs.Fmt.{decimal}
use Rattle.listing_text.specs.declared.refusal.Refusal.{Refusal}
use Rattle.listing_text.specs.declared.refusal.Refusal.TheVariants.{Usage, NotAllowed, Timespec, NoSuchDay, OutOfRange, Past, BadTimeArg, BadZone, BadQueue, BadDirectory, BadUser, TooLong, EnvironmentTooLarge, QueueFull, NumbersUsedUp, NoSuchJob, NotYours, RunningJob, BadClock, BadCrontab, AccountsFull, TargetNotEmpty}

-- the text of a refusal; a place, a job number and a line are printed in decimal
abbrev pub refusal_text : Refusal → List ℕ
refusal_text Usage = codes "usage"
refusal_text NotAllowed = codes "not allowed"
refusal_text (Timespec place) = codes "bad time at byte " ++ decimal place
refusal_text NoSuchDay = codes "no such day"
refusal_text OutOfRange = codes "time out of range"
refusal_text Past = codes "time is past"
refusal_text BadTimeArg = codes "bad -t time"
refusal_text BadZone = codes "bad TZ"
refusal_text BadQueue = codes "bad queue"
refusal_text BadDirectory = codes "bad directory"
refusal_text BadUser = codes "bad user name"
refusal_text TooLong = codes "commands too long"
refusal_text EnvironmentTooLarge = codes "environment too large"
refusal_text QueueFull = codes "queue full"
refusal_text NumbersUsedUp = codes "job numbers used up"
refusal_text (NoSuchJob number) = codes "no such job " ++ decimal number
refusal_text (NotYours number) = codes "job " ++ decimal number ++ codes " is not yours"
refusal_text (RunningJob number) = codes "job " ++ decimal number ++ codes " is running"
refusal_text BadClock = codes "bad clock"
refusal_text (BadCrontab line) = codes "bad crontab at line " ++ decimal line
refusal_text AccountsFull = codes "accounts full"
refusal_text TargetNotEmpty = codes "target not empty"
