-- The checks of a command, and their order (own).
use Rattle.std.specs.Prelude.{◌≡◌, ℕ, Bool, false, Option, Some, None, nat_lt}
use Rattle.listing_text.specs.declared.refusal.Refusal.{Refusal}
use Rattle.listing_text.specs.declared.refusal.Refusal.TheVariants.{Usage, NotAllowed, Timespec, NoSuchDay, OutOfRange, Past, BadTimeArg, BadZone, BadQueue, BadDirectory, BadUser, TooLong, EnvironmentTooLarge, QueueFull, NumbersUsedUp, NoSuchJob, NotYours, RunningJob, BadClock, BadCrontab, AccountsFull, TargetNotEmpty}

-- What a command checks or does, one after the other: the first that fails decides its answer.
pub data Check : Type 0 where
  of_words : Check
  of_user : Check
  of_directory : Check
  of_variables : Check
  of_clock : Check
  of_zone : Check
  of_spelling : Check
  of_date : Check
  of_input : Check
  of_length : Check
  of_lock : Check
  of_lists : Check
  of_access : Check
  of_spool : Check
  of_room : Check
  of_number : Check
  of_jobs : Check
  of_steps : Check
  of_output : Check

-- the place of a check in the order
abbrev pub place_of_check : Check → ℕ
place_of_check of_words = 1
place_of_check of_user = 2
place_of_check of_directory = 3
place_of_check of_variables = 4
place_of_check of_clock = 5
place_of_check of_zone = 6
place_of_check of_spelling = 7
place_of_check of_date = 8
place_of_check of_input = 9
place_of_check of_length = 10
place_of_check of_lock = 11
place_of_check of_lists = 12
place_of_check of_access = 13
place_of_check of_spool = 14
place_of_check of_room = 15
place_of_check of_number = 16
place_of_check of_jobs = 17
place_of_check of_steps = 18
place_of_check of_output = 19

-- the check comes before the other
abbrev pub is_earlier_check : Check → Check → Bool
is_earlier_check check other = nat_lt (place_of_check check) (place_of_check other)

-- the check that a refusal comes of
abbrev pub check_of : Refusal → Check
check_of Usage = of_words
check_of BadQueue = of_words
check_of BadUser = of_user
check_of BadDirectory = of_directory
check_of EnvironmentTooLarge = of_variables
check_of BadClock = of_clock
check_of BadZone = of_zone
check_of (Timespec place) = of_spelling
check_of BadTimeArg = of_spelling
check_of NoSuchDay = of_date
check_of OutOfRange = of_date
check_of Past = of_date
check_of TooLong = of_length
check_of (BadCrontab line) = of_length
check_of NotAllowed = of_access
check_of QueueFull = of_room
check_of AccountsFull = of_room
check_of TargetNotEmpty = of_room
check_of NumbersUsedUp = of_number
check_of (NoSuchJob number) = of_jobs
check_of (NotYours number) = of_jobs
check_of (RunningJob number) = of_jobs

-- a command that is refused comes no further than the check that refuses it
abbrev pub ComesUpTo : Option Refusal → Check → Type 0
ComesUpTo None reached = Unit {0}
ComesUpTo (Some refusal) reached = is_earlier_check (check_of refusal) reached ≡ false
