-- The events of a simulated run (own): eight kinds, one after another, a minute apart.
use Rattle.std.specs.Prelude.{◌+◌, ◌*◌, ◌/◌, ◌%◌, ◌==◌, ◌++◌, [], ◌∷◌, ℕ, ℤ, pos, zero, suc, List, Some, None, codes, if◌then◌else◌}
use Rattle.std.specs.Fmt.{decimal}
use Rattle.civil_minute.specs.declared.zone.Zone.TheVariants.{Utc}
use Rattle.tool_output.specs.declared.caller.Caller.{Caller}
use Rattle.at_day.specs.declared.event.Event.{Event}
use Rattle.at_day.specs.declared.event.Event.TheVariants.{Command, Turn, Reboot}
use Rattle.at_day.specs.declared.made.Made.{Made}
use Rattle.at_day.specs.Plans.{made_plan}

-- the user ann at home, in UTC
abbrev pub made_caller : Caller
made_caller = record {
  context = record {
    user = codes "ann";
    directory = codes "/home/ann";
    umask = 18;
    environment = (codes "HOME", codes "/home/ann") ∷ [];
  };
  zone = Utc;
}

-- the second of the event of this number
abbrev pub second_of : ℕ → ℤ
second_of number = pos (1735689600 + 60 * number)

-- the commands of a submission
abbrev pub echo_of : ℕ → List ℕ
echo_of number = codes "echo " ++ decimal number ++ codes "\n"

-- a command of the caller
abbrev pub made_command : ℕ → List (List ℕ) → List ℕ → Event
made_command number words input = Command words made_caller input (second_of number)

-- the words that remove a job: the second of three that each eight events submit
abbrev pub removal_words : ℕ → List (List ℕ)
removal_words number = codes "atrm" ∷ decimal (3 * (number / 8) + 2) ∷ []

-- each fourth time the last of the eight is a reboot, else a turn without load
abbrev pub last_of_eight : ℕ → Event
last_of_eight number =
    if number % 32 == 31 then Reboot number None else Turn (second_of number) (Some 0)

-- the event of this number
unfoldable pub made_event : ℕ → Event
made_event number =
    if number % 8 == 0 then made_command number (codes "at" ∷ codes "now" ∷ []) (echo_of number)
    else (if number % 8 == 1
    then made_command number (codes "at" ∷ codes "now" ∷ codes "+" ∷ codes "30" ∷ codes "minutes" ∷ []) (echo_of number)
    else (if number % 8 == 2 then made_command number (codes "batch" ∷ []) (echo_of number)
    else (if number % 8 == 3 then Turn (second_of number) (Some 100)
    else (if number % 8 == 4 then made_command number (codes "atq" ∷ []) []
    else (if number % 8 == 5 then Turn (second_of number) (Some (37 * number % 300))
    else (if number % 8 == 6 then made_command number (removal_words number) []
    else last_of_eight number))))))

-- so many events, by their numbers from 0 on
unfoldable pub made_events : ℕ → List Event
made_events zero = []
made_events (suc number) = made_events number ++ made_event number ∷ []

-- so many events, and the plan of their host
abbrev pub made_day : ℕ → Made
made_day count = record { events = made_events count; plan = made_plan count }
