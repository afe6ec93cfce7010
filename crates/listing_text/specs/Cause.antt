-- How a command ended: its exit status, and the line that says why (own).
use Rattle.std.specs.Prelude.{List, ℕ, Bool, true, false, [], ◌++◌, codes, if◌then◌else◌}
use Rattle.std.specs.Fmt.{decimal}
use Rattle.host_calls.specs.declared.damage.Damage.{Damage}
use Rattle.listing_text.specs.declared.cause.Cause.{Cause}
use Rattle.listing_text.specs.declared.cause.Cause.TheVariants.{Done, Refused, FileFault, InputFault, OutputFault, Busy, Memory, Damaged, StillRunning, Faulty}
use Rattle.listing_text.specs.declared.status.Status.{Status}
use Rattle.listing_text.specs.Refusal.{refusal_text}

-- everything was done
abbrev pub is_done_cause : Cause → Bool
is_done_cause Done = true
is_done_cause _ = false

-- memory ran out
abbrev pub is_memory : Cause → Bool
is_memory Memory = true
is_memory _ = false

-- the exit status of a cause
abbrev pub code_of : Cause → ℕ
code_of Done = 0
code_of (Refused _) = 1
code_of FileFault = 2
code_of InputFault = 3
code_of OutputFault = 4
code_of Busy = 5
code_of Memory = 6
code_of (Damaged _) = 7
code_of StillRunning = 8
code_of Faulty = 9

-- the status of a cause
abbrev pub status_of : Cause → Status
status_of cause = record { code = code_of cause; cause = cause }

-- the file that is damaged, and at which byte
abbrev pub damage_text : Damage → List ℕ
damage_text damage = damage.name ++ codes " damaged at " ++ decimal damage.offset

-- the line of a file that is damaged
abbrev pub fault_line_of : Damage → List ℕ
fault_line_of damage = damage_text damage ++ codes "\n"

-- the text of a cause; what was done has none
abbrev pub cause_text : Cause → List ℕ
cause_text Done = []
cause_text (Refused refusal) = refusal_text refusal
cause_text FileFault = codes "spool fault"
cause_text InputFault = codes "input fault"
cause_text OutputFault = codes "output fault"
cause_text Busy = codes "spool busy"
cause_text Memory = codes "out of memory"
cause_text (Damaged damage) = damage_text damage
cause_text StillRunning = codes "jobs still running"
cause_text Faulty = codes "spool has faults"

-- the line of a cause: the tool and the text; nothing for what was done
abbrev pub cause_line_of : List ℕ → Cause → List ℕ
cause_line_of tool cause =
    if is_done_cause cause then [] else tool ++ codes ": " ++ cause_text cause ++ codes "\n"
