-- Whose a crontab is (own): a file that another user owns, or that others may write, is not taken.
use Rattle.std.specs.Prelude.{◌≡◌, ◌==◌, ◌||◌, ℕ, Bool, true, false, not, List, Option, Some, None, codes, bit_and}
use Rattle.caller_rules.specs.OptionValues.{last_value}
use Rattle.caller_rules.specs.declared.user.CallingUser.{CallingUser}
use Rattle.system_calls.specs.Calls.{AddsCall, status_call}
use Rattle.system_calls.specs.SystemCall.{SystemCall}
use Rattle.system_calls.specs.declared.call.FileStatus.{FileStatus}

-- the user or root owns it; where the system reports no user number, anybody
abbrev pub is_owned : Option ℕ → FileStatus → Bool
is_owned (Some user) status = status.owner == 0 || status.owner == user
is_owned None status = true

-- another one owns it, or others may write it
abbrev pub is_unsafe : Option ℕ → FileStatus → Bool
is_unsafe user status = not (is_owned user status) || not (bit_and status.mode 18 == 0)

abbrev pub is_unsafe_if_there : Option ℕ → Option FileStatus → Bool
is_unsafe_if_there user (Some status) = is_unsafe user status
is_unsafe_if_there user None = false

-- the path that the words name
abbrev pub named_crontab : List (List ℕ) → Option (List ℕ)
named_crontab words = last_value (codes "-f") (codes "-f") words

-- the crontab of this path is not taken, by its status
abbrev pub IsJudgedBy : Option (List ℕ) → Option ℕ → List SystemCall → List SystemCall → Bool → Type 0
IsJudgedBy (Some path) user old new unsafe =
    (status : Option FileStatus) × AddsCall (status_call path status) old new × (unsafe ≡ is_unsafe_if_there user status)
IsJudgedBy None user old new unsafe = (new ≡ old) × (unsafe ≡ false)

-- the crontab that the words name is not taken
abbrev pub IsCrontabJudged : List (List ℕ) → CallingUser → List SystemCall → List SystemCall → Bool → Type 0
IsCrontabJudged words user old new unsafe = IsJudgedBy (named_crontab words) user.number old new unsafe
