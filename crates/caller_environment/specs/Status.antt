-- The user number in the status of a process: its line `Uid:` has four numbers after tabs, the real one, the effective one,
-- the saved one and that of the file system (proc_pid_status(5) of Linux).
use Rattle.std.specs.Prelude.{◌==◌, ℕ, Bool, nat_eq, List, Option, codes, find, option_and_then}
use Rattle.std.specs.List.{slice_split, starts_with}
use Rattle.caller_environment.specs.Fields.{field, user_number}

-- the line begins as that of user numbers
abbrev pub is_uid_line : List ℕ → Bool
is_uid_line line = starts_with nat_eq line (codes "Uid:\t")

-- the first line of user numbers
abbrev pub uid_line : List ℕ → Option (List ℕ)
uid_line status = find is_uid_line (slice_split (λ byte. byte == 10) status)

-- the effective user number
abbrev pub user_number_in : List ℕ → Option ℕ
user_number_in status = option_and_then (λ line. option_and_then user_number (field 9 2 line)) (uid_line status)
