-- The header of a job text, read from the start of the bytes: functions that compute what the
-- relations of Header say (own).
use Rattle.std.specs.Prelude.{ℕ, suc, ◌+◌, ◌==◌, ◌&&◌, max, Bool, true, false, not, List, [], ◌∷◌, Option, Some, None, length, slice_index, take, drop, if◌then◌else◌}
use Rattle.std.specs.List.{take_while}
use Rattle.spool_model.specs.Users.{is_user_byte}
use Rattle.spool_model.specs.declared.user_name.TheConstants.{MAX_USER_NAME}
use Rattle.job_script.specs.Header.{before_user, after_user}

-- how many of their first bytes a text and the bytes have alike
unfoldable pub alike : List ℕ → List ℕ → ℕ
alike [] bytes = 0
alike (x ∷ text) [] = 0
alike (x ∷ text) (y ∷ bytes) = if x == y then suc (alike text bytes) else 0

-- the longest prefix of the bytes that may be in a user's name, as long as one at most; none before a dash
unfoldable pub name_prefix : List ℕ → List ℕ
name_prefix bytes = if slice_index bytes 0 == 45 then [] else take_while is_user_byte (take MAX_USER_NAME bytes)

-- what is where a header has its user
unfoldable pub user_in : List ℕ → List ℕ
user_in bytes = name_prefix (drop (length before_user) bytes)

-- how many bytes of this flag of mail, with the end of its line, come after that user
unfoldable pub flag_alike : List ℕ → Bool → ℕ
flag_alike bytes mail = alike (after_user mail) (drop (length (user_in bytes)) (drop (length before_user) bytes))

-- the bytes begin as a header does, with at least one byte of a user
unfoldable pub has_user : List ℕ → Bool
has_user bytes = alike before_user bytes == length before_user && not (length (user_in bytes) == 0)

-- this flag of mail comes whole after that user
abbrev pub has_flag : List ℕ → Bool → Bool
has_flag bytes mail = flag_alike bytes mail == length (after_user mail)

-- the user and the flag of the header that the bytes begin with, if they begin with one
unfoldable pub header_in : List ℕ → Option (List ℕ × Bool)
header_in bytes =
    if has_user bytes && has_flag bytes false then Some (user_in bytes, false)
    else (if has_user bytes && has_flag bytes true then Some (user_in bytes, true) else None)

-- how many of the first bytes some header has too, where the bytes begin with none
unfoldable pub header_place : List ℕ → ℕ
header_place bytes =
    if has_user bytes
    then length before_user + length (user_in bytes) + max (flag_alike bytes false) (flag_alike bytes true)
    else alike before_user bytes
