-- The names of the files of mail (own).
use Rattle.std.specs.Prelude.{◌≡◌, ◌==◌, ◌&&◌, ◌⊎◌, ◌++◌, ℕ, List, Option, None, codes, drop, length, take, if◌then◌else◌}
use Rattle.std.specs.Str.{bytes_eq}
use Rattle.text_reader.specs.HexDigits.{digits_of}
use Rattle.text_reader.specs.HexValues.{number_in}

-- the file of the notes
abbrev pub mail_file : List ℕ
mail_file = codes ".MAIL"

-- the name under which a file of mail is made
abbrev pub mail_temp : List ℕ
mail_temp = codes ".MTMP"

-- the file of a notice, by the number of its job
abbrev pub notice_file : ℕ → List ℕ
notice_file number = codes "mail." ++ digits_of number

-- the number of the job whose notice has this name, if it is the name of one
abbrev pub notice_number : List ℕ → Option ℕ
notice_number name =
    if (length name == 13) && bytes_eq (take 5 name) (codes "mail.") then number_in (drop 5 name) else None

-- a name under which mail keeps something
abbrev pub IsMailName : List ℕ → Type 0
IsMailName name = (name ≡ mail_file) ⊎ ((name ≡ mail_temp) ⊎ ((number : ℕ) × (name ≡ notice_file number)))
