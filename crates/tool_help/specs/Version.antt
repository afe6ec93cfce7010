-- What `--version` prints (own): the version, and what the record of the program's proof says.
use Rattle.std.specs.Prelude.{◌==◌, ◌&&◌, ◌||◌, ◌++◌, ℕ, Bool, false, List, Option, Some, None, codes, drop, find, length, min, nat_eq, nat_le, option_and_then, take, if◌then◌else◌}
use Rattle.std.specs.Char.{is_ascii_digit}
use Rattle.std.specs.List.{prefix_len, slice_split, starts_with}
use Rattle.std.specs.Str.{bytes_eq}
use Rattle.caller_environment.specs.Tools.{name_of_tool}
use Rattle.caller_environment.specs.declared.tool_name.ToolName.{ToolName}
use Rattle.tool_help.specs.declared.version.TheConstants.{SHORT_COMMIT, VERSION}

-- the line begins with the head
abbrev pub has_head : List ℕ → List ℕ → Bool
has_head head line = starts_with nat_eq line head

-- the first line of a record that begins with the head
abbrev pub headed_line : List ℕ → List ℕ → Option (List ℕ)
headed_line head proof_record = find (has_head head) (slice_split (λ byte. byte == 10) proof_record)

-- the line without its head
abbrev pub without_head : List ℕ → List ℕ → Option (List ℕ)
without_head head line = if has_head head line then Some (drop (length head) line) else None

-- what follows the head in the first line of a record that begins with it
abbrev pub value_after : List ℕ → List ℕ → Option (List ℕ)
value_after head proof_record = option_and_then (without_head head) (headed_line head proof_record)

-- a digit of a commit
abbrev pub is_commit_digit : ℕ → Bool
is_commit_digit byte = is_ascii_digit byte || nat_le 97 byte && nat_le byte 102

-- how many digits a commit begins with
abbrev pub commit_digits : List ℕ → ℕ
commit_digits commit = prefix_len is_commit_digit commit

-- the commit with its first twelve digits alone, and what follows its digits
abbrev pub short_commit : List ℕ → List ℕ
short_commit commit = take (min (commit_digits commit) SHORT_COMMIT) commit ++ drop (commit_digits commit) commit

-- that this commit was proved with this toolchain
abbrev pub proved_by : List ℕ → List ℕ → List ℕ
proved_by commit toolchain = codes "commit " ++ short_commit commit ++ codes ", proved with " ++ toolchain

-- what two lines of a record say
abbrev pub proof_by : Option (List ℕ) → Option (List ℕ) → List ℕ
proof_by (Some commit) (Some toolchain) = proved_by commit toolchain
proof_by _ _ = codes "not proved"

-- what a record says of the proof; without a record the program is not proved
abbrev pub proof_of : Option (List ℕ) → List ℕ
proof_of (Some proof_record) = proof_by (value_after (codes "commit ") proof_record) (value_after (codes "toolchain ") proof_record)
proof_of None = codes "not proved"

-- the lines of a tool's version
abbrev pub version_of : ToolName → Option (List ℕ) → List ℕ
version_of tool proof_record =
    name_of_tool tool ++ codes " (Coefhird) " ++ VERSION.now ++ codes "\n" ++ proof_of proof_record ++ codes "\n"

-- a checksum is the one that the record has
abbrev pub is_checksum : Option (List ℕ) → List ℕ → Bool
is_checksum (Some value) checksum = bytes_eq value checksum
is_checksum None checksum = false

-- the record is of the program with this checksum
abbrev pub is_record_of : List ℕ → List ℕ → Bool
is_record_of proof_record checksum = is_checksum (value_after (codes "sha256 ") proof_record) checksum
