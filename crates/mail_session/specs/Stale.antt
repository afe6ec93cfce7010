-- Files of mail that are left over (own): one that was being made, and notices that belong to no child.
use Rattle.std.specs.Prelude.{◌≢◌, ◌||◌, ℕ, Bool, false, List, Option, None, Some, Contains, IsSome, filter, nat_eq, not}
use Rattle.std.specs.FinMap as map
use Rattle.std.specs.Cmp.Lexicographic.{pointwise}
use Rattle.host_calls.specs.Directory.{Files}
use Rattle.whole_file.specs.Removal.{AreFiles}
use Rattle.daemon_turn.specs.declared.kid.Kid.{Kid}
use Rattle.daemon_turn.specs.Decisions.{has_kid}
use Rattle.mail_notes.specs.Names.{IsMailName, mail_file, mail_temp, notice_number}

-- the notice of the number belongs to no child
abbrev pub is_notice_without_kid : List Kid → Option ℕ → Bool
is_notice_without_kid kids None = false
is_notice_without_kid kids (Some number) = not (has_kid kids number)

-- the file of this name is left over
abbrev pub is_stale : List Kid → List ℕ → Bool
is_stale kids name = pointwise nat_eq name mail_temp || is_notice_without_kid kids (notice_number name)

-- the names of the files that are left over, in byte order
abbrev pub stale_names : List Kid → Files → List (List ℕ)
stale_names kids files = filter (is_stale kids) (map.keys files)

-- these are files, each once, each of the mail and none that of the notes, and one that is being made is among them
pub record AreStaleFiles (names : List (List ℕ)) (files : Files) : Type 0 where
  pub are_files : AreFiles names files
  pub of_mail : (name : List ℕ) → Contains names name → IsMailName name × (name ≢ mail_file)
  pub temp : IsSome (map.get files mail_temp) → Contains names mail_temp
