-- What stops the use of a spool, and what to do about it (own).
use Rattle.std.specs.Prelude.{◌++◌, ℕ, List, codes}
use Rattle.tool_help.specs.declared.spool_trouble.SpoolTrouble.{SpoolTrouble}
use Rattle.tool_help.specs.declared.spool_trouble.SpoolTrouble.TheVariants.{Absent, NoDirectory, NotYours, Unwritable, Full, Quota, ReadOnly, OtherUser, Link, Unknown}

-- the hint about a path
abbrev pub spool_hint_of : SpoolTrouble → List ℕ → List ℕ
spool_hint_of Absent path = path ++ codes " is not there: make it, or name another spool by ATSPOOL"
spool_hint_of NoDirectory path = path ++ codes " is no folder"
spool_hint_of NotYours path = path ++ codes " is not yours to read and write: unset ATSPOOL for a spool of your own"
spool_hint_of Unwritable path = path ++ codes " is not yours to write: what stands beside the spool is made there"
spool_hint_of Full path = codes "the disk of " ++ path ++ codes " is full: make room there, as by removing old outputs"
spool_hint_of Quota path = codes "your quota on the disk of " ++ path ++ codes " is used up: make room there"
spool_hint_of ReadOnly path = codes "the disk of " ++ path ++ codes " takes no writes: see how it is mounted"
spool_hint_of OtherUser path = path ++ codes " belongs to another user: unset ATSPOOL, or run it as that user"
spool_hint_of Link path = path ++ codes " is a link: remove it, since what stands beside a spool is none"
spool_hint_of Unknown path =
    codes "look at " ++ (path ++ (codes ", " ++ (path ++ (codes ".lock and " ++ (path ++ codes ".out, and see atjobs(5)")))))
