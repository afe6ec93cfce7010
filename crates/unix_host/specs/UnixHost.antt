-- What a spool directory on a disk tells of itself (own).
use Rattle.std.specs.Prelude.{[], ℕ, List, map, is_some, slice_get, vec_len, Option, option_and_then, option_map}
use Rattle.std.specs.Process.{child_status}
use Rattle.host_calls.specs.Session.{Session}
use Rattle.host_calls.specs.declared.child.Ending.{Ending}
use Rattle.unix_host.specs.Children.{first_children}
use Rattle.unix_host.specs.Endings.{ending_for}
use Rattle.unix_host.specs.Listings.{names_in}
use Rattle.unix_host.specs.Unsynced.{torn_alone, unsynced_by}
use Rattle.unix_host.specs.declared.host.UnixHost.{UnixHost}
use Rattle.unix_host.specs.declared.job.JobStart.{JobStart}
use Rattle.unix_host.specs.declared.unsynced.Unsynced.{Unsynced}

-- what every host reports; it spells nothing of what it was made as
abbrev pub unix_session : {R A B C D E F G : Type 0} → UnixHost R A B C D E F G → Session
unix_session host =
    record {
      inside = is_some host.directory;
      children = first_children (vec_len host.kids);
      made_as = [];
      file_faults = host.counts.files;
      start_faults = host.counts.starts;
      taken = host.counts.taken;
    }

-- what each child was started as, in their order
abbrev pub starts_of : {R A B C D E F G : Type 0} → UnixHost R A B C D E F G → List JobStart
starts_of host = map (λ kid. kid.started_as) host.kids.items

-- how the child of this number ended, as the system told it
abbrev pub ending_in : {R A B C D E F G : Type 0} → UnixHost R A B C D E F G → ℕ → Option Ending
ending_in host id = option_map ending_for (option_and_then (λ kid. child_status kid.process) (slice_get host.kids.items id))

-- within a session, the worst that may be unsynced
abbrev pub unsynced_of : {R A B C D E F G : Type 0} → UnixHost R A B C D E F G → Option Unsynced
unsynced_of host = option_map (λ directory. unsynced_by directory.changes) host.directory

-- within a session, the file whose bytes may be unsynced, where it is one alone
abbrev pub torn_file : {R A B C D E F G : Type 0} → UnixHost R A B C D E F G → Option (List ℕ)
torn_file host = option_and_then (λ directory. torn_alone directory.changes.torn) host.directory

-- within a session, what the byte of the lock says of it
abbrev pub known_unsynced : {R A B C D E F G : Type 0} → UnixHost R A B C D E F G → Option Unsynced
known_unsynced host = option_map (λ directory. directory.lock.known) host.directory

-- within a session, the names of the kept listing
abbrev pub listed_names : {R A B C D E F G : Type 0} → UnixHost R A B C D E F G → Option (List (List ℕ))
listed_names host = option_map names_in (option_and_then (λ directory. directory.listing) host.directory)
