-- The directories and the streams that the checker is handed, at a moment (own).
use Rattle.std.specs.Prelude.{◌≡◌, ◌⊎◌, true}
use Rattle.tool_output.specs.Outside.{DirectoryAt, StreamAt, directory_at, stream_at}
use Rattle.host_calls.specs.Causes.{Rose}
use Rattle.host_calls.specs.declared.host.Host as host
use Rattle.host_calls.specs.declared.sink.Sink as sink
use Rattle.host_calls.specs.World.{TimePasses, World}
use Rattle.listing_text.specs.declared.cause.Cause.{Cause}
use Rattle.listing_text.specs.declared.cause.Cause.TheVariants.{Busy, FileFault, OutputFault}

-- all that the checker is handed: the directory that is checked, the one that is written, and what is printed on
pub record DirectoriesAt : Type 0 where
  pub from : DirectoryAt
  pub to : DirectoryAt
  pub out : StreamAt

abbrev pub handed : DirectoryAt → DirectoryAt → StreamAt → DirectoriesAt
handed from to out = record { from = from; to = to; out = out }

abbrev pub directories_at : {H G O : Type 0} → host.Ghosts H → host.Ghosts G → sink.Ghosts O → H → G → O → DirectoriesAt
directories_at h g o from to out = handed (directory_at h from) (directory_at g to) (stream_at o out)

-- A visit of a directory: a session began and ended. Others may have changed the directory before it began and after it
-- ended, and nobody where it is nobody else's.
pub record Visit (old new : DirectoryAt) : Type 0 where
  pub first : World
  pub last : World
  pub begun : old.tells ≡ true → TimePasses old.world first
  pub over : old.tells ≡ true → TimePasses last new.world
  pub alone : old.tells ≡ true → old.alone ≡ true → (first ≡ old.world) × (last ≡ new.world)

-- A fault of a file, or a lock that was taken, comes only where the count of the one directory or the other rose, and
-- a fault of the output where its count rose.
pub record HasRisenInEither (old new : DirectoriesAt) (cause : Cause) : Type 0 where
  pub file_fault : cause ≡ FileFault →
      Rose old.from.session.file_faults new.from.session.file_faults ⊎ Rose old.to.session.file_faults new.to.session.file_faults
  pub busy : cause ≡ Busy →
      Rose old.from.session.taken new.from.session.taken ⊎ Rose old.to.session.taken new.to.session.taken
  pub output_fault : cause ≡ OutputFault → Rose old.out.sink.faults new.out.sink.faults
