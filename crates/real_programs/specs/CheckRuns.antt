-- How the checker runs over what it is lent (own): into a directory, or into memory.
use Rattle.std.specs.Prelude.{◌≡◌, ℕ, List}
use Rattle.host_calls.specs.declared.host.Host as host
use Rattle.host_calls.specs.declared.sink.Sink as sink
use Rattle.host_calls.specs.Session.{IsLeft}
use Rattle.listing_text.specs.Cause.{status_of}
use Rattle.listing_text.specs.declared.status.Status.{Status}
use Rattle.memory_host.specs.Host.{memory_session}
use Rattle.memory_host.specs.declared.memory_host.MemoryHost.{MemoryHost}
use Rattle.real_programs.specs.declared.system.ProgramSystem.{ProgramSystem}
use Rattle.real_programs.specs.declared.target.SalvageTarget.{SalvageTarget}
use Rattle.real_programs.specs.declared.target.SalvageTarget.TheVariants.{Directory, Memory}
use Rattle.real_programs.specs.Systems.{errors_made_as, output_made_as}
use Rattle.spool_check.specs.CheckOutcome.{CheckEnds}
use Rattle.spool_check.specs.Outside.{HasRisenInEither, directories_at}
use Rattle.spool_check.specs.Words.{check_asked}
use Rattle.tool_output.specs.Outside.{stream_at}

-- The checker ran by these words, into this target. The clock and the input are left alone.
pub record IsCheckInto {D G C I O E : Type 0} (h : host.Ghosts D) (g : host.Ghosts G) (o : sink.Ghosts O)
    (e : sink.Ghosts E) (words : List (List ℕ)) (old : ProgramSystem D C I O E) (to : G) (new : ProgramSystem D C I O E) (into : G)
    (status : Status) : Type 0 where
  pub code : status ≡ status_of status.cause
  pub from : IsLeft (h.session old.directory) (h.session new.directory)
  pub target : IsLeft (g.session to) (g.session into)
  pub output_made : output_made_as o new ≡ output_made_as o old
  pub errors_made : errors_made_as e new ≡ errors_made_as e old
  pub risen : HasRisenInEither (directories_at h g o old.directory to old.output)
      (directories_at h g o new.directory into new.output) status.cause
  pub ends : CheckEnds (check_asked words) (directories_at h g o old.directory to old.output)
      (directories_at h g o new.directory into new.output) (stream_at e old.errors) (stream_at e new.errors) status.cause
  pub clock : new.clock ≡ old.clock
  pub input : new.input ≡ old.input

-- the target that is left is of the same kind
abbrev pub ChecksInto : {D C I O E : Type 0} → host.Ghosts D → host.Ghosts MemoryHost → sink.Ghosts O → sink.Ghosts E →
    List (List ℕ) → ProgramSystem D C I O E → SalvageTarget D → ProgramSystem D C I O E → SalvageTarget D → Status → Type 0
ChecksInto h m o e words old (Directory to) new (Directory into) status = IsCheckInto h h o e words old to new into status
ChecksInto h m o e words old (Memory to) new (Memory into) status = IsCheckInto h m o e words old to new into status
ChecksInto h m o e words old (Directory to) new (Memory into) status = ⊥
ChecksInto h m o e words old (Memory to) new (Directory into) status = ⊥

-- the checker ran by these words
abbrev pub IsCheckRun : {D C I O E : Type 0} → host.Ghosts D → host.Ghosts MemoryHost → sink.Ghosts O → sink.Ghosts E →
    List (List ℕ) → ProgramSystem D C I O E → ProgramSystem D C I O E → Status → Type 0
IsCheckRun h m o e words old new status = ChecksInto h m o e words old old.target new new.target status
