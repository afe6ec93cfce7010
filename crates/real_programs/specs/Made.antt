-- The real system of a program, as it is made (own).
use Rattle.std.specs.Prelude.{◌≡◌, [], ℕ, List, Option, Some, None}
use Rattle.host_calls.specs.declared.host.Host as host
use Rattle.host_calls.specs.Session.{IsOutside}
use Rattle.real_programs.specs.declared.program.Program.{Program}
use Rattle.real_programs.specs.declared.program.Program.TheVariants.{Commands, CommandsThenNoting, Stat, Post, Trim, PostAfterTrim, Cron, Next, Account, Check}
use Rattle.real_programs.specs.declared.system.ProgramSystem.{ProgramSystem}
use Rattle.real_programs.specs.declared.system_plan.SystemPlan.{SystemPlan}
use Rattle.real_programs.specs.declared.target.SalvageTarget.{SalvageTarget}
use Rattle.real_programs.specs.declared.target.SalvageTarget.TheVariants.{Directory, Memory}
use Rattle.real_programs.specs.declared.witnesses.Witnesses.{Witnesses}
use Rattle.real_programs.specs.Systems.{IsTargetOutside}
use Rattle.unix_host.specs.declared.absent.Absent.{Absent}
use Rattle.unix_host.specs.declared.absent.Absent.TheVariants.{Fails, Makes}
use Rattle.unix_host.specs.declared.host.UnixHost.{UnixHost}
use Rattle.unix_host.specs.declared.waits.Waits.{Waits}
use Rattle.witnessed_host.specs.declared.noted_sink.NotedSink.{NotedSink}
use Rattle.witnessed_host.specs.declared.witnessed.Witnessed.{Witnessed}
use Rattle.witnessed_host.specs.declared.witnessed_inputs.WitnessedInputs.{WitnessedInputs}

-- what a session does where the program's directory is absent: the commands and atstat make it
abbrev pub absent_of : Program → Absent
absent_of Commands = Makes
absent_of CommandsThenNoting = Makes
absent_of Stat = Makes
absent_of Post = Fails
absent_of Trim = Fails
absent_of PostAfterTrim = Fails
absent_of Cron = Fails
absent_of Next = Fails
absent_of Account = Fails
absent_of Check = Fails

-- The directory of this path, next to this witness: what a session does where it is absent, and how it waits.
pub record IsDirectoryAt {W R A B C D E F G : Type 0} (path : List ℕ) (absent : Absent) (waits : Waits) (witness : W)
    (directory : Witnessed (UnixHost R A B C D E F G) W) : Type 0 where
  pub path_is : directory.host.spool ≡ path
  pub absent_is : directory.host.absent ≡ absent
  pub waits_is : directory.host.waits ≡ waits
  pub witness_is : directory.witness ≡ witness

-- the target of a salvage: the directory of the path, where there is one
abbrev pub IsTargetAt : {W R A B C D E F G : Type 0} → Option (List ℕ) → Waits → W →
    SalvageTarget (Witnessed (UnixHost R A B C D E F G) W) → Type 0
IsTargetAt (Some path) waits witness (Directory to) = IsDirectoryAt path Makes waits witness to
IsTargetAt (Some path) waits witness (Memory to) = ⊥
IsTargetAt None waits witness (Directory to) = ⊥
IsTargetAt None waits witness (Memory to) = Unit {0}

-- The system of a program was made by this plan, with this clock and next to these witnesses. No session is on, and the two
-- outputs have accepted nothing.
pub record IsSystem {W V R A B C D E F G I O S L : Type 0} (h : host.Ghosts (Witnessed (UnixHost R A B C D E F G) W))
    (program : Program) (plan : SystemPlan) (clock : L) (witnesses : Witnesses W V)
    (system : ProgramSystem (Witnessed (UnixHost R A B C D E F G) W) L (WitnessedInputs I V) (NotedSink O) (NotedSink S))
    : Type 0 where
  pub outside : IsOutside (h.session system.directory)
  pub target_outside : IsTargetOutside h system.target
  pub directory : IsDirectoryAt plan.spool (absent_of program) plan.waits witnesses.directory system.directory
  pub target : IsTargetAt plan.target plan.waits witnesses.target system.target
  pub clock_is : system.clock ≡ clock
  pub input : system.input.witness ≡ witnesses.input
  pub output : system.output.log.bytes ≡ []
  pub errors : system.errors.log.bytes ≡ []
