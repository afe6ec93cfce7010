-- How atpost runs that trims its notes before its first session (own).
use Rattle.std.specs.Prelude.{◌≡◌, [], ◌∷◌, ℕ, Bool, true, false, List, codes}
use Rattle.host_calls.specs.declared.host.Host as host
use Rattle.host_calls.specs.declared.readings.Readings as readings
use Rattle.host_calls.specs.declared.sink.Sink as sink
use Rattle.listing_text.specs.declared.cause.Cause.{Cause}
use Rattle.listing_text.specs.declared.cause.Cause.TheVariants.{Done, Refused, FileFault, InputFault, OutputFault, Busy, Memory, Damaged, StillRunning, Faulty}
use Rattle.listing_text.specs.declared.status.Status.{Status}
use Rattle.real_programs.specs.declared.system.ProgramSystem.{ProgramSystem}
use Rattle.real_programs.specs.Runs.{IsPostRun, IsTrimRun}

-- the words of the trim
abbrev pub trim_words : List (List ℕ)
trim_words = codes "atpost" ∷ codes "--trim" ∷ []

-- the cause is a damage
abbrev pub is_damage : Cause → Bool
is_damage Done = false
is_damage (Refused _) = false
is_damage FileFault = false
is_damage InputFault = false
is_damage OutputFault = false
is_damage Busy = false
is_damage Memory = false
is_damage (Damaged _) = true
is_damage StillRunning = false
is_damage Faulty = false

-- a trim that was stopped ends the program; else the sessions run
abbrev pub PostsUnless : {D C I O E : Type 0} → Bool → host.Ghosts D → readings.Ghosts C → sink.Ghosts E →
    List (List ℕ) → ProgramSystem D C I O E → Status → ProgramSystem D C I O E → Status → Type 0
PostsUnless true h r e words old trimmed new status = (new ≡ old) × (status ≡ trimmed)
PostsUnless false h r e words old trimmed new status = IsPostRun h r e words old new status

-- A trim ran, and then the sessions by these words. A trim that reports a damage ends the program, since each session would
-- report it again.
pub record IsPostAfterTrim {D C I O E : Type 0} (h : host.Ghosts D) (r : readings.Ghosts C) (e : sink.Ghosts E)
    (words : List (List ℕ)) (old new : ProgramSystem D C I O E) (status : Status) : Type 0 where
  pub trimmed : Status
  pub between : ProgramSystem D C I O E
  pub trim : IsTrimRun h e trim_words old between trimmed
  pub posts : PostsUnless (is_damage trimmed.cause) h r e words between trimmed new status
