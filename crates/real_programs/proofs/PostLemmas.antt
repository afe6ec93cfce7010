-- A trim and the sessions after it, by what is equal to their words and to what stops them.
use Rattle.std.proofs.Common.{◌≡◌, ℕ, Bool, List, subst}
use Rattle.host_calls.specs.declared.host.Host as host
use Rattle.host_calls.specs.declared.readings.Readings as readings
use Rattle.host_calls.specs.declared.sink.Sink as sink
use Rattle.listing_text.specs.declared.status.Status.{Status}
use Rattle.real_programs.specs.declared.system.ProgramSystem.{ProgramSystem}
use Rattle.real_programs.specs.PostRuns.{PostsUnless}
use Rattle.real_programs.specs.Runs.{IsTrimRun}

module _ {D C I O E : Type 0} (h : host.Ghosts D) (e : sink.Ghosts E) (old new : ProgramSystem D C I O E) where
  -- a trim by words that are equal
  pub trim_by_words : (one other : List (List ℕ)) (status : Status) → one ≡ other → IsTrimRun h e one old new status
      → IsTrimRun h e other old new status
  trim_by_words one other status same run = subst (λ (words : List (List ℕ)). IsTrimRun h e words old new status) same run

  -- sessions after a test that is equal
  pub posts_by : (r : readings.Ghosts C) (words : List (List ℕ)) (trimmed status : Status) (one other : Bool) → one ≡ other
      → PostsUnless one h r e words old trimmed new status → PostsUnless other h r e words old trimmed new status
  posts_by r words trimmed status one other same posts =
      subst (λ (is_stopped : Bool). PostsUnless is_stopped h r e words old trimmed new status) same posts
