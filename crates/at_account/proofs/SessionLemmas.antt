-- How the program ends, by its session and what is put after it.
use Rattle.std.proofs.Common.{◌≡◌, ℕ, Bool, true, List, inl, inr, refl, sym, subst, arith}
use Rattle.std.specs.Prelude.{Result, Ok, Err, IfErr}
use Rattle.std.specs.Fn.{CalledAtMut}
use Rattle.tool_output.specs.Causes.{cause_of_entry}
use Rattle.tool_output.specs.declared.command_error.CommandError.{CommandError}
use Rattle.tool_output.specs.Sinks.{IsSilent, SinkAt}
use Rattle.tool_output.specs.Whole.{PutsWhole}
use Rattle.host_calls.specs.declared.fault.EnterFault.{EnterFault}
use Rattle.host_calls.specs.declared.fault.EnterFault.TheVariants as entry
use Rattle.host_calls.specs.declared.host.Host.{Ghosts}
use Rattle.host_calls.specs.World.{World}
use Rattle.host_calls.specs.SessionWork.{Calls}
use Rattle.listing_text.specs.declared.cause.Cause.{Cause}
use Rattle.listing_text.specs.declared.cause.Cause.TheVariants.{Done, Refused, FileFault, OutputFault, Busy, Memory, Damaged}
use Rattle.listing_text.specs.declared.refusal.Refusal.TheVariants as refusal
use Rattle.spool_session.specs.Sessions.{EndsCommandSession, IsOfSession}
use Rattle.whole_file.specs.Others.{ChangesFiles}
use Rattle.whole_file.proofs.OthersLemmas.{changes_none}
use Rattle.at_account.specs.AccountOutcome.{IsAccounted, IsAccounting, AccountLeaves, MayEndAccount}
use Rattle.at_account.specs.inside.Inside.{EndsInside, IsAccountingCause, StopsInside}

-- what stops the work may end the program, and comes within a session
work_may_end : (cause : Cause) → IsAccountingCause cause → MayEndAccount cause
work_may_end FileFault is = tt
work_may_end Memory is = tt
work_may_end (Damaged damage) is = tt
work_may_end (Refused refusal.AccountsFull) is = tt
work_may_end cause is = absurd is

work_of_session : (cause : Cause) → IsAccountingCause cause → IsOfSession cause
work_of_session FileFault is = tt
work_of_session Memory is = tt
work_of_session (Damaged damage) is = tt
work_of_session (Refused refusal.AccountsFull) is = refl
work_of_session cause is = absurd is

entry_may_end : (fault : EnterFault) → MayEndAccount (cause_of_entry fault)
entry_may_end entry.Taken = tt
entry_may_end entry.Failed = tt
entry_may_end entry.Memory = tt

-- what is left by a session that ended so
abbrev pub Stops : World → World → Cause → Type 0
Stops old new Busy = new ≡ old
Stops old new cause = StopsInside old new cause

stops_inside : (old new : World) (cause : Cause) → StopsInside old new cause → Stops old new cause
stops_inside old new FileFault is = is
stops_inside old new Memory is = is
stops_inside old new (Damaged damage) is = is
stops_inside old new (Refused refusal) is = is
stops_inside old new cause is = absurd is

stops_at_entry : (old new : World) (fault : EnterFault) → new ≡ old → Stops old new (cause_of_entry fault)
stops_at_entry old new entry.Taken same = same
stops_at_entry old new entry.Failed same = tt
stops_at_entry old new entry.Memory same = tt

abbrev pub Ends : Bool → World → World → Result (List ℕ) CommandError → Type 0
Ends show old new (Ok text) = IsAccounted show old new text
Ends show old new (Err stopped) = Stops old new stopped.cause

ends_inside : (show : Bool) (old new : World) (result : Result (List ℕ) CommandError) → EndsInside show old new result
    → Ends show old new result
ends_inside show old new (Ok text) is = is
ends_inside show old new (Err stopped) is = stops_inside old new stopped.cause is

module _ {H F : Type 0} (g : Ghosts H) (calls : Calls H F (Result (List ℕ) CommandError)) (work left : F) (old new : H)
    (result : Result (List ℕ) CommandError)
    (ends : EndsCommandSession g calls work left old new result) where
  -- why the session ended
  pub session_may_end : ((first last : H) → CalledAtMut calls work first result left last
      → IfErr result (λ stopped. IsAccountingCause stopped.cause)) →
      IfErr result (λ stopped. MayEndAccount stopped.cause)
  session_may_end within = elim ends [
    | inl none ↦ subst (λ of. IfErr of (λ stopped. MayEndAccount stopped.cause)) (sym none.is) (entry_may_end none.fault)
    | inr done ↦ by_result result (within done.first done.last done.did)
  ] where
    by_result : (of : Result (List ℕ) CommandError) → IfErr of (λ stopped. IsAccountingCause stopped.cause)
        → IfErr of (λ stopped. MayEndAccount stopped.cause)
    by_result (Ok text) is = tt
    by_result (Err stopped) is = work_may_end stopped.cause is

  -- what each image has
  pub session_images : ((first last : H) → CalledAtMut calls work first result left last → g.tells ≡ true
      → ChangesFiles (IsAccounting (g.world first).now.directory) (g.world first) (g.world last))
      → g.tells ≡ true → g.alone ≡ true → ChangesFiles (IsAccounting (g.world old).now.directory) (g.world old) (g.world new)
  session_images within tells alone = elim ends [
    | inl none ↦ subst (λ now. ChangesFiles (IsAccounting (g.world old).now.directory) (g.world old) now)
        (sym (none.undone.refused.quiet.alone tells alone))
        (changes_none (IsAccounting (g.world old).now.directory) (g.world old))
    | inr done ↦
        subst (λ now. ChangesFiles (IsAccounting (g.world old).now.directory) (g.world old) now) (sym (done.quiet.alone tells alone))
        (subst (λ (from : World). ChangesFiles (IsAccounting from.now.directory) from (g.world done.last))
        (done.begun.quiet.alone tells alone)
        (within done.first done.last done.did tells))
  ]

  -- and what is left
  pub session_ends : (show : Bool) → ((first last : H) → CalledAtMut calls work first result left last → g.tells ≡ true
      → EndsInside show (g.world first) (g.world last) result)
      → g.tells ≡ true → g.alone ≡ true → Ends show (g.world old) (g.world new) result
  session_ends show within tells alone = elim ends [
    | inl none ↦ subst (Ends show (g.world old) (g.world new)) (sym none.is)
        (stops_at_entry (g.world old) (g.world new) none.fault (none.undone.refused.quiet.alone tells alone))
    | inr done ↦ subst (λ now. Ends show (g.world old) now result) (sym (done.quiet.alone tells alone))
        (subst (λ from. Ends show from (g.world done.last) result) (done.begun.quiet.alone tells alone)
        (ends_inside show (g.world done.first) (g.world done.last) result (within done.first done.last done.did tells)))
  ]

-- nothing was put
same_silent : (at : SinkAt) → IsSilent at at
same_silent at = record { content = refl; later = omega arith }

-- the session was stopped
pub stopped_leaves : (show output : Bool) (old new : World) (at : SinkAt) (cause : Cause) → MayEndAccount cause → Stops old new cause
    → AccountLeaves show output old new at at cause
stopped_leaves show output old new at FileFault may is = λ tells. same_silent at
stopped_leaves show output old new at Memory may is = λ tells. inl (same_silent at)
stopped_leaves show output old new at Busy may is = (is, λ tells. same_silent at)
stopped_leaves show output old new at (Damaged damage) may is = (is.0, is.1, λ tells. same_silent at)
stopped_leaves show output old new at (Refused refusal) may is = (is, λ tells. same_silent at)
stopped_leaves show output old new at _ may is = absurd is

-- the text was put, or not
pub put_leaves : (show output : Bool) (old new : World) (was now : SinkAt) (text : List ℕ) (cause : Cause)
    → PutsWhole output text was now cause
    → IsAccounted show old new text → AccountLeaves show output old new was now cause
put_leaves show output old new was now text Done puts done = (text, done, puts)
put_leaves show output old new was now text OutputFault puts done = (text, done, puts.1)
put_leaves show output old new was now text Memory puts done = λ tells. inl (puts tells)
put_leaves show output old new was now text cause puts done = absurd puts
