-- What is after a session, by what its work came to.
use Rattle.std.proofs.Common.{◌≡◌, ◌≢◌, Bool, true, List, ℕ, sym, subst, inl, inr}
use Rattle.std.specs.Prelude.{Result, Err, IfErr, IsErrOf}
use Rattle.std.specs.Fn.{CalledAtMut}
use Rattle.at_words.specs.declared.tool_request.ToolRequest.{ToolRequest}
use Rattle.at_words.specs.declared.tool_request.ToolRequest.TheVariants as request
use Rattle.host_calls.specs.declared.fault.EnterFault.{EnterFault}
use Rattle.host_calls.specs.declared.host.Host.{Ghosts}
use Rattle.host_calls.specs.SessionWork.{Calls}
use Rattle.listing_text.specs.declared.cause.Cause.TheVariants.{InputFault, OutputFault}
use Rattle.tool_output.specs.declared.caller.Caller.{Caller}
use Rattle.tool_output.specs.declared.command_error.CommandError.{CommandError}
use Rattle.tool_output.specs.Causes.{cause_in, cause_of_entry, error_of}
use Rattle.command_rules.specs.Found.{found_of}
use Rattle.tool_output.specs.Sinks.{SinkAt}
use Rattle.spool_session.specs.Sessions.{ComesOfSession, EndsCommandSession}
use Rattle.at_commands.specs.inside.SessionOutcome.{Carries}
use Rattle.at_commands.specs.inside.Session.{IsNoOutput}
use Rattle.at_commands.specs.inside.Sessions.{ListsInSession, ShowsInSession, lists_alone}
use Rattle.at_commands.specs.inside.StoredJob.{Stores, StoresJob}
use Rattle.at_commands.proofs.AnswerLemmas.{listing_unentered, showing_unentered}
use Rattle.at_commands.proofs.CarryLemmas.{carries_within}
use Rattle.at_commands.proofs.EntryLemmas.{entry_comes, entry_no_input, entry_no_output}
use Rattle.at_commands.proofs.ForLemmas.{carries_unentered, lists_within, shows_within}
use Rattle.at_commands.proofs.SessionLemmas.{cause_output_fault, comes_no_input, entry_of_spool}
use Rattle.at_commands.proofs.SubmitLemmas.{store_not_entered, stores_within}

module _ {H F T : Type 0} (g : Ghosts H) (calls : Calls H F (Result T CommandError)) (work left : F) (old new : H)
    (result : Result T CommandError)
    (ends : EndsCommandSession g calls work left old new result) where
  -- what is so of each answer of the work, and where the session could not begin
  pub answer_of_session : (IsSo : Result T CommandError → Type 0)
      → ((fault : EnterFault) → left ≡ work → IsSo (Err (error_of (cause_of_entry fault)))) →
      ((first last : H) → CalledAtMut calls work first result left last → IsSo result) → IsSo result
  answer_of_session IsSo unentered within = elim ends [
    | inl none ↦ subst IsSo (sym none.is) (unentered none.fault none.undone.same)
    | inr done ↦ within done.first done.last done.did
  ]

  pub no_output_of_session : ((first last : H) → CalledAtMut calls work first result left last → IfErr result IsNoOutput)
      → IfErr result IsNoOutput
  no_output_of_session within =
      answer_of_session (λ of. IfErr of IsNoOutput) (λ fault same. entry_of_spool (cause_of_entry fault) (entry_comes fault)) within

  pub no_input_of_session : ((first last : H) → CalledAtMut calls work first result left last → IfErr result ComesOfSession)
      → cause_in result ≢ InputFault
  no_input_of_session within =
      answer_of_session (λ of. cause_in of ≢ InputFault) (λ fault same. entry_no_input fault)
      (λ first last did. comes_no_input result (within first last did))

  -- what is so where the output failed
  pub fails_of_session : (IsSo : Type 0)
      → ((first last : H) → CalledAtMut calls work first result left last → IsErrOf result (error_of OutputFault) → IsSo) →
      cause_in result ≡ OutputFault → IsSo
  fails_of_session IsSo within =
      answer_of_session (λ of. cause_in of ≡ OutputFault → IsSo) (λ fault same is. absurd (entry_no_output fault is))
      (λ first last did is. within first last did (cause_output_fault result is))

  pub carries_of_session : (asked : ToolRequest) (caller : Caller) →
      ((first last : H) → CalledAtMut calls work first result left last →
      Carries g.tells true asked caller lists_alone (g.world first) (g.world last) (cause_in result)) →
      Carries g.tells g.alone asked caller lists_alone (g.world old) (g.world new) (cause_in result)
  carries_of_session asked caller within = elim ends [
    | inl none ↦ subst (λ (of : Result T CommandError).
        Carries g.tells g.alone asked caller lists_alone (g.world old) (g.world new) (cause_in of)) (sym none.is)
        (carries_unentered g.tells g.alone asked caller (g.world old) (g.world new) (cause_of_entry none.fault) (entry_comes none.fault)
        none.undone.refused.quiet.alone)
    | inr done ↦
        carries_within g.tells g.alone asked caller lists_alone (g.world old) (g.world done.first) (g.world done.last) (g.world new)
        (cause_in result) done.begun.quiet.alone done.quiet.alone (within done.first done.last done.did)
  ]

module _ {H F : Type 0} (g : Ghosts H) where
  pub lists_of_session : (calls : Calls H F (Result (List ℕ) CommandError)) (work left : F) (old new : H)
      (result : Result (List ℕ) CommandError)
      (asked : ToolRequest) (caller : Caller) → EndsCommandSession g calls work left old new result →
      ((first last : H) → CalledAtMut calls work first result left last
      → ListsInSession g.tells true asked caller (g.world first) (g.world last) result) →
      ListsInSession g.tells g.alone asked caller (g.world old) (g.world new) result
  lists_of_session calls work left old new result asked caller ends within = elim ends [
    | inl none ↦ subst (λ (of : Result (List ℕ) CommandError).
        ListsInSession g.tells g.alone asked caller (g.world old) (g.world new) of) (sym none.is)
        (listing_unentered g.tells g.alone asked caller (g.world old) (g.world new) (cause_of_entry none.fault) (entry_comes none.fault)
        none.undone.refused.quiet.alone)
    | inr done ↦ lists_within g.tells g.alone asked caller (g.world old) (g.world done.first) (g.world done.last) (g.world new)
        result done.begun.quiet.alone done.quiet.alone (within done.first done.last done.did)
  ]

  -- where the session could not begin, the sink is as it was
  pub shows_of_session : (calls : Calls H F (Result (Unit {0}) CommandError)) (work left : F) (old new : H)
      (result : Result (Unit {0}) CommandError)
      (output : Bool) (asked : ToolRequest) (caller : Caller) (was is : SinkAt) → EndsCommandSession g calls work left old new result
      → (left ≡ work → is ≡ was) →
      ((first last : H) → CalledAtMut calls work first result left last →
      ShowsInSession g.tells true output asked caller (g.world first) (g.world last) was is result) →
      ShowsInSession g.tells g.alone output asked caller (g.world old) (g.world new) was is result
  shows_of_session calls work left old new result output asked caller was is ends still within = elim ends [
    | inl none ↦ subst (λ (at : SinkAt). ShowsInSession g.tells g.alone output asked caller (g.world old) (g.world new) was at result)
        (sym (still none.undone.same))
        (subst (λ (of : Result (Unit {0}) CommandError).
        ShowsInSession g.tells g.alone output asked caller (g.world old) (g.world new) was was of) (sym none.is)
        (showing_unentered g.tells g.alone output asked caller (g.world old) (g.world new) was (cause_of_entry none.fault)
        (entry_comes none.fault)
        none.undone.refused.quiet.alone))
    | inr done ↦
        shows_within g.tells g.alone output asked caller (g.world old) (g.world done.first) (g.world done.last) (g.world new) was is
        result done.begun.quiet.alone done.quiet.alone (within done.first done.last done.did)
  ]

  pub stores_of_session : (calls : Calls H F (Result ℕ CommandError)) (work left : F) (old new : H) (result : Result ℕ CommandError)
      (caller : Caller) (queue minute : ℕ) (script : List ℕ) → EndsCommandSession g calls work left old new result →
      ((first last : H) → CalledAtMut calls work first result left last →
      StoresJob g.tells true caller queue minute script (g.world first) (g.world last) result) →
      StoresJob g.tells g.alone caller queue minute script (g.world old) (g.world new) result
  stores_of_session calls work left old new result caller queue minute script ends within =
      λ mail file when now time commands is_job same_minute. elim ends [
        | inl none ↦ subst (λ (of : Result ℕ CommandError).
            Stores g.tells g.alone (request.Submit queue mail file when) caller (found_of now time commands)
            (g.world old) (g.world new) of) (sym none.is)
            (store_not_entered g.tells caller queue minute script mail file when now time commands is_job same_minute g.alone
            (cause_of_entry none.fault)
            (g.world old) (g.world new) (entry_comes none.fault) none.undone.refused.quiet.alone)
        | inr done ↦ stores_within g.tells g.alone (request.Submit queue mail file when) caller (found_of now time commands)
            (g.world old) (g.world done.first)
            (g.world done.last) (g.world new) result done.begun.quiet.alone done.quiet.alone
            (within done.first done.last done.did mail file when now time commands is_job same_minute)
      ]
