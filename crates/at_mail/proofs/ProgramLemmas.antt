-- How the program ends.
use Rattle.std.proofs.Common.{◌≡◌, ◌≢◌, ◌<◌, ◌≤◌, ◌⊎◌, ℕ, Bool, List, refl, sym, ap, subst, ◌∙◌, inl, inr, arith}
use Rattle.std.specs.Prelude.{Option, Some, None, Result, Ok, Err}
use Rattle.host_calls.specs.Causes.{Rose}
use Rattle.host_calls.specs.Session.{IsOutside, KeepsCounts, Session}
use Rattle.host_calls.specs.declared.child.Child.{Child}
use Rattle.host_calls.specs.declared.fault.SinkFault.{SinkFault}
use Rattle.host_calls.specs.declared.fault.SinkFault.TheVariants as put
use Rattle.host_calls.proofs.SessionLemmas.{no_counts}
use Rattle.listing_text.specs.declared.cause.Cause.{Cause}
use Rattle.listing_text.specs.declared.cause.Cause.TheVariants as cause
use Rattle.at_words.specs.Answers.{Answers}
use Rattle.at_words.specs.declared.fault.WordsFault.{WordsFault}
use Rattle.at_words.specs.declared.fault.WordsFault.TheVariants as words
use Rattle.tool_output.specs.SaidLines.{IsSaid}
use Rattle.tool_output.specs.Causes.{words_cause}
use Rattle.tool_output.specs.Sinks.{SinkAt}
use Rattle.daemon_turn.specs.Kids.{AreChildren, KeepsChildren}
use Rattle.host_calls.specs.declared.turn_end.TurnEnd.{TurnEnd}
use Rattle.host_calls.specs.declared.turn_end.TurnEnd.TheVariants.{Done, Busy, FileFault, Damaged, Memory}
use Rattle.mail_session.specs.PostState.{PostState, new_post}
use Rattle.tool_output.specs.Outside.{OutsideAt, Telling, WorkAt}
use Rattle.mail_session.specs.SessionOutcome.{PostSpool}
use Rattle.at_mail.specs.SessionsWithRests.{MakesMailSessions, next_session, no_session}
use Rattle.at_mail.specs.Outcomes.{PostItem, last_session_outcome, session_outcome, outcome_or_done, mail_program}
use Rattle.at_mail.specs.Program.{PostsSessions, HasMadeNoSession, PostEnds, SaysMailOutcome, work_with}
use Rattle.at_mail.specs.declared.outcome.MailOutcome.{MailOutcome}
use Rattle.at_mail.specs.declared.outcome.MailOutcome.TheVariants.{OfSession, Own}
use Rattle.at_mail.specs.declared.request.PostRequest.{PostRequest}
use Rattle.at_mail.specs.inside.OneSession.{HasMade}
use Rattle.at_mail.proofs.MakingLemmas.{children_same, keeps_all, last_more, output_rose}

-- What the words request is distinguished.
same_fault : (asked : Result PostRequest WordsFault) (one other : WordsFault) → Err one ≡ asked → asked ≡ Err other → one ≡ other
same_fault asked one other first second = let same : ◌≡◌ {A = Result PostRequest WordsFault} (Err one) (Err other) = first ∙ second in cc

not_both : (asked : Result PostRequest WordsFault) (fault : WordsFault) (request : PostRequest) → Err fault ≡ asked → asked ≡ Ok request → ⊥
not_both asked fault request first second = let no : ◌≡◌ {A = Result PostRequest WordsFault} (Err fault) (Ok request) = first ∙ second in cc

same_request : (one other : PostRequest) → ◌≡◌ {A = Result PostRequest WordsFault} (Ok one) (Ok other) → one ≡ other
same_request one other same = cc

-- a cause that was said is that, or an out-of-memory error
said_other : (of : Cause) (tells : Bool) (old new : SinkAt) (final : Cause) → IsSaid mail_program tells of old new final
    → of ≢ cause.OutputFault → final ≡ cause.OutputFault → ⊥
said_other of tells old new final (inl says) other is = other (sym says.0 ∙ is)
said_other of tells old new final (inr lacks) other is = let no : cause.Memory ≡ cause.OutputFault = sym lacks.1 ∙ is in cc

words_other : (fault : WordsFault) → words_cause fault ≢ cause.OutputFault
words_other words.Usage is = cc
words_other words.BadQueue is = cc
words_other words.Memory is = cc

module _ (asked : Result PostRequest WordsFault) (old new : OutsideAt) (final : Cause) (outside : IsOutside old.session)
    (made : new.err.made_as ≡ old.err.made_as) where
  undone_ends : (of : Cause) → of ≢ cause.OutputFault → HasMadeNoSession of old new final
      → ((fault : WordsFault) → asked ≡ Err fault → HasMadeNoSession (words_cause fault) old new final
      ⊎ HasMadeNoSession cause.Memory old new final)
      → ((request : PostRequest) → asked ≡ Ok request → HasMadeNoSession cause.Memory old new final
      ⊎ PostsSessions request.turns (new_post request.program) old new final)
      → PostEnds asked old new final
  undone_ends of other is unasked posts = record {
    outside = subst IsOutside (sym is.session) outside;
    kept = subst (λ (session : Session). KeepsChildren old.session.children session.children) (sym is.session)
        (children_same old.session.children);
    counts = subst (λ (session : Session). KeepsCounts old.session session) (sym is.session) (no_counts old.session);
    readers_made = ap (λ readers. readers.made_as) is.readers;
    made = made;
    output_fault = λ same. absurd (said_other of old.tells.errors old.holds.errors new.holds.errors final is.says other same);
    unasked = unasked;
    posts = posts;
  }

  -- words that request nothing
  pub unasked_ends : (fault : WordsFault) → Answers asked (Err fault) → HasMadeNoSession (words_cause fault) old new final
      → PostEnds asked old new final
  unasked_ends words.Usage answers is =
      undone_ends (words_cause words.Usage) (words_other words.Usage) is
      (λ fault was. inl
      (subst (λ (of : WordsFault). HasMadeNoSession (words_cause of) old new final) (same_fault asked words.Usage fault answers was) is))
      (λ request was. absurd (not_both asked words.Usage request answers was))
  unasked_ends words.BadQueue answers is =
      undone_ends (words_cause words.BadQueue) (words_other words.BadQueue) is
      (λ fault was. inl
      (subst (λ (of : WordsFault). HasMadeNoSession (words_cause of) old new final) (same_fault asked words.BadQueue fault answers was) is))
      (λ request was. absurd (not_both asked words.BadQueue request answers was))
  unasked_ends words.Memory answers is =
      undone_ends cause.Memory (words_other words.Memory) is (λ fault was. inr is) (λ request was. inl is)

  -- memory ran out for the post
  pub unmade_ends : HasMadeNoSession cause.Memory old new final → PostEnds asked old new final
  unmade_ends is = undone_ends cause.Memory (words_other words.Memory) is (λ fault was. inr is) (λ request was. inl is)

-- a session that ended the program, whose line was said, did so by a damage
session_other : (end : TurnEnd) (said : Result (Unit {0}) SinkFault) → session_outcome end said ≡ Some (OfSession cause.OutputFault) → ⊥
session_other Done (Ok done) is = cc
session_other Busy (Ok done) is = cc
session_other FileFault (Ok done) is = cc
session_other (Damaged damage) (Ok done) is = cc
session_other Memory (Ok done) is = cc
session_other Done (Err put.Failed) is = cc
session_other Busy (Err put.Failed) is = cc
session_other FileFault (Err put.Failed) is = cc
session_other (Damaged damage) (Err put.Failed) is = cc
session_other Memory (Err put.Failed) is = cc
session_other Done (Err put.Memory) is = cc
session_other Busy (Err put.Memory) is = cc
session_other FileFault (Err put.Memory) is = cc
session_other (Damaged damage) (Err put.Memory) is = cc
session_other Memory (Err put.Memory) is = cc

sessions_other : (tells : Telling) (items : List PostItem) (first last : WorkAt PostSpool) → MakesMailSessions tells first items last
    → last_session_outcome items ≡ Some (OfSession cause.OutputFault) → ⊥
sessions_other tells _ first _ no_session is = cc
sessions_other tells _ first _ (next_session before item last rested after makes goes_on rests session) is =
    session_other item.end item.said (sym (last_more before item) ∙ is)

own_output : (outcome : Option MailOutcome) → outcome_or_done outcome ≡ Own cause.OutputFault → outcome ≡ Some (Own cause.OutputFault)
own_output None is = absurd (cc)
own_output (Some outcome) is = ap Some is

session_output : (outcome : Option MailOutcome) → outcome_or_done outcome ≡ OfSession cause.OutputFault
    → outcome ≡ Some (OfSession cause.OutputFault)
session_output None is = absurd (cc)
session_output (Some outcome) is = ap Some is

-- the post had no children at first
pub no_kids : (children : List Child) (program : List ℕ) → AreChildren children (new_post program).kids
no_kids children program = record { each = λ kid is. absurd (let less : is.0 < 0 = is.1 in omega arith) }

module _ (tells : Telling) (items : List PostItem) (first last : WorkAt PostSpool) (makes : MakesMailSessions tells first items last)
    (outside : IsOutside first.spool.session)
    (children : AreChildren first.spool.session.children first.spool.post.kids) where
  rose_by : (errors : Bool) (outcome : MailOutcome) (new : SinkAt) (final : Cause) → outcome ≡ outcome_or_done (last_session_outcome items)
      → last.said.faults ≤ new.faults
      → SaysMailOutcome errors outcome last.said new final → final ≡ cause.OutputFault → Rose first.said.faults new.faults
  rose_by errors (OfSession of) new final comes later says is =
      absurd (sessions_other tells items first last makes
      (session_output (last_session_outcome items) (sym comes ∙ ap OfSession (sym says.0 ∙ is))))
  rose_by errors (Own of) new final comes later (inl says) is =
      let rose : Rose first.said.faults last.said.faults =
      output_rose tells items first last makes outside children
      (own_output (last_session_outcome items) (sym comes ∙ ap Own (sym says.0 ∙ is))) in
      omega arith
  rose_by errors (Own of) new final comes later (inr lacks) is = absurd (let no : cause.Memory ≡ cause.OutputFault = sym lacks.1 ∙ is in cc)

-- the sessions were made, and what they came to was said
pub posted_ends : (request : PostRequest) (post : PostState) (old mid new : OutsideAt) (outcome : MailOutcome) (final : Cause)
    → IsOutside old.session
    → HasMade old.tells request.turns (work_with (new_post request.program) old) (work_with post mid) outcome → new.session ≡ mid.session
    → new.holds.spool ≡ mid.holds.spool
    → new.holds.answers ≡ mid.holds.answers → new.readers ≡ mid.readers → mid.holds.errors.faults ≤ new.holds.errors.faults
    → new.err.made_as ≡ old.err.made_as
    → SaysMailOutcome old.tells.errors outcome mid.holds.errors new.holds.errors final → PostEnds (Ok request) old new final
posted_ends request post old mid new outcome final outside made session spool answers readers later same says =
    let first : WorkAt PostSpool = work_with (new_post request.program) old in
    let keeps =
    keeps_all old.tells first outside (no_kids old.session.children request.program) made.items (work_with post mid) made.makes in
    record {
      outside = subst IsOutside (sym session) keeps.outside;
      kept = subst (λ (is : Session). KeepsChildren old.session.children is.children) (sym session) keeps.kept;
      counts = subst (λ (is : Session). KeepsCounts old.session is) (sym session) keeps.counts;
      readers_made = ap (λ is. is.made_as) (readers ∙ keeps.readers);
      made = same;
      output_fault = rose_by old.tells made.items first (work_with post mid) made.makes outside
          (no_kids old.session.children request.program) old.tells.errors outcome new.holds.errors final made.comes later says;
      unasked = λ fault was. absurd (not_both (Ok request) fault request (sym was) refl);
      posts = λ other was. inr (subst (λ (of : PostRequest). PostsSessions of.turns (new_post of.program) old new final)
          (same_request request other was) (record {
            items = made.items;
            last = work_with post mid;
            few = made.few;
            makes = made.makes;
            stops = made.stops;
            session = session;
            spool = spool;
            answers = answers;
            readers = readers;
            says =
                subst (λ (of : MailOutcome). SaysMailOutcome old.tells.errors of mid.holds.errors new.holds.errors final) made.comes says;
          }));
    }
