-- Sessions one after another.
use Rattle.std.proofs.Common.{◌≡◌, ◌≢◌, ◌+◌, ◌≤◌, ◌<◌, ℕ, zero, suc, Bool, List, [], ◌∷◌, ◌++◌, length, refl, sym, ap, subst, ◌∙◌, inl, inr, append-nil, append_assoc, arith}
use Rattle.std.specs.Prelude.{IsErrOf, IsSome, Option, Some, None, Result, Ok, Err}
use Rattle.host_calls.specs.Causes.{Rose}
use Rattle.host_calls.specs.Session.{IsOutside, KeepsCounts}
use Rattle.host_calls.specs.declared.child.Child.{Child}
use Rattle.host_calls.specs.declared.fault.SinkFault.{SinkFault}
use Rattle.host_calls.specs.declared.fault.SinkFault.TheVariants as put
use Rattle.host_calls.proofs.SessionLemmas.{counts_on, no_counts}
use Rattle.listing_text.specs.declared.cause.Cause.TheVariants as cause
use Rattle.tool_output.specs.Sinks.{SinkAt}
use Rattle.daemon_turn.specs.Kids.{AreChildren, KeepsChildren}
use Rattle.host_calls.specs.declared.turn_end.TurnEnd.{TurnEnd}
use Rattle.host_calls.specs.declared.turn_end.TurnEnd.TheVariants.{Done, Busy, FileFault, Damaged, Memory}
use Rattle.mail_session.specs.SessionOutcome.{PostSpool}
use Rattle.tool_output.specs.Outside.{ClockAt, Rests, RestsBefore, RestsOn, Telling, WorkAt}
use Rattle.at_mail.specs.SessionsWithRests.{IsSession, MakesMailSessions, next_session, no_session, rest_after_sessions, rest_seconds}
use Rattle.at_mail.specs.Outcomes.{PostItem, last_session_outcome, session_outcome, outcome_or_done}
use Rattle.at_mail.specs.declared.outcome.MailOutcome.{MailOutcome}
use Rattle.at_mail.specs.declared.outcome.MailOutcome.TheVariants.{Own}
use Rattle.at_mail.specs.inside.OneSession.{HasMade, rest_before}

pub last_more : (items : List PostItem) (item : PostItem) → last_session_outcome (items ++ item ∷ []) ≡ session_outcome item.end item.said
last_more [] item = refl
last_more (one ∷ []) item = refl
last_more (one ∷ other ∷ items) item = last_more (other ∷ items) item

pub one_longer : (items : List PostItem) (item : PostItem) → length (items ++ item ∷ []) ≡ length items + 1
one_longer [] item = refl
one_longer (one ∷ items) item = (let longer : length (items ++ item ∷ []) ≡ length items + 1 = one_longer items item in omega arith)

-- the rest before the session of a place
pub rests_later : (place : ℕ) (tells : Bool) (old new : ClockAt) → place ≢ 0 → Rests tells rest_seconds old new
    → RestsOn tells (rest_before place) old new
rests_later zero tells old new some rests = absurd (some refl)
rests_later (suc place) tells old new some rests = rests

pub rests_first : (place : ℕ) (tells : Bool) (at : ClockAt) → place ≡ 0 → RestsOn tells (rest_before place) at at
rests_first zero tells at none = refl
rests_first (suc place) tells at none = absurd (omega arith)

-- the rest before the next session
pub rest_same : (items : List PostItem) (place : ℕ) → length items ≡ place → rest_before place ≡ rest_after_sessions items
rest_same [] zero same = refl
rest_same [] (suc place) same = absurd (omega arith)
rest_same (item ∷ items) zero same = absurd (omega arith)
rest_same (item ∷ items) (suc place) same = refl

pub rested_readers : (tells : Bool) (rest : Option ℕ) (old new : ClockAt) → RestsOn tells rest old new → new.readers ≡ old.readers
rested_readers tells None old new same = ap (λ (at : ClockAt). at.readers) same
rested_readers tells (Some seconds) old new rests = rests.readers

pub children_same : (children : List Child) → KeepsChildren children children
children_same children = ([], sym (append-nil children))

children_then : (old middle new : List Child) → KeepsChildren old middle → KeepsChildren middle new → KeepsChildren old new
children_then old middle new first second =
    (first.0 ++ second.0, second.1 ∙ ap (λ (before : List Child). before ++ second.0) first.1 ∙ append_assoc old first.0 second.0)

-- What sessions keep, one after another: no session is on, the children are children, no child is forgotten, no count has
-- fallen.
pub record Keeps (first last : WorkAt PostSpool) : Type 0 where
  pub outside : IsOutside last.spool.session
  pub children : AreChildren last.spool.session.children last.spool.post.kids
  pub kept : KeepsChildren first.spool.session.children last.spool.session.children
  pub counts : KeepsCounts first.spool.session last.spool.session
  pub said : first.said.faults ≤ last.said.faults
  pub readers : last.clock.readers ≡ first.clock.readers

pub keeps_none : (first : WorkAt PostSpool) → IsOutside first.spool.session
    → AreChildren first.spool.session.children first.spool.post.kids → Keeps first first
keeps_none first outside children = record {
  outside = outside;
  children = children;
  kept = children_same first.spool.session.children;
  counts = no_counts first.spool.session;
  said = omega arith;
  readers = refl;
}

pub keeps_more : (tells : Telling) (item : PostItem) (items : List PostItem) (first last rested after : WorkAt PostSpool) → Keeps first last
    → RestsBefore tells.clock (rest_after_sessions items) last rested → IsSession tells item rested after → Keeps first after
keeps_more tells item items first last rested after keeps rests session = record {
  outside = session.posts.outside;
  children = session.posts.children;
  kept = children_then first.spool.session.children last.spool.session.children after.spool.session.children keeps.kept
      (subst (λ (spool : PostSpool). KeepsChildren spool.session.children after.spool.session.children) rests.spool session.posts.kept);
  counts = counts_on first.spool.session last.spool.session after.spool.session keeps.counts
      (subst (λ (spool : PostSpool). KeepsCounts spool.session after.spool.session) rests.spool session.posts.counts);
  said = (let before : first.said.faults ≤ last.said.faults = keeps.said in
      let later : last.said.faults ≤ after.said.faults =
      subst (λ (said : SinkAt). said.faults ≤ after.said.faults) rests.said session.says.later in omega arith);
  readers = ap (λ (at : ClockAt). at.readers) session.clock
      ∙ rested_readers tells.clock (rest_after_sessions items) last.clock rested.clock rests.clock ∙ keeps.readers;
}

module _ (tells : Telling) (first : WorkAt PostSpool) (outside : IsOutside first.spool.session)
    (children : AreChildren first.spool.session.children first.spool.post.kids) where
  pub keeps_all : (items : List PostItem) (last : WorkAt PostSpool) → MakesMailSessions tells first items last → Keeps first last
  keeps_all _ _ no_session = keeps_none first outside children
  keeps_all _ _ (next_session before item last rested after makes goes_on rests session) =
      keeps_more tells item before first last rested after (keeps_all before last makes) rests session

-- Why the program comes to a failed output.

outcome_rose : (end : TurnEnd) (said : Result (Unit {0}) SinkFault) (old new : SinkAt)
    → (IsErrOf said put.Failed → Rose old.faults new.faults)
    → session_outcome end said ≡ Some (Own cause.OutputFault) → Rose old.faults new.faults
outcome_rose end (Err put.Failed) old new failed comes = failed refl
outcome_rose Done (Ok done) old new failed comes = absurd (cc)
outcome_rose Busy (Ok done) old new failed comes = absurd (cc)
outcome_rose FileFault (Ok done) old new failed comes = absurd (cc)
outcome_rose (Damaged damage) (Ok done) old new failed comes = absurd (cc)
outcome_rose Memory (Ok done) old new failed comes = absurd (cc)
outcome_rose Done (Err put.Memory) old new failed comes = absurd (cc)
outcome_rose Busy (Err put.Memory) old new failed comes = absurd (cc)
outcome_rose FileFault (Err put.Memory) old new failed comes = absurd (cc)
outcome_rose (Damaged damage) (Err put.Memory) old new failed comes = absurd (cc)
outcome_rose Memory (Err put.Memory) old new failed comes = absurd (cc)

pub output_rose : (tells : Telling) (items : List PostItem) (first last : WorkAt PostSpool) → MakesMailSessions tells first items last
    → IsOutside first.spool.session
    → AreChildren first.spool.session.children first.spool.post.kids → last_session_outcome items ≡ Some (Own cause.OutputFault)
    → Rose first.said.faults last.said.faults
output_rose tells _ first _ no_session outside children comes = absurd (cc)
output_rose tells _ first _ (next_session before item last rested after makes goes_on rests session) outside children comes =
    let keeps = keeps_all tells first outside children before last makes in
    let earlier : first.said.faults ≤ last.said.faults = keeps.said in
    let rose : Rose rested.said.faults after.said.faults =
    outcome_rose item.end item.said rested.said after.said session.says.failed (sym (last_more before item) ∙ comes) in
    let risen : Rose last.said.faults after.said.faults = subst (λ (said : SinkAt). Rose said.faults after.said.faults) rests.said rose in
    omega arith

-- One more session.

module _ (tells : Telling) (items : List PostItem) (first last rested after : WorkAt PostSpool)
    (makes : MakesMailSessions tells first items last)
    (goes_on : last_session_outcome items ≡ None) (rests : RestsBefore tells.clock (rest_after_sessions items) last rested)
    (item : PostItem) (session : IsSession tells item rested after) where
  pub makes_more : MakesMailSessions tells first (items ++ item ∷ []) after
  makes_more = next_session items item last rested after makes goes_on rests session

  -- it ended the program
  pub ended_at : (turns : ℕ) (outcome : MailOutcome) → length items < turns → Some outcome ≡ session_outcome item.end item.said
      → HasMade tells turns first after outcome
  ended_at turns outcome few comes = record {
    items = items ++ item ∷ [];
    few = (let longer : length (items ++ item ∷ []) ≡ length items + 1 = one_longer items item in omega arith);
    makes = makes_more;
    stops = inr (subst IsSome (comes ∙ sym (last_more items item)) refl);
    comes = ap outcome_or_done (comes ∙ sym (last_more items item));
  }

-- all were made
pub ended_made : (tells : Telling) (items : List PostItem) (turns : ℕ) (first last : WorkAt PostSpool)
    → MakesMailSessions tells first items last → last_session_outcome items ≡ None
    → length items ≡ turns → HasMade tells turns first last (Own cause.Done)
ended_made tells items turns first last makes goes_on all = record {
  items = items;
  few = omega arith;
  makes = makes;
  stops = inl all;
  comes = sym (ap outcome_or_done goes_on);
}
