-- Sessions of requests that find nothing outside but the lists of users.
use Rattle.std.proofs.Common.{◌≡◌, Bool, true, false, ℕ, List, [], sym, ap, subst, ◌∙◌, refl, inl, inr}
use Rattle.std.specs.Prelude.{◌&&◌, IsPermutation, filter, Option, Some, None, Result, Ok, Err, IfErr}
use Rattle.access_lists.specs.Access.{may_use}
use Rattle.at_words.specs.declared.filter.Filter.{Filter}
use Rattle.at_words.specs.declared.tool_request.ToolRequest.{ToolRequest}
use Rattle.at_words.specs.declared.tool_request.ToolRequest.TheVariants as request
use Rattle.civil_minute.specs.declared.zone.Zone.{Zone}
use Rattle.host_calls.specs.World.{World}
use Rattle.step_runs.specs.Current.{IsCurrent, Kept}
use Rattle.step_runs.specs.Made.{AreMade}
use Rattle.step_runs.proofs.ListLemmas.{lists_as_on_the_table}
use Rattle.step_runs.proofs.MadeLemmas.{no_steps_are_made}
use Rattle.at_commands.specs.Removal.{AreRemoval, ComesOfRemoving, IsRemovalCause}
use Rattle.job_listing.specs.Scripts.{IsOfShowing}
use Rattle.listing_text.specs.declared.cause.Cause.{Cause}
use Rattle.listing_text.specs.declared.cause.Cause.TheVariants.{Done, Refused, FileFault, OutputFault, Memory}
use Rattle.listing_text.specs.declared.refusal.Refusal.{Refusal}
use Rattle.listing_text.specs.Listing.{IsListing, may_see}
use Rattle.spool_model.specs.declared.row.Row.{Row}
use Rattle.spool_model.specs.declared.step.Step.{Step}
use Rattle.spool_model.specs.JobTable.{JobTable}
use Rattle.spool_model.specs.Lists.{live_rows}
use Rattle.tool_output.specs.declared.caller.Caller.{Caller}
use Rattle.tool_output.specs.declared.command_error.CommandError.{CommandError}
use Rattle.tool_output.specs.Causes.{cause_in, error_of}
use Rattle.command_rules.specs.Found.{Found}
use Rattle.at_commands.specs.inside.SessionOutcome.{AreWorkSteps, Carries, IsSessionText}
use Rattle.command_rules.specs.Requested.{passes_of, scripts_of, steps_of_request}
use Rattle.command_rules.specs.Sessions.{IsKeptOf, IsNotOpened, IsStoreOpened, IsWorkedOut, CommandWorks}
use Rattle.tool_output.specs.Sinks.{IsPut, IsPutInPart, IsSilent, PutsPart, SinkAt}
use Rattle.command_rules.specs.Verdict.{filter_check, jobs_check, table_verdict}
use Rattle.at_commands.proofs.EntryLemmas.{IsOfEntry}
use Rattle.at_commands.specs.inside.Sessions.{ListsInSession, ShowsInSession, lists_alone}
use Rattle.at_commands.proofs.CarryLemmas.{KeepsLists, carries_within, decides, not_entered, not_opened, work_done, work_fails, work_lacks_memory, work_refused, work_unsaid}
use Rattle.at_commands.proofs.KeptLemmas.{kept_decides}
use Rattle.command_rules.proofs.UserLemmas.{alone_is}

pub keeps_lists : KeepsLists lists_alone
keeps_lists = record { allow_is = λ allow deny. refl; deny_is = λ allow deny. refl }

-- for a caller of the user's name
abbrev pub as_opened : (tells : Bool) (user other : List ℕ) (old new : World) (kept : Kept) → other ≡ user
    → IsStoreOpened tells user old new kept → IsStoreOpened tells other old new kept
as_opened tells user other old new kept same opened = record {
  allow = opened.allow;
  deny = opened.deny;
  table = opened.table;
  permits = ap (λ (of : List ℕ). may_use of opened.allow opened.deny) same ∙ opened.permits;
  keeps = opened.keeps;
  lists = opened.lists;
  recovered = opened.recovered;
}

module _ (tells alone : Bool) (asked : ToolRequest) (caller : Caller) (old new : World) where
  -- the spool could not be entered, or no store was had
  pub carries_unentered : (cause : Cause) → IsOfEntry cause → (tells ≡ true → alone ≡ true → new ≡ old)
      → Carries tells alone asked caller lists_alone old new cause
  carries_unentered cause entry same = not_entered tells alone asked caller lists_alone keeps_lists old new cause entry same

  pub carries_unopened : (user : List ℕ) (cause : Cause) → caller.context.user ≡ user → IsNotOpened tells user old new cause →
      Carries tells alone asked caller lists_alone old new cause
  carries_unopened user cause same is = not_opened tells alone asked caller lists_alone keeps_lists old new user cause same is

-- Works of one list of steps that are those of another.
works_map : (A B : JobTable → List Step → Type 0) (table : JobTable) → ((steps : List Step) → A table steps → B table steps)
    → (old new : World) (cause : Cause) →
    CommandWorks A table old new cause → CommandWorks B table old new cause
works_map A B table all old new Done works =
    record { steps = works.steps; kept = works.kept; are = all works.steps works.are; made = works.made }
works_map A B table all old new OutputFault works =
    record { steps = works.steps; kept = works.kept; are = all works.steps works.are; made = works.made }
works_map A B table all old new FileFault works = elim works [
  | inl same ↦ inl same
  | inr on ↦ inr (record { steps = on.steps; are = all on.steps on.are; legal = on.legal; run = on.run })
]
works_map A B table all old new Memory works = elim works [
  | inl same ↦ inl same
  | inr on ↦ inr (record { steps = on.steps; are = all on.steps on.are; legal = on.legal; run = on.run })
]
works_map A B table all old new _ works = works

module _ (tells alone : Bool) (asked : ToolRequest) (caller : Caller) (user : List ℕ) (same : caller.context.user ≡ user)
    (old middle new : World) (kept : Kept)
    (is_open : IsStoreOpened tells user old middle kept) where
  abbrev opened : IsStoreOpened tells caller.context.user old middle kept
  opened = as_opened tells user caller.context.user old middle kept same is_open

  abbrev found : Found
  found = lists_alone is_open.allow is_open.deny

  -- the table refuses
  pub carries_refused : (refusal : Refusal) → table_verdict asked caller (Ok kept.table) ≡ Some refusal → (tells ≡ true → new ≡ middle) →
      Carries tells alone asked caller lists_alone old new (Refused refusal)
  carries_refused refusal is still =
      work_refused tells alone asked caller lists_alone keeps_lists old middle new kept opened refusal is still

  -- a fault of a file came, before a step
  abbrev pub carries_failing : table_verdict asked caller (Ok kept.table) ≡ None → (tells ≡ true → new ≡ middle)
      → Carries tells alone asked caller lists_alone old new FileFault
  carries_failing none still =
      work_fails tells alone asked caller lists_alone keeps_lists old middle new kept opened none (λ known. inl (still known))

  -- there was no memory
  abbrev pub carries_lacking_at : (tells ≡ true → new ≡ middle) → Carries tells alone asked caller lists_alone old new Memory
  carries_lacking_at still =
      work_lacks_memory tells alone asked caller lists_alone keeps_lists old middle new kept opened (λ known. inl (still known))

  pub carries_lacking : (tells ≡ true → new ≡ middle) → Carries tells alone asked caller lists_alone old new Memory
  carries_lacking still =
      work_lacks_memory tells alone asked caller lists_alone keeps_lists old middle new kept opened (λ known. inl (still known))

  -- a request without steps makes none
  pub work_none : ((table : JobTable) → steps_of_request asked caller found table ≡ []) → table_verdict asked caller (Ok kept.table) ≡ None
      → tells ≡ true → new ≡ middle →
      IsWorkedOut (AreWorkSteps asked caller found) is_open.table middle new
  work_none steps none known still = record {
    steps = [];
    kept = kept;
    are = record {
      none = sym (kept_decides asked caller kept.table is_open.table is_open.keeps) ∙ none;
      steps_are = sym (steps is_open.table);
    };
    made = subst (λ (at : World). AreMade is_open.table [] [] [] kept middle at) (sym still)
        (no_steps_are_made is_open.table kept middle (is_open.recovered known).current);
  }

  abbrev pub carries_still_unsaid : ((table : JobTable) → steps_of_request asked caller found table ≡ [])
      → table_verdict asked caller (Ok kept.table) ≡ None →
      (tells ≡ true → new ≡ middle) → Carries tells alone asked caller lists_alone old new OutputFault
  carries_still_unsaid steps none still =
      work_unsaid tells alone asked caller lists_alone keeps_lists old middle new kept opened none
      (λ known. work_none steps none known (still known))

  abbrev pub carries_still : ((table : JobTable) → steps_of_request asked caller found table ≡ [])
      → table_verdict asked caller (Ok kept.table) ≡ None →
      (tells ≡ true → new ≡ middle) → Carries tells alone asked caller lists_alone old new Done
  carries_still steps none still =
      work_done tells alone asked caller lists_alone keeps_lists old middle new kept opened none
      (λ known. work_none steps none known (still known))

-- Removals.

-- a removal is done, or a fault of a file or an out-of-memory error comes
abbrev pub IsOfRemoval : Cause → Type 0
IsOfRemoval Done = Unit {0}
IsOfRemoval FileFault = Unit {0}
IsOfRemoval Memory = Unit {0}
IsOfRemoval _ = ⊥

module _ (tells alone : Bool) (numbers : List ℕ) (caller : Caller) (user : List ℕ) (same : caller.context.user ≡ user)
    (old middle new : World) (kept : Kept)
    (is_open : IsStoreOpened tells user old middle kept) where
  removal_decides : (verdict : Option Refusal) → verdict ≡ jobs_check user true kept.table numbers →
      table_verdict (request.Remove numbers) caller (Ok kept.table) ≡ verdict
  removal_decides verdict is =
      alone_is (jobs_check caller.context.user true kept.table numbers)
      ∙ ap (λ (of : List ℕ). jobs_check of true kept.table numbers) same ∙ sym is

  pub removal_refused : (refusal : Refusal) → Some refusal ≡ jobs_check user true kept.table numbers → (tells ≡ true → new ≡ middle) →
      Carries tells alone (request.Remove numbers) caller lists_alone old new (Refused refusal)
  removal_refused refusal is still =
      carries_refused tells alone (request.Remove numbers) caller user same old middle new kept is_open refusal
      (removal_decides (Some refusal) is) still

  removal_works : None ≡ jobs_check user true kept.table numbers → (cause : Cause)
      → (tells ≡ true → CommandWorks (AreRemoval numbers) is_open.table middle new cause) → tells ≡ true →
      CommandWorks (AreWorkSteps (request.Remove numbers) caller (lists_alone is_open.allow is_open.deny)) is_open.table middle new cause
  removal_works none cause works known =
      works_map (AreRemoval numbers) (AreWorkSteps (request.Remove numbers) caller (lists_alone is_open.allow is_open.deny)) is_open.table
      (λ steps are. record {
        none = sym (kept_decides (request.Remove numbers) caller kept.table is_open.table is_open.keeps) ∙ removal_decides None none;
        steps_are = are;
      }) middle new cause (works known)

  pub removal_by : (cause : Cause) → None ≡ jobs_check user true kept.table numbers → IsOfRemoval cause
      → (tells ≡ true → CommandWorks (AreRemoval numbers) is_open.table middle new cause) →
      Carries tells alone (request.Remove numbers) caller lists_alone old new cause
  removal_by FileFault none of_work works =
      work_fails tells alone (request.Remove numbers) caller lists_alone keeps_lists old middle new kept
      (as_opened tells user caller.context.user old middle kept same is_open) (removal_decides None none)
      (removal_works none FileFault works)
  removal_by Memory none of_work works =
      work_lacks_memory tells alone (request.Remove numbers) caller lists_alone keeps_lists old middle new kept
      (as_opened tells user caller.context.user old middle kept same is_open) (removal_works none Memory works)
  removal_by Done none of_work works =
      work_done tells alone (request.Remove numbers) caller lists_alone keeps_lists old middle new kept
      (as_opened tells user caller.context.user old middle kept same is_open) (removal_decides None none) (removal_works none Done works)
  removal_by _ none of_work works = absurd of_work

-- a removal is done, or stopped by a fault of a file or an out-of-memory error
pub removal_comes : (result : Result (Unit {0}) CommandError) → IfErr result ComesOfRemoving → IsOfRemoval (cause_in result)
removal_comes (Ok value) comes = tt
removal_comes (Err stopped) comes = by_cause stopped.cause comes where
  by_cause : (cause : Cause) → IsRemovalCause cause → IsOfRemoval cause
  by_cause FileFault of_work = tt
  by_cause Memory of_work = tt
  by_cause _ of_work = absurd of_work

-- Listings.

-- what is kept lists as the table does
listing_same : (zone : Zone) (kept table : JobTable) (user : List ℕ) (which : Filter) (text : List ℕ) → live_rows kept ≡ live_rows table →
    IsListing zone kept user (passes_of which) text → IsListing zone table user (passes_of which) text
listing_same zone kept table user which text same is = record {
  rows = is.rows;
  lines = is.lines;
  same = subst (λ (rows : List Row). IsPermutation (filter (λ row. may_see user row && passes_of which row) rows) is.rows) same is.same;
  ordered = is.ordered;
  shown = is.shown;
  joined = is.joined;
}

kept_rows : (kept table : JobTable) → IsKeptOf kept table → live_rows kept ≡ live_rows table
kept_rows kept table either = elim either [
  | inl is ↦ ap live_rows is ∙ (lists_as_on_the_table table).rows
  | inr same ↦ ap live_rows same
]

module _ (tells : Bool) (which : Filter) (caller : Caller) (user : List ℕ) (zone : Zone) (same : caller.context.user ≡ user)
    (same_zone : caller.zone ≡ zone)
    (old middle new : World) (kept : Kept) (is_open : IsStoreOpened tells user old middle kept) where
  filter_decides : (verdict : Option Refusal) → verdict ≡ filter_check user kept.table which →
      table_verdict (request.List which) caller (Ok kept.table) ≡ verdict
  filter_decides verdict is =
      alone_is (filter_check caller.context.user kept.table which) ∙ ap (λ (of : List ℕ). filter_check of kept.table which) same ∙ sym is

  pub listing_refused : (refusal : Refusal) → Some refusal ≡ filter_check user kept.table which → (tells ≡ true → new ≡ middle) →
      ListsInSession tells true (request.List which) caller old new (Err (error_of (Refused refusal)))
  listing_refused refusal is still = record {
    carries = carries_refused tells true (request.List which) caller user same old middle new kept is_open refusal
        (filter_decides (Some refusal) is) still;
    text = tt;
  }

  pub listing_lacks : (tells ≡ true → new ≡ middle) → ListsInSession tells true (request.List which) caller old new (Err (error_of Memory))
  listing_lacks still =
      record { carries = carries_lacking tells true (request.List which) caller user same old middle new kept is_open still; text = tt }

  pub listing_made : (text : List ℕ) → None ≡ filter_check user kept.table which → (tells ≡ true → new ≡ middle) →
      IsListing zone kept.table user (passes_of which) text → ListsInSession tells true (request.List which) caller old new (Ok text)
  listing_made text none still is =
      let allowed : table_verdict (request.List which) caller (Ok kept.table) ≡ None = filter_decides None none in
      record {
        carries = carries_still tells true (request.List which) caller user same old middle new kept is_open (λ table. refl) allowed still;
        text = (
          is_open.table,
          refl,
          decides tells true (request.List which) caller lists_alone keeps_lists old middle new kept
              (as_opened tells user caller.context.user old middle kept same is_open) ∙ allowed,
          subst (λ (of : List ℕ). IsListing caller.zone is_open.table of (passes_of which) text) (sym same)
              (subst (λ (of : Zone). IsListing of is_open.table user (passes_of which) text) (sym same_zone)
              (listing_same zone kept.table is_open.table user which text (kept_rows kept.table is_open.table is_open.keeps) is)),
        );
      }

-- what a session listed holds after it
pub lists_within : (tells alone : Bool) (asked : ToolRequest) (caller : Caller) (before entered left after : World)
    (result : Result (List ℕ) CommandError) →
    (tells ≡ true → alone ≡ true → entered ≡ before) → (tells ≡ true → alone ≡ true → after ≡ left) →
    ListsInSession tells true asked caller entered left result → ListsInSession tells alone asked caller before after result
lists_within tells alone asked caller before entered left after result enters leaves lists = record {
  carries = carries_within tells alone asked caller lists_alone before entered left after (cause_in result) enters leaves lists.carries;
  text = lists.text;
}

-- Showings.

module _ (tells output : Bool) (numbers : List ℕ) (caller : Caller) (user : List ℕ) (same : caller.context.user ≡ user)
    (old middle new : World) (was is : SinkAt) (kept : Kept) (is_open : IsStoreOpened tells user old middle kept) where
  showing_decides : (verdict : Option Refusal) → verdict ≡ jobs_check user false kept.table numbers →
      table_verdict (request.Show numbers) caller (Ok kept.table) ≡ verdict
  showing_decides verdict is =
      alone_is (jobs_check caller.context.user false kept.table numbers)
      ∙ ap (λ (of : List ℕ). jobs_check of false kept.table numbers) same ∙ sym is

  pub showing_refused : (refusal : Refusal) → Some refusal ≡ jobs_check user false kept.table numbers
      → (tells ≡ true → new ≡ middle) → IsSilent was is →
      ShowsInSession tells true output (request.Show numbers) caller old new was is (Err (error_of (Refused refusal)))
  showing_refused refusal says still unchecked = record {
    carries = carries_refused tells true (request.Show numbers) caller user same old middle new kept is_open refusal
        (showing_decides (Some refusal) says) still;
    prints = λ known is_alone tells_output. unchecked;
  }

  module _ (none : None ≡ jobs_check user false kept.table numbers) (still : tells ≡ true → new ≡ middle) where
    allowed : table_verdict (request.Show numbers) caller (Ok kept.table) ≡ None
    allowed = showing_decides None none

    shows_text : IsSessionText (request.Show numbers) caller (lists_alone is_open.allow is_open.deny) (Ok is_open.table)
        (scripts_of is_open.table numbers)
    shows_text = (
      is_open.table,
      refl,
      decides tells true (request.Show numbers) caller lists_alone keeps_lists old middle new kept
          (as_opened tells user caller.context.user old middle kept same is_open) ∙ allowed,
      refl,
    )

    pub showing_done : (tells ≡ true → output ≡ true → (table : JobTable) → IsCurrent kept middle.now.directory table
        → IsPut (scripts_of table numbers) was is) →
        ShowsInSession tells true output (request.Show numbers) caller old new was is (Ok tt)
    showing_done puts = record {
      carries = carries_still tells true (request.Show numbers) caller user same old middle new kept is_open (λ table. refl) allowed still;
      prints = λ known is_alone tells_output.
          (scripts_of is_open.table numbers, shows_text, puts known tells_output is_open.table (is_open.recovered known).current);
    }

    -- the scripts stopped on the way
    showing_part : (tells ≡ true → output ≡ true → (table : JobTable) → IsCurrent kept middle.now.directory table
        → IsPutInPart (scripts_of table numbers) was is) →
        tells ≡ true → output ≡ true
        → PutsPart (IsSessionText (request.Show numbers) caller (lists_alone is_open.allow is_open.deny) (Ok is_open.table)) was is
    showing_part puts known tells_output =
        inr (scripts_of is_open.table numbers, shows_text, puts known tells_output is_open.table (is_open.recovered known).current)

    pub showing_stopped : (cause : Cause) → IsOfShowing cause →
        (tells ≡ true → output ≡ true → (table : JobTable) → IsCurrent kept middle.now.directory table
        → IsPutInPart (scripts_of table numbers) was is) →
        ShowsInSession tells true output (request.Show numbers) caller old new was is (Err (error_of cause))
    showing_stopped FileFault of_showing puts = record {
      carries = carries_failing tells true (request.Show numbers) caller user same old middle new kept is_open allowed still;
      prints = λ known is_alone tells_output. showing_part puts known tells_output;
    }
    showing_stopped OutputFault of_showing puts = record {
      carries =
          carries_still_unsaid tells true (request.Show numbers) caller user same old middle new kept is_open (λ table. refl) allowed still;
      prints = λ known is_alone tells_output. showing_part puts known tells_output;
    }
    showing_stopped Memory of_showing puts = record {
      carries = carries_lacking_at tells true (request.Show numbers) caller user same old middle new kept is_open still;
      prints = λ known is_alone tells_output. showing_part puts known tells_output;
    }
    showing_stopped _ of_showing puts = absurd of_showing

-- what a session showed holds after it
pub shows_within : (tells alone output : Bool) (asked : ToolRequest) (caller : Caller) (before entered left after : World) (was is : SinkAt)
    (result : Result (Unit {0}) CommandError) →
    (tells ≡ true → alone ≡ true → entered ≡ before) → (tells ≡ true → alone ≡ true → after ≡ left) →
    ShowsInSession tells true output asked caller entered left was is result
    → ShowsInSession tells alone output asked caller before after was is result
shows_within tells alone output asked caller before entered left after was is result enters leaves shows = record {
  carries = carries_within tells alone asked caller lists_alone before entered left after (cause_in result) enters leaves shows.carries;
  prints = λ known is_alone tells_output. shows.prints known refl tells_output;
}
