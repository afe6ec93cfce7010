-- What is new of a store's jobs can be written.
use Rattle.std.proofs.Common.{◌≡◌, ◌∙◌, ℕ, ◌<◌, ◌≤◌, ◌^◌, Bool, true, false, List, [], ◌∷◌, ◌++◌, inl, inr, refl, sym, ap, subst, arith, Contains}
use Rattle.std.specs.Prelude.{◌&&◌, ◌||◌, not, Option, Some, None, IsSome, IsTrue}
use Rattle.std.specs.List.{All}
use Rattle.std.specs.Option.{option_map}
use Rattle.std.proofs.lemmas.Bool.{eqb-true}
use Rattle.std.proofs.lemmas.Bool.Decides.{nat_tests}
use Rattle.std.proofs.lemmas.List.Elements.{All-append, All-cons, All-contains, All-nil}
use Rattle.std.specs.Char.{is_ascii_alphabetic}
use Rattle.record_lines.specs.Lines.{CanBeSpelled}
use Rattle.at_account.specs.declared.new_records.KnownJob.{KnownJob}
use Rattle.at_account.specs.declared.new_records.KnownJob.TheVariants as job
use Rattle.at_account.specs.declared.record.AccountEvent.{AccountEvent}
use Rattle.at_account.specs.declared.record.AccountEvent.TheVariants.{Closed, Seen, Started}
use Rattle.at_account.specs.declared.record.AccountRecord.{AccountRecord}
use Rattle.at_account.specs.declared.record.Closing.{Closing}
use Rattle.at_account.specs.declared.record.Owner.{Owner}
use Rattle.at_account.specs.Lines.{HasOwner, SpellsRecord}
use Rattle.at_account.specs.News.{closing_event, closing_of, is_handed_over, is_known_live, known_job, news_of, records_of, seen_event, start_event}
use Rattle.at_account.specs.Records.{has_closing_record, has_record_of, is_seen, has_start_record, is_account_record_of}
use Rattle.at_account.proofs.WritingLemmas.{can_write}
use Rattle.spool_model.specs.declared.entry.Entry.TheVariants.{Live, Done}
use Rattle.spool_model.specs.declared.row.Row.{Row}
use Rattle.spool_model.specs.JobTable.{IsSound, JobEntry, JobTable, entry_at}
use Rattle.spool_model.specs.Users.{IsUserName}
use Rattle.spool_shows.proofs.Membership.{Has, contained, has_either, has_filtered, one_passes}
use Rattle.spool_store.specs.Listed.{ListsLive}
use Rattle.at_account.specs.ObservedTable.{AreNews, HaveLetters, known_in}
use Rattle.at_account.proofs.GatheringLemmas.{nothing_new}

-- the one record of an event
event_of : (number : ℕ) (event : Option AccountEvent) (one : AccountRecord) → Has (records_of number event) one → event ≡ Some one.event
event_of number None one has = absurd has
event_of number (Some event) one (inl same) = ap (λ (r : AccountRecord). Some r.event) same
event_of number (Some event) one (inr has) = absurd has

-- an owner that can be written
abbrev IsFit : Owner → Type 0
IsFit owner = IsTrue (is_ascii_alphabetic owner.queue) × IsUserName owner.user

-- a live job has such an owner
abbrev HasFitOwner : Option KnownJob → Type 0
HasFitOwner None = Unit {0}
HasFitOwner (Some (job.Live owner running)) = IsFit owner
HasFitOwner (Some (job.Done fate)) = Unit {0}

seen_fit : (seen : Bool) (known : Option KnownJob) (event : AccountEvent) → HasFitOwner known
    → seen_event seen known ≡ Some event → HasOwner event
seen_fit true known event fit is = let impossible : None ≡ Some event = is in cc
seen_fit false None event fit is = let impossible : None ≡ Some event = is in cc
seen_fit false (Some (job.Live owner running)) event fit is = let same : Seen owner ≡ event = cc in subst HasOwner same fit
seen_fit false (Some (job.Done fate)) event fit is = let impossible : None ≡ Some event = is in cc

start_fit : (seen started closed : Bool) (known : Option KnownJob) (event : AccountEvent)
    → start_event seen started closed known ≡ Some event → HasOwner event
start_fit seen started closed known event is =
    by_test ((seen || is_known_live known) && not started && not closed && is_handed_over known) refl
  where
    by_test : (starts : Bool) → ((seen || is_known_live known) && not started && not closed && is_handed_over known)
        ≡ starts → HasOwner event
    by_test true now =
        let same : Started ≡ event = (let there : start_event seen started closed known ≡ Some Started = rw now refl in cc) in
        subst HasOwner same tt
    by_test false now = absurd (let none : start_event seen started closed known ≡ None = rw now refl in
        let impossible : None ≡ Some event = sym none ∙ is in cc)

closing_fit : (seen closed : Bool) (known : Option KnownJob) (event : AccountEvent)
    → closing_event seen closed known ≡ Some event → HasOwner event
closing_fit seen closed known event is = by_test (not seen || closed) refl where
  by_closing : (closing : Option Closing) → option_map Closed closing ≡ Some event → HasOwner event
  by_closing None found = let impossible : None ≡ Some event = found in cc
  by_closing (Some how) found = let same : Closed how ≡ event = cc in subst HasOwner same tt

  by_test : (none : Bool) → (not seen || closed) ≡ none → HasOwner event
  by_test true now =
      absurd (let none : closing_event seen closed known ≡ None = rw now refl in let impossible : None ≡ Some event = sym none ∙ is in cc)
  by_test false now = by_closing (closing_of known) (let all : closing_event seen closed known ≡ option_map Closed (closing_of known) =
      rw now refl in sym all ∙ is)

-- what is new of a number has such an owner
news_fit : (before : List AccountRecord) (number : ℕ) (known : Option KnownJob) (one : AccountRecord) → HasFitOwner known
    → Has (news_of before number known) one → HasOwner one.event
news_fit before number known one fit has = elim (has_either (first ++ second) third one has) [
  | inl early ↦ elim (has_either first second one early) [
    | inl in_first ↦
        seen_fit (is_seen number before) known one.event fit (event_of number (seen_event (is_seen number before) known) one in_first)
    | inr in_second ↦ start_fit (is_seen number before) (has_start_record number before)
        (has_closing_record number before) known one.event (event_of number
        (start_event (is_seen number before) (has_start_record number before) (has_closing_record number before) known) one in_second)
  ]
  | inr late ↦ closing_fit (is_seen number before) (has_closing_record number before) known one.event
      (event_of number (closing_event (is_seen number before) (has_closing_record number before) known) one late)
] where
  first : List AccountRecord
  first = records_of number (seen_event (is_seen number before) known)

  second : List AccountRecord
  second = records_of number (start_event (is_seen number before) (has_start_record number before) (has_closing_record number before) known)

  third : List AccountRecord
  third = records_of number (closing_event (is_seen number before) (has_closing_record number before) known)

module _ (before new_records : List AccountRecord) (rows : List Row) (table : JobTable)
    (can : All (CanBeSpelled SpellsRecord) before) (sound : IsSound table)
    (live : ListsLive table rows) (letters : HaveLetters rows) (named : (row : Row) → Contains rows row → IsUserName row.user)
    (are : AreNews before table new_records) where
  -- the owner of a live job
  fit_in : (number : ℕ) → HasFitOwner (known_in table number)
  fit_in number = by_entry (entry_at table number) refl where
    by_entry : (entry : Option JobEntry) → entry_at table number ≡ entry → HasFitOwner (known_in table number)
    by_entry None is = subst (λ e. HasFitOwner (option_map known_job e)) (sym is) tt
    by_entry (Some (Done fate)) is = subst (λ e. HasFitOwner (option_map known_job e)) (sym is) tt
    by_entry (Some (Live one state)) is =
        let listed = live.all number one state is in
        let fit : IsTrue (is_ascii_alphabetic listed.0.queue) × IsUserName listed.0.user =
        (letters listed.0 listed.1, named listed.0 listed.1) in
        subst (λ e. HasFitOwner (option_map known_job e)) (ap (λ (e : ℕ × JobEntry). Some e.1) listed.2 ∙ sym is) fit

  -- the number of a record
  number_fits : (number : ℕ) (one : AccountRecord) → Has (news_of before number (known_in table number)) one
      → (1 ≤ number) × (number < 2 ^ 32)
  number_fits number one has = by_test (has_record_of number before) refl where
    by_entry : (entry : Option JobEntry) → entry_at table number ≡ entry → has_record_of number before ≡ false
        → (1 ≤ number) × (number < 2 ^ 32)
    by_entry None is unnamed =
        let nothing : news_of before number (known_in table number) ≡ [] = ap (λ e. news_of before number (option_map known_job e)) is
        ∙ nothing_new before number unnamed in
        absurd (subst (λ list. Has list one) nothing has)
    by_entry (Some entry) is unnamed =
        let drawn = sound.each number (subst IsSome (sym is) refl) in
        let some = drawn.some in
        let most = drawn.drawn in
        let few = sound.few in
        (some, omega arith)

    by_test : (named : Bool) → has_record_of number before ≡ named → (1 ≤ number) × (number < 2 ^ 32)
    by_test true named =
        let found : (other : AccountRecord) × Has before other × (is_account_record_of number other ≡ true) =
        one_passes (is_account_record_of number) before named in
        let spelled : CanBeSpelled SpellsRecord found.0 =
        All-contains (CanBeSpelled SpellsRecord) before found.0 can (contained before found.0 found.1) in
        let same : found.0.number ≡ number = eqb-true found.0.number number found.2 in
        let some = spelled.spelled.some in
        let fits = spelled.spelled.number.fits in
        let counted = spelled.spelled.counted in
        let less : found.0.number < 16 ^ 8 = subst (λ n. found.0.number < 16 ^ n) counted fits in
        (omega arith, omega arith)
    by_test false unnamed = by_entry (entry_at table number) refl unnamed

  one_can : (one : AccountRecord) → Has new_records one → CanBeSpelled SpellsRecord one
  one_can one has =
      let itself : is_account_record_of one.number one ≡ true = grind (arith, nat_tests) in
      let among : Has (news_of before one.number (known_in table one.number)) one =
      subst (λ list. Has list one) (are.each one.number) (has_filtered (is_account_record_of one.number) new_records one has itself) in
      let fits = number_fits one.number one among in
      can_write one fits.0 fits.1 (news_fit before one.number (known_in table one.number) one (fit_in one.number) among)

  pub news_can_be_written : All (CanBeSpelled SpellsRecord) new_records
  news_can_be_written = each_has new_records (λ one has. has) where
    each_has : (list : List AccountRecord) → ((one : AccountRecord) → Has list one → Has new_records one)
        → All (CanBeSpelled SpellsRecord) list
    each_has [] all = All-nil (CanBeSpelled SpellsRecord)
    each_has (one ∷ later) all = All-cons (CanBeSpelled SpellsRecord) one later (one_can one (all one (inl refl)))
        (each_has later (λ other has. all other (inr has)))

  pub all_can_be_written : (records : List AccountRecord) → records ≡ before ++ new_records → All (CanBeSpelled SpellsRecord) records
  all_can_be_written records is =
      subst (All (CanBeSpelled SpellsRecord)) (sym is) (All-append (CanBeSpelled SpellsRecord) before new_records can news_can_be_written)
