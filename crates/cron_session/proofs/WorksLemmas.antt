-- The work of a session, by its calls.
use Rattle.std.proofs.Common.{◌≡◌, ◌∙◌, ◌≤◌, ℕ, ℤ, Bool, true, false, List, [], inl, refl, sym, ap, subst, arith}
use Rattle.std.specs.Prelude.{IsErrAnd, Option, Some, None, Result, Ok, Err}
use Rattle.std.specs.FinMap as finite
use Rattle.std.proofs.lemmas.Bool.Decides.{nat_tests}
use Rattle.at_words.specs.Numbers.{are_distinct}
use Rattle.host_calls.specs.declared.damage.Damage.{Damage}
use Rattle.host_calls.specs.Damages.{IfDamaged}
use Rattle.host_calls.specs.Session.{CallsInside, Session}
use Rattle.host_calls.specs.World.{World, reading}
use Rattle.host_calls.proofs.SessionLemmas.{counts_on}
use Rattle.host_calls.specs.declared.store_fault.StoreFault.{StoreFault}
use Rattle.host_calls.specs.declared.store_fault.StoreFault.TheVariants as fault
use Rattle.host_calls.specs.StoreFaults.{IsReadingFault}
use Rattle.spool_store.specs.Recovery.{IsRecovered, Recovered}
use Rattle.step_runs.specs.Calls.{ShowsAsBefore}
use Rattle.step_runs.specs.Current.{Kept}
use Rattle.whole_file.specs.Others.{ChangesFiles}
use Rattle.host_calls.specs.ClockRange.{minute_at}
use Rattle.cron_session.specs.Mark.{IsMark, IsMarkDamage}
use Rattle.cron_session.specs.MarkNames.{mark_file, mark_temp}
use Rattle.cron_session.specs.SessionOutcome.{CronAt, CronLeaves}
use Rattle.cron_session.specs.Steps.{Cron, IsMarkedBefore, minute_of}
use Rattle.whole_file.specs.TempFiles.{IsDurableAt}
use Rattle.cron_session.specs.declared.report.CronEnd.TheVariants.{Damaged}
use Rattle.cron_session.specs.inside.SessionWork.{SubmitsDue, CronWorks, cron_end_by, is_since}
use Rattle.cron_session.proofs.CauseLemmas.{ok_is_none, same_fault}
use Rattle.cron_session.proofs.WorkLemmas.{due_leaves, idle_after, mark_damaged, quiet_after, temp_durable}

-- The mark against the minute.

pub marked_since : (minute : ℕ) (marked : Option ℕ) → is_since minute marked ≡ true → (of : ℕ) × (marked ≡ Some of) × (minute ≤ of)
marked_since minute None is = let impossible : false ≡ true = is in cc
marked_since minute (Some of) is = (of, refl, grind (arith, nat_tests))

pub late_enough : (minute : ℕ) (now : ℤ) (marked : Option ℕ) → minute ≡ minute_at now → is_since minute marked ≡ true
    → (of : ℕ) × (marked ≡ Some of) × (minute_at now ≤ of)
late_enough minute now marked same is =
    let late : (of : ℕ) × (marked ≡ Some of) × (minute ≤ of) = marked_since minute marked is in
    (late.0, late.1, subst (λ (at : ℕ). at ≤ late.0) same late.2)

pub marked_before : (minute : ℕ) (marked : Option ℕ) → is_since minute marked ≡ false → IsMarkedBefore minute marked
marked_before minute None is = tt
marked_before minute (Some of) is = grind (arith, nat_tests)

-- calls within a session, one after another
pub calls_then : {T U E F : Type 0} (of : E) (other : F) (before between after : Session) (first : Result T E) (second : Result U F) →
    CallsInside of before between first → CallsInside other between after second → CallsInside other before after second
calls_then of other before between after first second one two = record {
  stays = record {
    inside = two.stays.inside;
    children = two.stays.children ∙ one.stays.children;
    counts = counts_on before between after one.stays.counts two.stays.counts;
  };
  cause = record {
    later = omega (arith, one.stays.counts.file_faults, two.cause.later);
    rose = λ bad. omega (arith, one.stays.counts.file_faults, two.cause.rose bad);
  };
}

-- a fault that is handed on
pub works_at : (tells : Bool) (cron : Cron) (old new : CronAt) (numbers : List ℕ) (of : StoreFault) (result : Result (Unit {0}) StoreFault)
    →
    IsErrAnd result (λ other. other ≡ of) → CronWorks tells cron old new numbers (Err of) → CronWorks tells cron old new numbers result
works_at tells cron old new numbers of (Ok done) same works = absurd same
works_at tells cron old new numbers of (Err other) same works =
    subst (λ (one : StoreFault). CronWorks tells cron old new numbers (Err one)) (sym same) works

none_distinct : (numbers : List ℕ) → numbers ≡ [] → are_distinct numbers ≡ true
none_distinct numbers none = subst (λ (l : List ℕ). are_distinct l ≡ true) (sym none) refl

-- an answer without its value
abbrev fails_with : StoreFault → Result (Unit {0}) StoreFault
fails_with of = Err of

same_cause : {T : Type 0} (before after : Session) (of : StoreFault) → CallsInside {T = T} fault.FileFault before after (Err of)
    → CallsInside fault.FileFault before after (fails_with of)
same_cause before after of inside =
    record { stays = inside.stays; cause = record { later = inside.cause.later; rose = λ bad. inside.cause.rose (same_fault of bad) } }

module _ (tells : Bool) (cron : Cron) (before between : Session) (old middle : World) (numbers : List ℕ) (none : numbers ≡ []) where
  -- it ends by a fault of reading, and nothing was done
  by_fault : (after : Session) (of : StoreFault) → IsReadingFault of → CallsInside fault.FileFault before after (fails_with of) →
      (tells ≡ true → ChangesFiles (ShowsAsBefore old.now.directory) old middle) →
      ((damage : Damage) → of ≡ fault.Damaged damage → tells ≡ true → CronLeaves cron numbers old middle (Damaged damage)) →
      CronWorks tells cron (record { session = before; world = old }) (record { session = after; world = middle }) numbers (Err of)
  by_fault after fault.FileFault reads inside recovery damaged =
      record {
        inside = inside;
        unread = tt;
        distinct = none_distinct numbers none;
        leaves = λ known. inl (idle_after old middle numbers none (recovery known));
      }
  by_fault after fault.Memory reads inside recovery damaged =
      record {
        inside = inside;
        unread = tt;
        distinct = none_distinct numbers none;
        leaves = λ known. inl (idle_after old middle numbers none (recovery known));
      }
  by_fault after (fault.Damaged damage) reads inside recovery damaged =
      record { inside = inside; unread = none; distinct = none_distinct numbers none; leaves = damaged damage refl }
  by_fault after _ reads inside recovery damaged = absurd reads

  -- The recovery failed.
  pub not_recovered : (of : StoreFault) → IsReadingFault of → CallsInside {T = Kept} fault.FileFault before between (Err of) →
      (tells ≡ true → ChangesFiles (ShowsAsBefore old.now.directory) old middle)
      → (tells ≡ true → Recovered old.now.directory middle.now.directory (Err of)) →
      CronWorks tells cron (record { session = before; world = old }) (record { session = between; world = middle }) numbers (Err of)
  not_recovered of reads inside recovery recovered =
      by_fault between of reads (same_cause before between of inside) recovery
      (λ damage is known. (
        inl (subst (λ (one : StoreFault). Recovered old.now.directory middle.now.directory (Err one)) is (recovered known)),
        idle_after old middle numbers none (recovery known),
      ))

  module _ (kept : Kept) (entered : CallsInside {T = Kept} fault.FileFault before between (Ok kept)) (recovery : tells ≡ true
      → ChangesFiles (ShowsAsBefore old.now.directory) old middle)
      (recovered : tells ≡ true → IsRecovered old.now.directory middle.now.directory kept) (stood : Session) (read : World)
      (looks : tells ≡ true → read ≡ middle) where
    -- as the mark was read, nothing changed
    recovery_on : tells ≡ true → ChangesFiles (ShowsAsBefore old.now.directory) old read
    recovery_on known = subst (ChangesFiles (ShowsAsBefore old.now.directory) old) (sym (looks known)) (recovery known)

    recovered_on : tells ≡ true → IsRecovered old.now.directory read.now.directory kept
    recovered_on known =
        subst (λ (world : World). IsRecovered old.now.directory world.now.directory kept) (sym (looks known)) (recovered known)

    durable_on : tells ≡ true → IsDurableAt mark_temp read.now.directory
    durable_on known = temp_durable old read kept (recovered_on known)

    -- The mark couldn't be read, or is damaged.
    pub not_read : (of : StoreFault) → IsReadingFault of → CallsInside {T = Option ℕ} fault.FileFault between stood (Err of) →
        (tells ≡ true → IfDamaged {T = Option ℕ} fault.Damaged (IsMarkDamage (finite.get (reading middle) mark_file)) (Err of)) →
        CronWorks tells cron (record { session = before; world = old }) (record { session = stood; world = read }) numbers (Err of)
    not_read of reads inside damaged = record {
      inside = works.inside;
      unread = works.unread;
      distinct = works.distinct;
      leaves =
          λ known. subst (λ (world : World). CronLeaves cron numbers old world (cron_end_by of)) (sym (looks known)) (works.leaves known);
    } where
      works : CronWorks tells cron (record { session = before; world = old }) (record { session = stood; world = middle }) numbers (Err of)
      works = by_fault stood of reads
          (same_cause before stood of (calls_then {T = Kept} {U = Option ℕ} fault.FileFault fault.FileFault before between stood (Ok kept)
          (Err of) entered inside)) recovery
          (λ damage is known. mark_damaged cron old middle kept (recovery known) (recovered known) numbers none damage
          (damaged known damage (ap (λ (one : StoreFault). Err one) is)))

    module _ (marked : Option ℕ) (inside : CallsInside {T = Option ℕ} fault.FileFault between stood (Ok marked))
        (mark : tells ≡ true → IsMark (finite.get (reading middle) mark_file) marked) where
      mark_on : tells ≡ true → IsMark (finite.get (reading read) mark_file) marked
      mark_on known = subst (λ (world : World). IsMark (finite.get (reading world) mark_file) marked) (sym (looks known)) (mark known)

      so_far : CallsInside {T = Option ℕ} fault.FileFault before stood (Ok marked)
      so_far =
          calls_then {T = Kept} {U = Option ℕ} fault.FileFault fault.FileFault before between stood (Ok kept) (Ok marked) entered inside

      -- The minute was had already.
      pub marked_already : (minute : ℕ) → marked ≡ Some minute → minute_of cron ≤ minute →
          CronWorks tells cron (record { session = before; world = old }) (record { session = stood; world = read }) numbers (Ok tt)
      marked_already minute is late = record {
        inside = record { stays = so_far.stays; cause = record { later = so_far.cause.later; rose = λ bad. absurd (ok_is_none tt bad) } };
        unread = tt;
        distinct = none_distinct numbers none;
        leaves = λ known.
            inl (quiet_after cron old read kept (recovery_on known) (recovered_on known) numbers none minute
            (subst (IsMark (finite.get (reading read) mark_file)) is (mark_on known)) late);
      }

      -- What is due was submitted, or not.
      pub due_worked : (after : Session) (new : World) (is : List ℕ) (result : Result (Unit {0}) StoreFault)
          → IsMarkedBefore (minute_of cron) marked →
          SubmitsDue tells stood after read new kept cron is result →
          CronWorks tells cron (record { session = before; world = old }) (record { session = after; world = new }) is result
      due_worked after new is result early due = record {
        inside = calls_then {T = Option ℕ} {U = Unit {0}} fault.FileFault fault.FileFault before stood after (Ok marked)
            result so_far due.inside;
        unread = due.unread;
        distinct = due.distinct;
        leaves = λ known.
            due_leaves cron old read kept (recovery_on known) (recovered_on known) marked (mark_on known) early is new result
            (due.leaves known (recovered_on known).table (recovered_on known).current (durable_on known));
      }
