-- The minutes at which an entry is due, one after another.
use Rattle.std.proofs.Common.{◌≡◌, ◌≤◌, ◌<◌, ◌+◌, ◌-◌, ◌++◌, [], ◌∷◌, ℕ, List, Contains, Option, Some, None, nat_lt, length, true, false, Bool, if◌then◌else◌, refl, sym, ap, subst, arith, inl, inr, ◌∙◌, length-append}
use Rattle.std.proofs.lemmas.Bool.{cases_lt}
use Rattle.std.proofs.lemmas.List.Elements.{All-nil, All-push, All-weaker, Contains-append_left, Contains-push}
use Rattle.std.proofs.lemmas.List.Quantifiers.{all_pairs_push}
use mathlib.Core.Logic.{⊎_elim}
use Rattle.civil_minute.specs.declared.zone.Zone.{Zone}
use Rattle.cron_text.specs.declared.entry.CronEntry.{CronEntry}
use Rattle.std.proofs.lemmas.Bool.Decides.{nat_tests}
use Rattle.host_calls.specs.declared.clock_seconds.TheConstants.{LAST_MINUTE}
use Rattle.cron_turn.specs.declared.next.TheConstants.{SEARCHED_MINUTES}
use Rattle.cron_turn.specs.Schedule.{AreDueWithin, AreNextDue, IsDueWithin, IsNotDueWithin, end_of_search}
use Rattle.cron_turn.specs.inside.Dates.{IsFirstDue}

-- the first part of an idle stretch is one
pub idle_up_to : (zone : Zone) (entry : CronEntry) (from middle end : ℕ) → middle ≤ end → IsNotDueWithin zone entry from end
    → IsNotDueWithin zone entry from middle
idle_up_to zone entry from middle end few idle minute late early due = idle minute late (omega (arith, few, early)) due

module _ (zone : Zone) (entry : CronEntry) (from : ℕ) where
  -- none was found yet
  pub none_found : AreDueWithin zone entry from from []
  none_found = record {
    ascending = λ i j d less within. absurd (omega (arith, within));
    due = All-nil (IsDueWithin zone entry from from);
    all = λ minute due. absurd (omega (arith, due.late, due.early));
  }

  -- there is no other up to an end
  pub no_more : (now end : ℕ) (minutes : List ℕ) → AreDueWithin zone entry from now minutes → now ≤ end → IsNotDueWithin zone entry now end
      → AreDueWithin zone entry from end minutes
  no_more now end minutes has few idle = record {
    ascending = has.ascending;
    due = All-weaker (IsDueWithin zone entry from now) (IsDueWithin zone entry from end)
        (λ minute due. record { late = due.late; early = omega (arith, due.early, few); due = due.due }) minutes has.due;
    all = λ minute due. ⊎_elim
        (λ lt. has.all minute (record { late = due.late; early = lt; due = due.due }))
        (λ ge. absurd (idle minute ge due.early due.due))
        (cases_lt minute now);
  }

  -- the next one
  pub one_more : (now end found : ℕ) (minutes : List ℕ) → AreDueWithin zone entry from now minutes → from ≤ now
      → IsDueWithin zone entry now end found → IsNotDueWithin zone entry now found
      → AreDueWithin zone entry from (found + 1) (minutes ++ found ∷ [])
  one_more now end found minutes has after is idle =
      let before = no_more now found minutes has is.late idle in
      record {
        ascending = all_pairs_push (λ first second. first < second) minutes found has.ascending (λ k d lt. (before.due k d lt).early);
        due = All-push (IsDueWithin zone entry from (found + 1))
            minutes found
            (All-weaker (IsDueWithin zone entry from found) (IsDueWithin zone entry from (found + 1))
            (λ minute due. record { late = due.late; early = omega (arith, due.early); due = due.due }) minutes before.due)
            (record { late = omega (arith, after, is.late); early = omega arith; due = is.due });
        all = λ minute due. ⊎_elim
            (λ lt.
            Contains-append_left minutes (found ∷ []) minute (before.all minute (record { late = due.late; early = lt; due = due.due })))
            (λ ge. subst (Contains (minutes ++ found ∷ [])) (omega (arith, ge, due.early)) (Contains-push minutes found))
            (cases_lt minute found);
      }

end_by : (from : ℕ) (late : Bool) → nat_lt (LAST_MINUTE - SEARCHED_MINUTES) from ≡ late → from ≤ LAST_MINUTE + 1
    → (from ≤ end_of_search from) × (end_of_search from ≤ LAST_MINUTE + 1)
end_by from true is few = rw is (few, omega arith)
end_by from false is few =
    let early : from ≤ LAST_MINUTE - SEARCHED_MINUTES = grind (arith, nat_tests) in
    rw is (omega arith, omega (arith, early))

-- the search ends after its start, and within the range of the clock
pub end_bounds : (from : ℕ) → from ≤ LAST_MINUTE + 1 → (from ≤ end_of_search from) × (end_of_search from ≤ LAST_MINUTE + 1)
end_bounds from few = end_by from (nat_lt (LAST_MINUTE - SEARCHED_MINUTES) from) refl few

-- What is known while the search goes on: the minutes up to now, and how many there are.
pub record Found (zone : Zone) (entry : CronEntry) (from now end count : ℕ) (minutes : List ℕ) : Type 0 where
  pub late : from ≤ now
  pub early : now ≤ end
  pub counted : length minutes ≡ count
  pub are : AreDueWithin zone entry from now minutes

module _ (zone : Zone) (entry : CronEntry) (from : ℕ) where
  -- at its start
  pub found_none : (end : ℕ) (minutes : List ℕ) → from ≤ LAST_MINUTE + 1 → end ≡ end_of_search from → minutes ≡ []
      → Found zone entry from from end 0 minutes
  found_none end minutes few is none = record {
    late = omega arith;
    early = subst (λ at. from ≤ at) (sym is) (end_bounds from few).0;
    counted = ap length none;
    are = subst (AreDueWithin zone entry from from) (sym none) (none_found zone entry from);
  }

  -- and with one minute more
  pub found_more : (now end count minute : ℕ) (minutes after : List ℕ) (next : Option ℕ) → Found zone entry from now end count minutes
      → IsFirstDue zone entry now end next
      → next ≡ Some minute → after ≡ minutes ++ minute ∷ [] → Found zone entry from (minute + 1) end (count + 1) after
  found_more now end count minute minutes after next has first is pushed =
      let is_first : IsFirstDue zone entry now end (Some minute) = subst (IsFirstDue zone entry now end) is first in
      record {
        late = omega (arith, has.late, is_first.0.late);
        early = omega (arith, is_first.0.early);
        counted = ap length pushed ∙ omega (arith, length-append minutes (minute ∷ []), has.counted);
        are = subst (AreDueWithin zone entry from (minute + 1)) (sym pushed)
            (one_more zone entry from now end minute minutes has.are has.late is_first.0 is_first.1);
      }

  -- where there is no other
  pub found_all : (now end count most : ℕ) (minutes : List ℕ) (next : Option ℕ) → Found zone entry from now end count minutes
      → IsFirstDue zone entry now end next → next ≡ None
      → end ≡ end_of_search from → count ≤ most → AreNextDue zone entry from most minutes
  found_all now end count most minutes next has first is end_is few = record {
    end = end;
    within = omega (arith, end_is);
    are = no_more zone entry from now end minutes has.are has.early (subst (IsFirstDue zone entry now end) is first);
    few = omega (arith, has.counted, few);
    enough = inr end_is;
  }

  -- and where there are as many as are wanted
  pub found_enough : (now end count most : ℕ) (minutes : List ℕ) → Found zone entry from now end count minutes → end ≡ end_of_search from
      → count ≡ most → AreNextDue zone entry from most minutes
  found_enough now end count most minutes has end_is all = record {
    end = now;
    within = omega (arith, has.early, end_is);
    are = has.are;
    few = omega (arith, has.counted, all);
    enough = inl (has.counted ∙ all);
  }
