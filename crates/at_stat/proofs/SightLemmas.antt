-- The sessions, by the first one and what comes after it.
use Rattle.std.proofs.Common.{◌≡◌, ℕ, true, List, refl, subst, sym}
use Rattle.std.specs.Prelude.{Option, Some, None, Result, Ok, Err}
use Rattle.at_words.specs.declared.filter.Filter.{Filter}
use Rattle.tool_output.specs.declared.command_error.CommandError.{CommandError}
use Rattle.tool_output.specs.Outside.{Telling}
use Rattle.step_runs.specs.Current.{Kept}
use Rattle.at_stat.specs.declared.session_loop.StatResult.{StatResult}
use Rattle.at_stat.specs.WaitSessions.{ComesAfter, HasSeen, LooksAt, StopsStatAfter, WaitAt, at_later}
use Rattle.at_stat.specs.inside.WaitResults.{Awaits, Sees}

module _ (tells : Telling) (user : List ℕ) (wait : Option ℕ) (which : Filter) (old start new : WaitAt) (seen : Kept)
    (first : LooksAt tells user which old start (Ok seen)) where
  -- the ends of jobs are waited for
  pub sees_after : (turns : ℕ) (result : Result StatResult CommandError) → wait ≡ Some turns
      → Awaits tells user turns which seen start new result
      → Sees tells user wait which old new result
  sees_after turns (Ok sight) is awaits = record {
    seen = seen;
    start = start;
    first = first;
    later = subst (λ (one : Option ℕ). ComesAfter tells user one which seen start new sight.store sight.finished) (sym is) awaits;
  }
  sees_after turns (Err stopped) is awaits =
      at_later seen start first (subst (λ (one : Option ℕ). StopsStatAfter tells user one which seen start new stopped) (sym is) awaits)

-- they are not
pub sees_once : (tells : Telling) (user : List ℕ) (wait : Option ℕ) (which : Filter) (old new : WaitAt) (seen : Kept)
    → LooksAt tells user which old new (Ok seen) → wait ≡ None → HasSeen tells user wait which old new seen true
sees_once tells user wait which old new seen first is = record {
  seen = seen;
  start = new;
  first = first;
  later = subst (λ (one : Option ℕ). ComesAfter tells user one which seen new new seen true) (sym is) (refl, refl, refl);
}
