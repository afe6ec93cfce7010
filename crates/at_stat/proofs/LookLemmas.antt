-- A session that looks, by its parts.
use Rattle.std.proofs.Common.{List, ℕ, inl, inr}
use Rattle.std.specs.Prelude.{Result}
use Rattle.std.specs.Fn.{CalledAtMut}
use Rattle.at_words.specs.declared.filter.Filter.{Filter}
use Rattle.tool_output.specs.Causes.{cause_in}
use Rattle.tool_output.specs.declared.command_error.CommandError.{CommandError}
use Rattle.host_calls.specs.declared.host.Host.{Ghosts}
use Rattle.host_calls.specs.SessionWork.{Calls}
use Rattle.spool_session.specs.Sessions.{EndsCommandSession, HasRisenIn, StaysQuiet}
use Rattle.step_runs.specs.Current.{Kept}
use Rattle.at_stat.specs.OneLook.{LooksAtJobs, LooksInside, stat_spool_at}

module _ {H F : Type 0} (g : Ghosts H) (calls : Calls H F (Result Kept CommandError)) (work left : F) (old new : H)
    (result : Result Kept CommandError)
    (user : List ℕ) (which : Filter) where
  -- the session could not begin, or the work was done in it
  pub looks_of_session : StaysQuiet g old new → HasRisenIn g old new (cause_in result) → EndsCommandSession g calls work left old new result
      → ((first last : H) → CalledAtMut calls work first result left last
      → LooksInside g.tells user which (g.world first) (g.world last) result)
      → LooksAtJobs g.tells g.alone user which (stat_spool_at (g.session old) (g.world old))
      (stat_spool_at (g.session new) (g.world new)) result
  looks_of_session quiet faults ends within = record {
    left = quiet.left;
    goes_on = quiet.goes_on;
    file_fault = faults.file_fault;
    busy = faults.busy;
    looks = elim ends [
      | inl none ↦ inl (record { fault = none.fault; is = none.is; same = none.undone.refused.quiet.alone })
      | inr done ↦ inr (record {
        entered = g.world done.first;
        left = g.world done.last;
        begun = done.begun.quiet.goes_on;
        begun_alone = done.begun.quiet.alone;
        inside = within done.first done.last done.did;
        over = done.quiet.goes_on;
        over_alone = done.quiet.alone;
      })
    ];
  }
