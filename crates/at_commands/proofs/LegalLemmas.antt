-- Removals of different numbers are legal one after another.
use Rattle.std.proofs.Common.{ℕ, List, [], ◌∷◌, inl, inr, subst, ◌∙◌, refl}
use Rattle.spool_model.specs.declared.entry.Entry.TheVariants.{Done}
use Rattle.spool_model.specs.declared.fate.Fate.TheVariants.{Removed}
use Rattle.spool_model.specs.declared.step.Step.TheVariants as step
use Rattle.spool_model.specs.JobTable.{IsPending, JobTable}
use Rattle.spool_model.specs.Steps.{AreLegal, after_step}
use Rattle.spool_model.proofs.TableLemmas.{get-put_other}
use Rattle.spool_shows.proofs.Membership.{Has}
use Rattle.step_runs.proofs.ApartLemmas.{Apart}
use Rattle.command_rules.specs.Requested.{removes}

-- jobs of different numbers that are pending are removed one after another
pub removes_legal : (table : JobTable) (numbers : List ℕ) → Apart numbers → ((number : ℕ) → Has numbers number → IsPending table number) →
    AreLegal table (removes numbers)
removes_legal table [] apart each = tt
removes_legal table (number ∷ later) apart each = (
  each number (inl refl),
  removes_legal (after_step table (step.Remove number)) later apart.1
      (λ other has. (let is : IsPending table other = each other (inr has) in
      (is.0, get-put_other table.entries number other (Done Removed) (λ same. apart.0 (subst (Has later) same has)) ∙ is.1))),
)
