-- What a store keeps of a table decides as the table does.
use Rattle.std.proofs.Common.{◌≡◌, Bool, true, false, cond, ℕ, List, [], ◌∷◌, ap, ◌∙◌, refl, inl, inr}
use Rattle.std.specs.Prelude.{Option, Some, None, Ok, map, nat_le, option_and_then, option_map}
use Rattle.at_words.specs.declared.filter.Filter.TheVariants as filter
use Rattle.at_words.specs.declared.tool_request.ToolRequest.{ToolRequest}
use Rattle.at_words.specs.declared.tool_request.ToolRequest.TheVariants as request
use Rattle.step_runs.specs.WithoutScripts.{without_scripts, entry_without_script}
use Rattle.step_runs.proofs.WithoutScriptsLemmas.{entries_are_without_scripts}
use Rattle.step_runs.proofs.ListLemmas.{lists_as_on_the_table}
use Rattle.listing_text.specs.declared.refusal.Refusal.{Refusal}
use Rattle.listing_text.specs.declared.refusal.Refusal.TheVariants.{NumbersUsedUp, QueueFull}
use Rattle.spool_model.specs.declared.number.TheConstants.{LAST_NUMBER}
use Rattle.spool_model.specs.declared.row.TheConstants.{MAX_LIVE}
use Rattle.spool_model.specs.declared.entry.Entry.TheVariants.{Live, Done}
use Rattle.spool_model.specs.JobTable.{JobEntry, JobTable, entry_at}
use Rattle.spool_model.specs.Lists.{row_under}
use Rattle.tool_output.specs.declared.caller.Caller.{Caller}
use Rattle.command_rules.specs.Sessions.{IsKeptOf}
use Rattle.command_rules.specs.Verdict.{first_refusal, jobs_check, number_check, room_check, live_row, row_check, table_verdict}

without_scripts_last : (table : JobTable) → (without_scripts table).last ≡ table.last
unfolding without_scripts
without_scripts_last table = refl

-- the row of an entry has no script
row_without_scripts : (number : ℕ) (entry : Option JobEntry)
    → option_and_then (row_under number) (option_map entry_without_script entry) ≡ option_and_then (row_under number) entry
row_without_scripts number None = refl
row_without_scripts number (Some (Live job state)) = refl
row_without_scripts number (Some (Done fate)) = refl

pub row_at-without_scripts : (table : JobTable) (number : ℕ) → live_row (without_scripts table) number ≡ live_row table number
row_at-without_scripts table number = ap (option_and_then (row_under number)) (entries_are_without_scripts table number)
    ∙ row_without_scripts number (entry_at table number)

-- the check of numbers
pub jobs_check-without_scripts : (user : List ℕ) (removing : Bool) (table : JobTable) (numbers : List ℕ) →
    jobs_check user removing (without_scripts table) numbers ≡ jobs_check user removing table numbers
jobs_check-without_scripts user removing table [] = refl
jobs_check-without_scripts user removing table (number ∷ later) =
    ap (λ row. first_refusal (row_check user removing number row
    ∷ map (λ of. row_check user removing of (live_row (without_scripts table) of)) later)) (row_at-without_scripts table number)
    ∙ first_of-same (row_check user removing number (live_row table number))
    (map (λ of. row_check user removing of (live_row (without_scripts table) of)) later)
    (map (λ of. row_check user removing of (live_row table of)) later) (jobs_check-without_scripts user removing table later) where
      first_of-same : (one : Option Refusal) (some other : List (Option Refusal)) → first_refusal some ≡ first_refusal other →
          first_refusal (one ∷ some) ≡ first_refusal (one ∷ other)
      first_of-same None some other same = same
      first_of-same (Some refusal) some other same = refl

-- the verdict on the table
without_scripts_decides : (asked : ToolRequest) (caller : Caller) (table : JobTable)
    → table_verdict asked caller (Ok (without_scripts table)) ≡ table_verdict asked caller (Ok table)
without_scripts_decides (request.Submit queue mail file when) caller table =
    ap (λ count. first_refusal (cond (nat_le MAX_LIVE count) (Some QueueFull) None ∷ number_check (without_scripts table) ∷ []))
    (lists_as_on_the_table table).live_counted
    ∙ ap (λ last. first_refusal (room_check table ∷ cond (nat_le LAST_NUMBER last) (Some NumbersUsedUp) None ∷ []))
    (without_scripts_last table)
without_scripts_decides (request.List filter.All) caller table = refl
without_scripts_decides (request.List (filter.Queue letter)) caller table = refl
without_scripts_decides (request.List (filter.Numbers numbers)) caller table =
    ap (λ one. first_refusal (one ∷ [])) (jobs_check-without_scripts caller.context.user false table numbers)
without_scripts_decides (request.Remove numbers) caller table =
    ap (λ one. first_refusal (one ∷ [])) (jobs_check-without_scripts caller.context.user true table numbers)
without_scripts_decides (request.Show numbers) caller table =
    ap (λ one. first_refusal (one ∷ [])) (jobs_check-without_scripts caller.context.user false table numbers)
without_scripts_decides (request.Daemon limit interval once turns) caller table = refl
without_scripts_decides (request.Make count) caller table = refl

pub kept_decides : (asked : ToolRequest) (caller : Caller) (kept table : JobTable) → IsKeptOf kept table →
    table_verdict asked caller (Ok kept) ≡ table_verdict asked caller (Ok table)
kept_decides asked caller kept table either = elim either [
  | inl is ↦ ap (λ (of : JobTable). table_verdict asked caller (Ok of)) is ∙ without_scripts_decides asked caller table
  | inr same ↦ ap (λ (of : JobTable). table_verdict asked caller (Ok of)) same
]

-- what is kept has the last number of the table
pub kept_last : (kept table : JobTable) → IsKeptOf kept table → kept.last ≡ table.last
kept_last kept table either = elim either [
  | inl is ↦ ap (λ (of : JobTable). of.last) is ∙ without_scripts_last table
  | inr same ↦ ap (λ (of : JobTable). of.last) same
]
