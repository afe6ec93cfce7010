-- What is due at a minute: the commands aren't too long, and their jobs are those of the entries.
use Rattle.std.proofs.Common.{◌≡◌, ◌∙◌, ◌<◌, ◌≤◌, ◌+◌, ℕ, Bool, true, cond, All, List, [], ◌∷◌, ◌++◌, filter, get_or, length, map, take, refl, sym, ap, arith}
use Rattle.std.proofs.lemmas.List.{map-append, take_more}
use Rattle.std.proofs.lemmas.List.Elements.{filter-append, All-filter, All-map, All-weaker}
use Rattle.civil_minute.specs.declared.civil.CivilMinute.{CivilMinute}
use Rattle.cron_minutes.specs.Commands.{commands}
use Rattle.cron_minutes.proofs.LengthLemmas.{commands_length}
use Rattle.cron_minutes.specs.Due.{is_entry_due}
use Rattle.cron_text.specs.declared.crontab.TheConstants.{MAX_CRONTAB}
use Rattle.cron_text.specs.declared.entry.CronEntry.{CronEntry}
use Rattle.job_script.specs.declared.writer.TheConstants.{MAX_COMMANDS}
use Rattle.spool_model.specs.declared.job.Job.{Job}
use Rattle.cron_session.specs.Steps.{Cron, job_of_entry, minute_of}
use Rattle.cron_session.specs.inside.Due.{cron_jobs, due_commands}

-- so no commands of an entry are too long
pub commands_are_short : (entry : CronEntry) → length entry.command ≤ MAX_CRONTAB → length (commands entry.command) ≤ MAX_COMMANDS
commands_are_short entry few = omega (arith, few, commands_length entry.command)

pub due_are_short : (entries : List CronEntry) (civil : CivilMinute) → All (λ entry. length entry.command ≤ MAX_CRONTAB) entries →
    All (λ of. length of ≤ MAX_COMMANDS) (due_commands entries civil)
due_are_short entries civil few =
    All-map (λ (of : List ℕ). length of ≤ MAX_COMMANDS) (λ (entry : CronEntry). commands entry.command)
    (filter (λ (entry : CronEntry). is_entry_due entry civil) entries)
    (All-filter (λ (entry : CronEntry). is_entry_due entry civil)
    (λ (entry : CronEntry). length (commands entry.command) ≤ MAX_COMMANDS) entries
    (All-weaker (λ (entry : CronEntry). length entry.command ≤ MAX_CRONTAB)
    (λ (entry : CronEntry). length (commands entry.command) ≤ MAX_COMMANDS) commands_are_short entries few))

-- The jobs of what is due are those of the entries.

jobs_of : (cron : Cron) (due : List CronEntry) →
    cron_jobs cron.context (minute_of cron) (map (λ (entry : CronEntry). commands entry.command) due) ≡ map (job_of_entry cron) due
jobs_of cron [] = refl
jobs_of cron (entry ∷ later) = ap (λ (jobs : List Job). job_of_entry cron entry ∷ jobs) (jobs_of cron later)

pub jobs_are_due : (cron : Cron) (civil : CivilMinute) →
    cron_jobs cron.context (minute_of cron) (due_commands cron.entries civil)
    ≡ map (job_of_entry cron) (filter (λ (entry : CronEntry). is_entry_due entry civil) cron.entries)
jobs_are_due cron civil = jobs_of cron (filter (λ (entry : CronEntry). is_entry_due entry civil) cron.entries)

-- One more entry.

due_join : (civil : CivilMinute) (first later : List CronEntry)
    → due_commands (first ++ later) civil ≡ due_commands first civil ++ due_commands later civil
due_join civil first later =
    ap (map (λ (one : CronEntry). commands one.command)) (filter-append (λ (one : CronEntry). is_entry_due one civil) first later)
    ∙ map-append (λ (one : CronEntry). commands one.command) (filter (λ (one : CronEntry). is_entry_due one civil) first)
    (filter (λ (one : CronEntry). is_entry_due one civil) later)

pub due_more : (entries : List CronEntry) (civil : CivilMinute) (place : ℕ) (entry : CronEntry) (due more : List (List ℕ))
    → place < length entries → entry ≡ get_or entries place entry →
    due ≡ due_commands (take place entries) civil → more ≡ due ++ due_commands (entry ∷ []) civil
    → more ≡ due_commands (take (place + 1) entries) civil
due_more entries civil place entry due more inside is so_far put =
    put ∙ ap (λ (l : List (List ℕ)). l ++ due_commands (entry ∷ []) civil) so_far ∙ sym (due_join civil (take place entries) (entry ∷ []))
    ∙ ap (λ (some : List CronEntry). due_commands some civil)
    (sym (take_more entries place entry inside ∙ ap (λ (one : CronEntry). take place entries ++ one ∷ []) (sym is)))

pub put_one : (entry : CronEntry) (civil : CivilMinute) (due more : List (List ℕ)) (of : List ℕ) → is_entry_due entry civil ≡ true
    → of ≡ commands entry.command → more ≡ due ++ of ∷ [] →
    more ≡ due ++ due_commands (entry ∷ []) civil
put_one entry civil due more of test made pushed =
    pushed ∙ ap (λ (one : List ℕ). due ++ one ∷ []) made
    ∙ ap (λ (b : Bool). due ++ map (λ (one : CronEntry). commands one.command) (cond b (entry ∷ []) [])) (sym test)
