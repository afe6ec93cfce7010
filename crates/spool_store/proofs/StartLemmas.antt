-- The check of starts, mark by mark.
use Rattle.std.proofs.Common.{◌≡◌, ℕ, ℤ, ◌+◌, ◌*◌, ◌<◌, Bool, true, false, cond, List, Option, Some, None, length, get_or, drop, map, sym, ap, ◌∙◌, refl}
use Rattle.std.specs.Prelude.{◌==◌, is_some, option_map}
use Rattle.std.specs.Option.{option_or}
use Rattle.std.proofs.lemmas.List.{drop_more}
use Rattle.host_calls.specs.declared.damage.Damage.{Damage}
use Rattle.spool_model.specs.declared.row.Row.{Row}
use Rattle.start_journal.specs.declared.lifecycles.Lifecycle.{Lifecycle}
use Rattle.start_journal.specs.declared.lifecycles.Lifecycles.{Lifecycles}
use Rattle.start_journal.specs.declared.mark.Mark.{Mark}
use Rattle.start_journal.specs.declared.mark.Mark.TheVariants.{Started}
use Rattle.start_journal.specs.Journals.{journal_file}
use Rattle.start_journal.specs.Lifecycles.{TellLifecycles, lifecycle_in}
use Rattle.start_journal.specs.Marks.{is_decided}
use Rattle.start_journal.proofs.LifecycleLemmas.{decided_has_fate}
use Rattle.spool_shows.specs.JobFiles.{JobFile, file_of}
use Rattle.spool_shows.specs.Shown.{mark_damage, start_damage, starts_damage}
use Rattle.spool_shows.proofs.ShownEntries.{fails_other, some_same}
use Rattle.spool_shows.proofs.StartLemmas.{number_passes}
use Rattle.spool_model.specs.declared.entry.Entry.TheVariants.{Live, Done}
use Rattle.spool_model.specs.JobTable.{JobEntry}
use Rattle.spool_store.specs.Listed.{entry_under}
use Rattle.spool_store.specs.Rows.{row_entry}
use Rattle.spool_store.specs.inside.JobRows.{ListsRows, rows_by_number, row_of}
use Rattle.spool_store.proofs.TableLemmas.{find_rows, rows_keyed, unnumbered}

-- what is kept of a number says whether it is finished
pub life_decides : (marks : List Mark) (lives : Lifecycles) (number : ℕ) (life : Lifecycle) (test : Bool) → TellLifecycles marks lives
    → life ≡ lifecycle_in lives number → is_some life.fate ≡ test → is_decided number marks ≡ test
life_decides marks lives number life test tells is fated =
    decided_has_fate number marks ∙ ap (λ (l : Lifecycle). is_some l.fate) (sym (is ∙ tells.1 number)) ∙ fated

pub start_decided : (marks : List Mark) (files : List JobFile) (place number queue : ℕ) (second : ℤ) → is_decided number marks ≡ true
    → None ≡ mark_damage marks files place (Started number queue second)
start_decided marks files place number queue second is = sym (ap (λ b. cond b None (start_damage place queue (file_of number files))) is)

pub start_open : (marks : List Mark) (files : List JobFile) (place number queue : ℕ) (second : ℤ) → is_decided number marks ≡ false
    → start_damage place queue (file_of number files) ≡ mark_damage marks files place (Started number queue second)
start_open marks files place number queue second is = sym (ap (λ b. cond b None (start_damage place queue (file_of number files))) is)

-- the entry of a file, without its script
abbrev file_entry : List Mark → Option JobFile → Option JobEntry
file_entry marks found = option_map (λ (row : Row). (row_entry row).1) (option_map (row_of marks) found)

-- rows give the entries of their files
pub rows_tell : (marks : List Mark) (files : List JobFile) (rows : List Row) (number : ℕ) → ListsRows marks files rows
    → entry_under (map row_entry rows) number ≡ file_entry marks (file_of number files)
rows_tell marks files rows number lists =
    ap (λ list. entry_under (map row_entry list) number) (sym (unnumbered rows))
    ∙ find_rows number (rows_by_number rows) (rows_keyed marks files (rows_by_number rows) lists.are lists.rise)
    ∙ ap (option_map (λ (row : Row). (row_entry row).1)) (lists.are number)

abbrev queue_in : JobEntry → ℕ
queue_in (Live job state) = job.queue
queue_in (Done fate) = 0

-- no row, no file
pub start_lost : (marks : List Mark) (place queue : ℕ) (found : Option JobFile) → None ≡ file_entry marks found
    → ◌≡◌ {A = Option Damage} (Some (record { name = journal_file; offset = 32 * place; byte = Some 43 })) (start_damage place queue found)
start_lost marks place queue None is = refl
start_lost marks place queue (Some file) is = cc

-- a row of this queue
pub start_here : (marks : List Mark) (place queue : ℕ) (found : Option JobFile) (row : Row)
    → Some (row_entry row).1 ≡ file_entry marks found → row.queue ≡ queue → None ≡ start_damage place queue found
start_here marks place queue None row is same = cc
start_here marks place queue (Some file) row is same =
    let here : (file.job.queue == queue) ≡ true = number_passes file.job.queue queue (sym (ap queue_in (some_same is)) ∙ same) in
    sym
    (ap (λ b. cond {A = Option Damage} b None (Some (record { name = journal_file; offset = 32 * place + 10; byte = Some queue }))) here)

-- a row of another queue
pub start_elsewhere : (marks : List Mark) (place queue : ℕ) (found : Option JobFile) (row : Row)
    → Some (row_entry row).1 ≡ file_entry marks found → ¬ (row.queue ≡ queue) → ◌≡◌ {A = Option Damage}
    (Some (record { name = journal_file; offset = 32 * place + 10; byte = Some queue })) (start_damage place queue found)
start_elsewhere marks place queue None row is differ = cc
start_elsewhere marks place queue (Some file) row is differ =
    let other : (file.job.queue == queue) ≡ false = fails_other file.job.queue queue (λ same. differ (ap queue_in (some_same is) ∙ same)) in
    sym
    (ap (λ b. cond {A = Option Damage} b None (Some (record { name = journal_file; offset = 32 * place + 10; byte = Some queue }))) other)

-- the damage of starts, with the next mark first
next_start : (marks : List Mark) (files : List JobFile) (place : ℕ) (mark : Mark)
    → place < length marks → starts_damage marks files place (drop place marks)
    ≡ option_or (mark_damage marks files place (get_or marks place mark)) (starts_damage marks files (place + 1) (drop (place + 1) marks))
next_start marks files place mark inside = ap (starts_damage marks files place) (drop_more marks place mark inside)

some_first : {X : Type 0} → (one other : Option X) → is_some one ≡ true → option_or one other ≡ one
some_first None other is = cc
some_first (Some x) other is = refl

none_first : {X : Type 0} → (one other : Option X) → is_some one ≡ false → option_or one other ≡ other
none_first None other is = refl
none_first (Some x) other is = cc

pub starts_found : (marks : List Mark) (files : List JobFile) (place : ℕ) (mark : Mark) (fault : Option Damage) → place < length marks
    → fault ≡ mark_damage marks files place (get_or marks place mark) → is_some fault ≡ true
    → starts_damage marks files 0 marks ≡ starts_damage marks files place (drop place marks) → fault ≡ starts_damage marks files 0 marks
starts_found marks files place mark fault inside is some before =
    sym (before ∙ next_start marks files place mark inside
    ∙ ap (λ d. option_or d (starts_damage marks files (place + 1) (drop (place + 1) marks))) (sym is) ∙ some_first fault _ some)

pub starts_pass : (marks : List Mark) (files : List JobFile) (place : ℕ) (mark : Mark) (fault : Option Damage) → place < length marks
    → fault ≡ mark_damage marks files place (get_or marks place mark) → is_some fault ≡ false
    → starts_damage marks files 0 marks ≡ starts_damage marks files place (drop place marks)
    → starts_damage marks files 0 marks ≡ starts_damage marks files (place + 1) (drop (place + 1) marks)
starts_pass marks files place mark fault inside is none before =
    before ∙ next_start marks files place mark inside
    ∙ ap (λ d. option_or d (starts_damage marks files (place + 1) (drop (place + 1) marks))) (sym is) ∙ none_first fault _ none
