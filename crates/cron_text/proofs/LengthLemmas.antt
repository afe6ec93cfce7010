-- No command is longer than its text.
use Rattle.std.proofs.Common.{◌≡◌, ◌∙◌, ℕ, ◌+◌, ◌≤◌, ◌==◌, Bool, true, false, cond, List, [], ◌∷◌, length, length-append, refl, ap, arith}
use Rattle.std.proofs.lemmas.List.Elements.{All-nil, All-cons, All-head, All-tail, All-same, All-weaker}
use Rattle.std.proofs.lemmas.List.Splits.{slice_split-cons_yes, slice_split-cons_no}
use Rattle.std.specs.List.{All, onto_first}
use Rattle.text_reader.specs.Blanks.{after_blanks, is_blank}
use Rattle.text_reader.specs.Lines.{lines_of}
use Rattle.cron_text.specs.Crontab.{AreCrontabLines, no_line, ignored, an_entry, SpellsCrontab}
use Rattle.cron_text.specs.Entry.{BeginsWithField, SpellsEntry}
use Rattle.cron_text.specs.declared.entry.CronEntry.{CronEntry}
use Rattle.cron_text.specs.declared.field.Field.{Field}

after_blanks-few : (bytes : List ℕ) → length (after_blanks bytes) ≤ length bytes
after_blanks-few [] = omega arith
after_blanks-few (byte ∷ bytes) = go (is_blank byte) (after_blanks-few bytes)
  where
    go : (blank : Bool) → length (after_blanks bytes) ≤ length bytes
        → length (cond blank (after_blanks bytes) (byte ∷ bytes)) ≤ length (byte ∷ bytes)
    go true few = omega arith
    go false few = omega arith

rest-few : (low high : ℕ) (text : List ℕ) (field : Field) (rest : List ℕ) → BeginsWithField low high text field rest
    → length rest ≤ length text
rest-few low high text field rest begins =
    let few = after_blanks-few begins.others in
    let all : length text ≡ length begins.pattern + length (begins.blank ∷ begins.others) = ap length begins.spelled
    ∙ length-append begins.pattern (begins.blank ∷ begins.others) in
    let same : length rest ≡ length (after_blanks begins.others) = ap length begins.rest_is in
    omega arith

command-few : (line : List ℕ) (entry : CronEntry) → SpellsEntry line entry → length entry.command ≤ length line
command-few line entry spelled =
    let first = after_blanks-few line in
    let minute = rest-few 0 59 (after_blanks line) entry.minute spelled.after_minute spelled.minute in
    let hour = rest-few 0 23 spelled.after_minute entry.hour spelled.after_hour spelled.hour in
    let day = rest-few 1 31 spelled.after_hour entry.day spelled.after_day spelled.day in
    let month = rest-few 1 12 spelled.after_day entry.month spelled.after_month spelled.month in
    let weekday = rest-few 0 6 spelled.after_month entry.weekday entry.command spelled.weekday in
    omega arith

-- the line has so many bytes at most
abbrev HasFew : ℕ → List ℕ → Type 0
HasFew most line = length line ≤ most

-- the entry's command has so many bytes at most
abbrev pub HasFewInCommand : ℕ → CronEntry → Type 0
HasFewInCommand most entry = length entry.command ≤ most

first-few : (byte most more : ℕ) (parts : List (List ℕ)) → most + 1 ≤ more → All (HasFew most) parts
    → All (HasFew more) (onto_first byte parts)
first-few byte most more [] greater few = All-cons (HasFew more) (byte ∷ []) [] (omega arith) (All-nil (HasFew more))
first-few byte most more (part ∷ parts) greater few =
    let first : length part ≤ most = All-head (HasFew most) part parts few in
    let here : length (byte ∷ part) ≤ more = omega arith in
    All-cons (HasFew more) (byte ∷ part) parts here
    (All-weaker (HasFew most) (HasFew more) (λ line less. omega arith) parts (All-tail (HasFew most) part parts few))

lines-few : (text : List ℕ) → All (HasFew (length text)) (lines_of text)
lines-few [] = All-cons (HasFew 0) [] [] (omega arith) (All-nil (HasFew 0))
lines-few (byte ∷ text) = go (byte == 10) refl (lines-few text)
  where
    go : (newline : Bool) → (byte == 10) ≡ newline → All (HasFew (length text)) (lines_of text)
        → All (HasFew (length (byte ∷ text))) (lines_of (byte ∷ text))
    go true e few =
        All-same (HasFew (length (byte ∷ text))) (lines_of (byte ∷ text)) ([] ∷ lines_of text)
        (slice_split-cons_yes (λ (b : ℕ). b == 10) byte text e)
        (All-cons (HasFew (length (byte ∷ text))) [] (lines_of text) (omega arith)
        (All-weaker (HasFew (length text)) (HasFew (length (byte ∷ text))) (λ line less. omega arith) (lines_of text) few))
    go false e few =
        All-same (HasFew (length (byte ∷ text))) (lines_of (byte ∷ text)) (onto_first byte (lines_of text))
        (slice_split-cons_no (λ (b : ℕ). b == 10) byte text e)
        (first-few byte (length text) (length (byte ∷ text)) (lines_of text) (omega arith) few)

entries-few : (most : ℕ) (lines : List (List ℕ)) (entries : List CronEntry) → All (HasFew most) lines → AreCrontabLines lines entries
    → All (HasFewInCommand most) entries
entries-few most [] [] few no_line = All-nil (HasFewInCommand most)
entries-few most [] (entry ∷ entries) few are = elim are [ ]
entries-few most (line ∷ lines) entries few (ignored _ is_ignored are) =
    entries-few most lines entries (All-tail (HasFew most) line lines few) are
entries-few most (line ∷ lines) (entry ∷ entries) few (an_entry _ _ spelled are) =
    let first : length line ≤ most = All-head (HasFew most) line lines few in
    let command = command-few line entry spelled in
    let here : length entry.command ≤ most = omega arith in
    All-cons (HasFewInCommand most) entry entries here (entries-few most lines entries (All-tail (HasFew most) line lines few) are)

pub crontab-few : (text : List ℕ) (entries : List CronEntry) → SpellsCrontab text entries → All (HasFewInCommand (length text)) entries
crontab-few text entries spelled = entries-few (length text) (lines_of text) entries (lines-few text) spelled
