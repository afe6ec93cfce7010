-- The text of a crontab (POSIX.1-2017, XCU crontab, Input Files: a text file of lines). That the last line may lack its
-- newline, and that one bad line makes the whole text bad, is this project's own.
use Rattle.std.specs.Prelude.{◌≡◌, ◌+◌, ℕ, IsTrue, List, [], ◌∷◌, ◌++◌, length}
use Rattle.text_reader.specs.Lines.{lines_of}
use Rattle.cron_text.specs.Entry.{IsBadLine, SpellsEntry, is_ignored}
use Rattle.cron_text.specs.declared.crontab.CronFault.{CronFault}
use Rattle.cron_text.specs.declared.crontab.CronFault.TheVariants.{Bad, Memory}
use Rattle.cron_text.specs.declared.entry.CronEntry.{CronEntry}

-- the lines that aren't ignored spell the entries, one each, in order
pub data AreCrontabLines : List (List ℕ) → List CronEntry → Type 0 where
  no_line : AreCrontabLines [] []
  ignored : {lines : List (List ℕ)} {entries : List CronEntry} → (line : List ℕ) → IsTrue (is_ignored line)
      → AreCrontabLines lines entries → AreCrontabLines (line ∷ lines) entries
  an_entry : {lines : List (List ℕ)} {entries : List CronEntry} → (line : List ℕ) (entry : CronEntry)
      → SpellsEntry line entry → AreCrontabLines lines entries → AreCrontabLines (line ∷ lines) (entry ∷ entries)

-- the text spells the entries
abbrev pub SpellsCrontab : List ℕ → List CronEntry → Type 0
SpellsCrontab text entries = AreCrontabLines (lines_of text) entries

-- this line of the text, counted from 1, is bad, and none before it is
pub record IsFirstBad (text : List ℕ) (number : ℕ) : Type 0 where
  pub before : List (List ℕ)
  pub bad : List ℕ
  pub after : List (List ℕ)
  pub entries : List CronEntry
  pub lines : lines_of text ≡ before ++ bad ∷ after
  pub good : AreCrontabLines before entries
  pub is_bad : IsBadLine bad
  pub counted : number ≡ length before + 1

-- the fault is the first bad line of the text; an out-of-memory error alone is free
abbrev pub IsCause : List ℕ → CronFault → Type 0
IsCause text (Bad line) = IsFirstBad text line
IsCause text Memory = Unit {0}
