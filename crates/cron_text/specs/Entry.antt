-- The lines of a crontab (POSIX.1-2017, XCU crontab, Input Files: six fields with blanks between them, of which the
-- first five are patterns of minute, hour, day of the month, month and day of the week, with Sunday as 0; blank lines
-- and those whose first byte that is no blank is a number sign are ignored). That blanks may come before the first
-- field, and that a command has a byte and no zero byte, is this project's own.
use Rattle.std.specs.Prelude.{◌≡◌, ◌==◌, ◌&&◌, ℕ, Bool, true, not, IsTrue, List, [], ◌∷◌, ◌++◌, length}
use Rattle.std.specs.List.{list_all}
use Rattle.text_reader.specs.Blanks.{after_blanks, is_blank}
use Rattle.job_script.specs.Variables.{has_no_zero}
use Rattle.cron_text.specs.Field.{SpellsField}
use Rattle.cron_text.specs.declared.entry.CronEntry.{CronEntry}
use Rattle.cron_text.specs.declared.field.Field.{Field}

-- the bytes are none, or begin with a number sign
abbrev pub is_empty_or_comment : List ℕ → Bool
is_empty_or_comment [] = true
is_empty_or_comment (first ∷ _) = first == 35

-- the line counts for nothing: it is blank or a comment
abbrev pub is_ignored : List ℕ → Bool
is_ignored line = is_empty_or_comment (after_blanks line)

-- the bytes have no blank
abbrev pub has_no_blank : List ℕ → Bool
has_no_blank bytes = list_all (λ byte. not (is_blank byte)) bytes

-- the text begins with a pattern, which spells the field, and a blank; the rest comes after all blanks there
pub record BeginsWithField (low high : ℕ) (text : List ℕ) (field : Field) (rest : List ℕ) : Type 0 where
  pub pattern : List ℕ
  pub blank : ℕ
  pub others : List ℕ
  pub spelled : text ≡ pattern ++ blank ∷ others
  pub whole : IsTrue (has_no_blank pattern)
  pub parted : IsTrue (is_blank blank)
  pub field_spelled : SpellsField low high pattern field
  pub rest_is : rest ≡ after_blanks others

-- the command has a byte, and no zero byte
abbrev pub is_command : List ℕ → Bool
is_command command = not (length command == 0) && has_no_zero command

-- the line spells the entry: five patterns, each with blanks after it, and the command up to its end
pub record SpellsEntry (line : List ℕ) (entry : CronEntry) : Type 0 where
  pub after_minute : List ℕ
  pub after_hour : List ℕ
  pub after_day : List ℕ
  pub after_month : List ℕ
  pub minute : BeginsWithField 0 59 (after_blanks line) entry.minute after_minute
  pub hour : BeginsWithField 0 23 after_minute entry.hour after_hour
  pub day : BeginsWithField 1 31 after_hour entry.day after_day
  pub month : BeginsWithField 1 12 after_day entry.month after_month
  pub weekday : BeginsWithField 0 6 after_month entry.weekday entry.command
  pub command : IsTrue (is_command entry.command)

-- the line is neither ignored nor an entry
pub record IsBadLine (line : List ℕ) : Type 0 where
  pub counts : ¬ IsTrue (is_ignored line)
  pub no_entry : (entry : CronEntry) → ¬ SpellsEntry line entry
