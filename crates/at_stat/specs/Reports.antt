-- Which numbers are requested, and the text of their lines (own).
use Rattle.std.specs.Prelude.{◌≡◌, ◌*◌, ◌==◌, ◌&&◌, ◌++◌, ℕ, pos, Bool, true, List, Option, Some, None, codes, filter, AllPairs, IsPermutation}
use Rattle.std.specs.List.{AllZip, concat}
use Rattle.at_words.specs.declared.filter.Filter.{Filter}
use Rattle.at_words.specs.declared.filter.Filter.TheVariants.{All, Queue, Numbers}
use Rattle.civil_minute.specs.Civil.{IsCivilTime}
use Rattle.civil_minute.specs.declared.civil.CivilMinute.{CivilMinute}
use Rattle.civil_minute.specs.declared.zone.Zone.{Zone}
use Rattle.listing_text.specs.Date.{date_text_of}
use Rattle.listing_text.specs.Listing.{IsListedBefore, may_see}
use Rattle.queue_rules.specs.Order.{row_numbers}
use Rattle.spool_model.specs.declared.fate.Fate.{Fate}
use Rattle.spool_model.specs.declared.row.Row.{Row}
use Rattle.spool_model.specs.JobTable.{JobTable}
use Rattle.spool_model.specs.Lists.{done_numbers, live_rows}
use Rattle.at_stat.specs.declared.form.Form.{Form}
use Rattle.at_stat.specs.declared.form.Form.TheVariants.{Text, Json}
use Rattle.at_stat.specs.declared.stage.JobStage.{JobStage}
use Rattle.at_stat.specs.declared.stage.JobStage.TheVariants.{Live, Done, Forgotten}
use Rattle.at_stat.specs.Lines.{fate_text, live_line, text_line}
use Rattle.at_stat.specs.Objects.{NeedsNoEscape, fate_object, live_object, word_object}
use Rattle.at_stat.specs.Stages.{shown_minute, stage_of_number}

-- the line of a live job with this date
abbrev pub live_text : Form → Row → List ℕ → List ℕ
live_text Text row date = live_line row date
live_text Json row date = live_object row date

-- the line of a job that is done
abbrev pub fate_line : Form → ℕ → Fate → List ℕ
fate_line Text number fate = text_line number (fate_text fate)
fate_line Json number fate = fate_object number fate

-- the line of a job of which there is a word alone
abbrev pub word_line : Form → ℕ → List ℕ → List ℕ
word_line Text number word = text_line number word
word_line Json number word = word_object number word

-- The line shows the live job, with the time at which a clock in the zone shows the first second of its minute. As an
-- object it has no string that needs an escape.
pub record IsLiveLine (form : Form) (zone : Zone) (row : Row) (line : List ℕ) : Type 0 where
  pub civil : CivilMinute
  pub time : IsCivilTime zone (pos (60 * shown_minute row)) civil
  pub text : line ≡ live_text form row (date_text_of civil)
  pub plain : NeedsNoEscape row (date_text_of civil)

-- the line shows what the stage is
abbrev pub IsLine : Form → Zone → ℕ → JobStage → List ℕ → Type 0
IsLine form zone number (Live row) line = IsLiveLine form zone row line
IsLine form zone number (Done fate) line = line ≡ fate_line form number fate
IsLine form zone number Forgotten line = line ≡ word_line form number (codes "forgotten")

-- the line shows the stage of the number
abbrev pub ShowsNumber : Form → Zone → JobTable → ℕ → List ℕ → Type 0
ShowsNumber form zone table number line = IsLine form zone number (stage_of_number table number) line

-- the text has a line for each of the numbers, in their order
pub record IsReport (form : Form) (zone : Zone) (table : JobTable) (numbers : List ℕ) (text : List ℕ) : Type 0 where
  pub lines : List (List ℕ)
  pub shown : AllZip (ShowsNumber form zone table) numbers lines
  pub joined : text ≡ concat lines

-- the job is in the queue, where one is given
abbrev pub is_in_queue : Option ℕ → Row → Bool
is_in_queue None row = true
is_in_queue (Some letter) row = row.queue == letter

-- the numbers are those of the live jobs that the user may see, by minute, then number: those of the queue, where one is
-- given
pub record AreLiveIn (table : JobTable) (user : List ℕ) (queue : Option ℕ) (numbers : List ℕ) : Type 0 where
  pub rows : List Row
  pub same : IsPermutation (filter (λ row. may_see user row && is_in_queue queue row) (live_rows table)) rows
  pub ordered : AllPairs IsListedBefore rows
  pub named : numbers ≡ row_numbers rows

-- These numbers are requested: those of live jobs that the user may see and then those of jobs that are done, those of the
-- live jobs of a queue alone, or those that are named.
abbrev pub AreAsked : JobTable → List ℕ → Filter → List ℕ → Type 0
AreAsked table user All numbers =
    (live : List ℕ) × AreLiveIn table user None live × (numbers ≡ live ++ done_numbers table)
AreAsked table user (Queue letter) numbers = AreLiveIn table user (Some letter) numbers
AreAsked table user (Numbers named) numbers = numbers ≡ named
