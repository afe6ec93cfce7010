-- The lines of the next minutes (own): for each entry, in order, a line for each minute, with the date and the command; an
-- entry without one has a line that says so.
use Rattle.std.specs.Prelude.{◌≡◌, ◌*◌, [], ◌∷◌, ◌++◌, ℕ, pos, List, codes}
use Rattle.civil_minute.specs.Civil.{IsCivilTime}
use Rattle.civil_minute.specs.declared.civil.CivilMinute.{CivilMinute}
use Rattle.civil_minute.specs.declared.zone.Zone.{Zone}
use Rattle.listing_text.specs.Date.{date_text_of}
use Rattle.cron_text.specs.declared.entry.CronEntry.{CronEntry}
use Rattle.cron_turn.specs.Schedule.{AreNextDue}

-- a line: when it is, a tab, and the command
abbrev pub dated_line : List ℕ → List ℕ → List ℕ
dated_line when command = when ++ 9 ∷ (command ++ 10 ∷ [])

-- the line of a minute: the date that a clock in the zone shows at its first second
pub record ShowsMinute (zone : Zone) (command : List ℕ) (minute : ℕ) (line : List ℕ) : Type 0 where
  pub civil : CivilMinute
  pub shown : IsCivilTime zone (pos (60 * minute)) civil
  pub line_is : line ≡ dated_line (date_text_of civil) command

-- the text has a line for each of the minutes, in order
pub data AreMinuteLines (zone : Zone) (command : List ℕ) : List ℕ → List ℕ → Type 0 where
  no_line : AreMinuteLines zone command [] []
  line_more : (minutes text line : List ℕ) (minute : ℕ) → AreMinuteLines zone command minutes text →
      ShowsMinute zone command minute line
      → AreMinuteLines zone command (minutes ++ minute ∷ []) (text ++ line)

-- what an entry without a minute has in place of a date
abbrev pub never : List ℕ
never = codes "not within nine years"

-- the lines of an entry's minutes, or the line that there is none
abbrev pub ShowsMinutes : Zone → List ℕ → List ℕ → List ℕ → Type 0
ShowsMinutes zone command [] text = text ≡ dated_line never command
ShowsMinutes zone command (minute ∷ later) text = AreMinuteLines zone command (minute ∷ later) text

-- The text is that of the entry: of the next minutes from this one on at which it is due, so many at most.
pub record ListsEntry (zone : Zone) (from count : ℕ) (entry : CronEntry) (text : List ℕ) : Type 0 where
  pub minutes : List ℕ
  pub are : AreNextDue zone entry from count minutes
  pub shows : ShowsMinutes zone entry.command minutes text

-- The text is that of all entries, in order.
pub data IsCronListing (zone : Zone) (from count : ℕ) : List CronEntry → List ℕ → Type 0 where
  no_entry : IsCronListing zone from count [] []
  entry_more : (entries : List CronEntry) (entry : CronEntry) (text more : List ℕ) → IsCronListing zone from count entries text
      → ListsEntry zone from count entry more → IsCronListing zone from count (entries ++ entry ∷ []) (text ++ more)
