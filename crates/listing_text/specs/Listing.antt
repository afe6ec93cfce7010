-- The listing of live jobs: whose jobs a user sees, and in which order (Debian atq(1) and at(1); the
-- order is own).
use Rattle.std.specs.Prelude.{◌≡◌, ◌⊎◌, ◌*◌, ◌<◌, ◌==◌, ◌&&◌, ◌||◌, ℕ, pos, Bool, true, List, codes, filter, AllPairs, IsPermutation}
use Rattle.std.specs.List.{AllZip, concat, list_any}
use Rattle.std.specs.Str.{bytes_eq}
use Rattle.spool_model.specs.declared.row.Row.{Row}
use Rattle.spool_model.specs.JobTable.{JobTable}
use Rattle.spool_model.specs.Lists.{live_rows}
use Rattle.civil_minute.specs.Civil.{IsCivilTime}
use Rattle.civil_minute.specs.declared.civil.CivilMinute.{CivilMinute}
use Rattle.civil_minute.specs.declared.zone.Zone.{Zone}
use Rattle.listing_text.specs.Date.{date_text_of}
use Rattle.listing_text.specs.Lines.{letter_of_row, queue_line_of}

-- the user may see the job: it is the user's own, or the user is root
abbrev pub may_see : List ℕ → Row → Bool
may_see user row = bytes_eq user (codes "root") || bytes_eq row.user user

-- a filter by nothing, by the letter that is shown, and by numbers
abbrev pub passes_all : Row → Bool
passes_all row = true

abbrev pub passes_letter : ℕ → Row → Bool
passes_letter letter row = letter_of_row row == letter

abbrev pub passes_numbers : List ℕ → Row → Bool
passes_numbers numbers row = list_any (λ number. row.number == number) numbers

-- the first row is listed before the second: by minute, then number
abbrev pub IsListedBefore : Row → Row → Type 0
IsListedBefore first second =
    (first.minute < second.minute) ⊎ ((first.minute ≡ second.minute) × (first.number < second.number))

-- the line shows the row, with the time at which a clock in the zone shows its minute's first second
pub record ShowsRow (zone : Zone) (row : Row) (line : List ℕ) : Type 0 where
  pub civil : CivilMinute
  pub time : IsCivilTime zone (pos (60 * row.minute)) civil
  pub text : line ≡ queue_line_of row (date_text_of civil)

-- The text lists the live jobs of the table that the user may see and the filter lets pass: a line for
-- each, by minute, then number, with dates in the zone.
pub record IsListing (zone : Zone) (table : JobTable) (user : List ℕ) (passes : Row → Bool) (text : List ℕ) : Type 0 where
  pub rows : List Row
  pub lines : List (List ℕ)
  pub same : IsPermutation (filter (λ row. may_see user row && passes row) (live_rows table)) rows
  pub ordered : AllPairs IsListedBefore rows
  pub shown : AllZip (ShowsRow zone) rows lines
  pub joined : text ≡ concat lines
