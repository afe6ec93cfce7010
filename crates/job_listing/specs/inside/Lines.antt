-- The lines of rows (own).
use Rattle.std.specs.Prelude.{◌≡◌, ℕ, List}
use Rattle.std.specs.List.{AllZip, concat}
use Rattle.civil_minute.specs.declared.zone.Zone.{Zone}
use Rattle.listing_text.specs.Listing.{ShowsRow}
use Rattle.spool_model.specs.declared.row.Row.{Row}

-- the text has a line for each of the rows, in their order
pub record ShowsRows (zone : Zone) (rows : List Row) (text : List ℕ) : Type 0 where
  pub lines : List (List ℕ)
  pub shown : AllZip (ShowsRow zone) rows lines
  pub joined : text ≡ concat lines
