-- What the text of the variable TZ names. POSIX (XBD 8.3) has the rules; that the empty text names
-- UTC, and that no text names a zone of a database, is own.
use Rattle.std.specs.Prelude.{◌≡◌, ◌⊎◌, ℕ, List, [], IsNone, codes}
use Rattle.jiff.specs.Placed.{IsPosixZone}
use Rattle.jiff.specs.Words.{read_whole, plain_zone}
use Rattle.civil_minute.specs.declared.zone.Zone.{Zone}
use Rattle.civil_minute.specs.declared.zone.Zone.TheVariants.{Utc, Rules, Unreadable}

-- the text names UTC
abbrev pub NamesUtc : List ℕ → Type 0
NamesUtc text = (text ≡ []) ⊎ (text ≡ codes "UTC")

-- the text names the zone: UTC, or the rule that it spells in the grammar of `jiff`, or it spells
-- none and can't be read
abbrev pub IsZoneOf : List ℕ → Zone → Type 0
IsZoneOf text Utc = NamesUtc text
IsZoneOf text (Rules zone) = (¬ (NamesUtc text)) × IsPosixZone text (plain_zone zone)
IsZoneOf text Unreadable = (¬ (NamesUtc text)) × IsNone (read_whole text)
