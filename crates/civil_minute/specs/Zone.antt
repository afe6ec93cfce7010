-- What the zone of a caller stands for.
use Rattle.std.specs.Prelude.{ℤ, Bool, true, false}
use Rattle.jiff.specs.Types.{TimeZone, UTC}
use Rattle.jiff.specs.Words.{plain_zone, offset_at, nanos_of_seconds}
use Rattle.civil_minute.specs.declared.zone.Zone.{Zone}
use Rattle.civil_minute.specs.declared.zone.Zone.TheVariants.{Utc, Rules, Unreadable}

-- the zone could be read: it is UTC or has rules
abbrev pub IsReadable : Zone → Type 0
IsReadable Utc = Unit {0}
IsReadable (Rules zone) = Unit {0}
IsReadable Unreadable = ⊥

-- the rules of the zone, which are those of UTC where it could not be read
abbrev pub rules_of : Zone → TimeZone
rules_of Utc = UTC
rules_of (Rules zone) = plain_zone zone
rules_of Unreadable = UTC

-- how far a clock in the zone is ahead of UTC at a second since 1970, in seconds
abbrev pub offset_in : Zone → ℤ → ℤ
offset_in zone second = offset_at (rules_of zone) (nanos_of_seconds second)

-- the zone could not be read, as a test
abbrev pub is_unreadable : Zone → Bool
is_unreadable Utc = false
is_unreadable (Rules rules) = false
is_unreadable Unreadable = true
