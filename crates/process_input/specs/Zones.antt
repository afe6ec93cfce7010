-- The zone of a caller (own).
use Rattle.std.specs.Prelude.{[], ℕ, List, Option, Some, None, codes, if◌then◌else◌}
use Rattle.caller_environment.specs.ZoneFile.{is_utc_name}

-- the text that names the zone of a value of TZ: each name of UTC is UTC
abbrev pub named_zone : List ℕ → List ℕ
named_zone value = if is_utc_name value then codes "UTC" else value

-- the text that names it: the rule that is set, or else the value of TZ
abbrev pub zone_text : Option (List ℕ) → Option (List ℕ) → List ℕ
zone_text (Some rule) value = rule
zone_text None (Some value) = named_zone value
zone_text None None = []
