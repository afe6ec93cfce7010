-- The file that has the rule of a zone (own; the names of zones and their files are those of tzset(3)).
use Rattle.std.specs.Prelude.{◌==◌, ◌||◌, [], ◌∷◌, ◌++◌, ℕ, Bool, true, false, List, Option, Some, None, codes, length, if◌then◌else◌}
use Rattle.std.specs.Borrow.{Bor}
use Rattle.std.specs.List.{list_any}
use Rattle.std.specs.Str.{bytes_eq}
use Rattle.caller_environment.specs.declared.zone_path.TheConstants.{UTC_NAMES}

-- a comma or `<`
abbrev pub has_mark : List ℕ → Bool
has_mark zone = list_any (λ byte. byte == 44 || byte == 60) zone

-- the name without a colon before it
abbrev pub zone_name : List ℕ → List ℕ
zone_name [] = []
zone_name (byte ∷ others) = if byte == 58 then others else byte ∷ others

-- one of the names is the text
abbrev pub names_contain : List (Bor (List ℕ)) → List ℕ → Bool
names_contain names text = list_any (λ name. bytes_eq name.now text) names

-- the value of TZ is a name of UTC, which needs no file
abbrev pub is_utc_name : List ℕ → Bool
is_utc_name zone = list_any (λ name. bytes_eq name.now (zone_name zone)) UTC_NAMES

-- the value of TZ needs no file: it is empty, a name of UTC, or a rule that shows itself by a comma or `<`
abbrev pub needs_no_file : List ℕ → Bool
needs_no_file zone = length zone == 0 || is_utc_name zone || has_mark zone

-- a path from the root
abbrev pub is_path : List ℕ → Bool
is_path [] = false
is_path (byte ∷ others) = byte == 47

-- the file of a name below the directory
abbrev pub file_of_name : List ℕ → List ℕ → List ℕ
file_of_name directory name = if is_path name then name else directory ++ codes "/" ++ name

-- the file of a zone
abbrev pub file_of_zone : List ℕ → List ℕ → List ℕ
file_of_zone directory zone = file_of_name directory (zone_name zone)

-- the directory of zone files: that of TZDIR, unless it is empty
abbrev pub zone_directory : Option (List ℕ) → List ℕ
zone_directory (Some directory) = if length directory == 0 then codes "/usr/share/zoneinfo" else directory
zone_directory None = codes "/usr/share/zoneinfo"

-- The file of the zone of a caller whose TZ and TZDIR are these: the machine's own without TZ, none where it needs none.
abbrev pub zone_file : Option (List ℕ) → Option (List ℕ) → Option (List ℕ)
zone_file None directory = Some (codes "/etc/localtime")
zone_file (Some zone) directory = if needs_no_file zone then None else Some (file_of_zone (zone_directory directory) zone)
