-- What words ask a tool to print of itself (own).
use Rattle.std.specs.Prelude.{[], ◌∷◌, ℕ, List, Option, Some, None, codes, if◌then◌else◌}
use Rattle.std.specs.Str.{bytes_eq}
use Rattle.launcher.specs.declared.self_description.Description.{Description}
use Rattle.launcher.specs.declared.self_description.Description.TheVariants.{Help, Version, Spool}

-- what a word requests
abbrev pub description_of : List ℕ → Option Description
description_of word =
    if bytes_eq word (codes "--help") then Some Help
    else (if bytes_eq word (codes "--version") then Some Version
    else (if bytes_eq word (codes "--spool") then Some Spool else None))

-- what the words request: the word after the name, where there is no other
abbrev pub description_asked : List (List ℕ) → Option Description
description_asked (name ∷ word ∷ []) = description_of word
description_asked _ = None
