-- The children that a rest looks at (own).
use Rattle.std.specs.Prelude.{◌&&◌, ◌==◌, ℕ, Bool, List, Option, Some, None, false}
use Rattle.std.specs.List.{list_any}
use Rattle.unix_host.specs.declared.children.ChildEnds.{ChildEnds}
use Rattle.unix_host.specs.declared.children.WatchedChild.{WatchedChild}

-- the end of the child of this number was seen
abbrev pub has_seen_end : List WatchedChild → ℕ → Bool
has_seen_end children number = list_any (λ child. (child.number == number) && child.has_ended) children

-- children were looked at, and the end of one was seen for the first time
abbrev pub has_new_end : Option ChildEnds → Bool
has_new_end None = false
has_new_end (Some ends) = ends.is_new
