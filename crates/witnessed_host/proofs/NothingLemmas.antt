-- A directory without files.
use Rattle.std.proofs.Common.{◌≡◌, ◌∙◌, [], ℕ, List, ap, sym, rules}
use Rattle.std.specs.Prelude.{IsSome, None, option_map, is_some, map as map_list}
use Rattle.std.specs.FinMap as map
use Rattle.std.specs.FinMap.{entries, get-empty, len-empty, len-entries}
use Rattle.std.proofs.lemmas.List.{nil_from_length}
use Rattle.host_calls.proofs.DirectoryLemmas.{get-files_of, same_names}
use Rattle.host_calls.specs.Directory.{Files, name_cmp}
use Rattle.host_calls.specs.World.{reading}
use Rattle.witnessed_host.specs.EmptyWorld.{empty_world}

abbrev nothing : Files
nothing = map.empty

-- it reads as no file
reads_nothing : (name : List ℕ) → map.get (reading empty_world) name ≡ None
reads_nothing name = get-files_of _ _ name ∙ ap (option_map _) (get-empty name_cmp name)

-- it lists no name
pub lists_nothing : map.keys (reading empty_world) ≡ []
lists_nothing =
    let is : reading empty_world ≡ nothing = same_names _ _ (λ name. reads_nothing name ∙ sym (get-empty name_cmp name)) in
    let none : entries nothing ≡ [] = nil_from_length (entries nothing) (sym (len-entries nothing) ∙ len-empty name_cmp (List ℕ)) in
    ap map.keys is ∙ ap (map_list (λ entry. entry.0)) none

-- it holds no name
pub holds_nothing : (name : List ℕ) → ¬ (IsSome (map.get (reading empty_world) name))
holds_nothing name some = Prim.search (rules, sym (ap is_some (reads_nothing name)) ∙ some)
