-- The job files among the first files of a directory, by their first bytes.
use Rattle.std.proofs.Common.{◌≡◌, ℕ, zero, suc, ◌+◌, ◌<◌, ◌≤◌, arith, List, Option, Some, [], ◌∷◌, ◌++◌, length, get_or, map, take, drop, sym, ap, subst, ◌∙◌, refl, inl, inr}
use Rattle.std.specs.Prelude.{IsSome, option_map}
use Rattle.std.specs.List.{filter, filter_map}
use Rattle.std.specs.FinMap as finite
use Rattle.std.specs.FinMap.{entries}
use Rattle.std.proofs.lemmas.List.{get_or-map, length-map, map-append, take_all, take_more}
use Rattle.std.proofs.lemmas.List.Elements.{filter-append, filter_map-append}
use Rattle.host_calls.specs.Directory.{Files}
use Rattle.start_journal.specs.declared.mark.Mark.{Mark}
use Rattle.spool_shows.specs.JobFiles.{JobFile, counts, job_file, job_files}
use Rattle.spool_shows.proofs.CutFiles.{first_bytes}
use Rattle.spool_shows.proofs.EntryLists.{entry_is_file}
use Rattle.spool_shows.proofs.Membership.{Has}
use Rattle.spool_shows.proofs.ShownEntries.{some_same}

-- the bytes that are read are the first ones
pub prefix_read : (held : Option (List ℕ)) (bytes prefix : List ℕ) → held ≡ Some bytes
    → option_map (λ b. take 60 (drop 0 b)) held ≡ Some prefix → prefix ≡ take 60 bytes
prefix_read held bytes prefix is read = sym (some_same (sym (ap (option_map (λ b. take 60 (drop 0 b))) is) ∙ read))

has_at : {X : Type 0} → (xs : List X) (place : ℕ) (x : X) → place < length xs → Has xs (get_or xs place x)
has_at [] place x inside = absurd (omega arith)
has_at (first ∷ later) zero x inside = inl refl
has_at (first ∷ later) (suc place) x inside = inr (has_at later place x (omega arith))

pub job_files_append : (marks : List Mark) (one other : List (List ℕ × List ℕ))
    → job_files marks (one ++ other) ≡ job_files marks one ++ job_files marks other
job_files_append marks one other =
    ap (filter_map job_file) (filter-append (λ (file : List ℕ × List ℕ). counts marks file.0) one other)
    ∙ filter_map-append job_file (filter (λ (file : List ℕ × List ℕ). counts marks file.0) one)
    (filter (λ (file : List ℕ × List ℕ). counts marks file.0) other)

-- the name at a place is that of the entry there
pub record IsEntry (files : Files) (place : ℕ) (name : List ℕ) : Type 0 where
  pub inside : place < length (entries files)
  pub bytes : List ℕ
  pub at : get_or (entries files) place (name, []) ≡ (name, bytes)
  pub held : finite.get files name ≡ Some bytes

pub entry_at_place : (files : Files) (names : List (List ℕ)) (place : ℕ) (name : List ℕ) → names ≡ finite.keys files → place < length names
    → name ≡ get_or names place name → IsEntry files place name
entry_at_place files names place name are inside here =
    let none : List ℕ = [] in
    let entry : List ℕ × List ℕ = get_or (entries files) place (name, none) in
    let within : place < length (entries files) = omega (arith, ap length are, length-map (entries files) (λ (e : List ℕ × List ℕ). e.0)) in
    let named : name ≡ entry.0 = here ∙ ap (λ list. get_or list place name) are
    ∙ get_or-map (λ (e : List ℕ × List ℕ). e.0) (entries files) place (name, none) name within in
    let at : entry ≡ (name, entry.1) = λ i. (sym named i, entry.1) in
    record {
      inside = within;
      bytes = entry.1;
      at = at;
      held = entry_is_file files name entry.1 (subst (Has (entries files)) at (has_at (entries files) place (name, none) within));
    }

pub held_at : (files here : Files) (names : List (List ℕ)) (place : ℕ) (name : List ℕ) → names ≡ finite.keys files → here ≡ files
    → place < length names → name ≡ get_or names place name → IsSome (finite.get here name)
held_at files here names place name are same inside at =
    subst IsSome (sym (ap (λ (fs : Files). finite.get fs name) same ∙ (entry_at_place files names place name are inside at).held)) refl

pub found_more : (marks : List Mark) (files here : Files) (names : List (List ℕ)) (place : ℕ) (name : List ℕ) (old new : List JobFile)
    → names ≡ finite.keys files → here ≡ files → place < length names → name ≡ get_or names place name
    → old ≡ job_files marks (map first_bytes (take place (entries files)))
    → ((bytes : List ℕ) → finite.get here name ≡ Some bytes → new ≡ old ++ job_files marks ((name, take 60 bytes) ∷ []))
    → new ≡ job_files marks (map first_bytes (take (place + 1) (entries files)))
found_more marks files here names place name old new are same inside at before found =
    let entry : IsEntry files place name = entry_at_place files names place name are inside at in
    let more : take (place + 1) (entries files) ≡ take place (entries files) ++ (name, entry.bytes) ∷ [] =
    take_more (entries files) place (name, []) entry.inside ∙ ap (λ e. take place (entries files) ++ e ∷ []) entry.at in
    found entry.bytes (ap (λ (fs : Files). finite.get fs name) same ∙ entry.held)
    ∙ ap (λ list. list ++ job_files marks ((name, take 60 entry.bytes) ∷ [])) before
    ∙ sym (job_files_append marks (map first_bytes (take place (entries files))) ((name, take 60 entry.bytes) ∷ []))
    ∙ ap (job_files marks)
    (sym (ap (map first_bytes) more ∙ map-append first_bytes (take place (entries files)) ((name, entry.bytes) ∷ [])))

pub found_all : (marks : List Mark) (files : Files) (names : List (List ℕ)) (place : ℕ) (found : List JobFile)
    → names ≡ finite.keys files → length names ≤ place → found ≡ job_files marks (map first_bytes (take place (entries files)))
    → found ≡ job_files marks (map first_bytes (entries files))
found_all marks files names place found are after so =
    let past : length (entries files) ≤ place = omega (arith, ap length are, length-map (entries files) (λ (e : List ℕ × List ℕ). e.0)) in
    so ∙ ap (λ list. job_files marks (map first_bytes list)) (take_all place (entries files) past)
