-- The names of the files of a directory that pass a test.
use Rattle.std.proofs.Common.{◌≡◌, ◌≢◌, ◌∙◌, ℕ, Bool, true, false, List, Option, Some, None, [], ◌∷◌, map, refl, sym, subst, arith}
use Rattle.std.specs.Prelude.{AllPairs, Contains, IsSome}
use Rattle.std.specs.Cmp.Lexicographic.{nat_list_cmp_total}
use Rattle.std.specs.FinMap as finite
use Rattle.std.specs.FinMap.{entries, entries_sorted}
use Rattle.std.specs.List.{filter}
use Rattle.std.proofs.lemmas.List.Elements.{All-contains_itself}
use Rattle.std.proofs.lemmas.List.Kept.{AllPairs-cons}
use Rattle.host_calls.specs.Directory.{Files}
use Rattle.whole_file.specs.Removal.{AreFiles}
use Rattle.spool_shows.proofs.EntryLists.{AreApart, apart_filtered, apart_sorted, entry_is_file, file_is_entry}
use Rattle.spool_shows.proofs.Membership.{Has, contained, filtered_has, has_contained, has_filtered, has_made, made_has}

-- entries with keys apart have keys apart
keys_apart : (es : List (List ℕ × List ℕ)) → AreApart (λ (e : List ℕ × List ℕ). e.0) es →
    AreApart (λ (name : List ℕ). name) (map (λ (e : List ℕ × List ℕ). e.0) es)
keys_apart [] apart = tt
keys_apart (first ∷ later) apart = (
  λ other has same.
      let from : (e : List ℕ × List ℕ) × Has later e × (e.0 ≡ other) = made_has (λ (e : List ℕ × List ℕ). e.0) later other has in
      apart.0 from.0 from.1 (from.2 ∙ same),
  keys_apart later apart.1,
)

-- names that are apart differ, one from each later one
differ : (names : List (List ℕ)) → AreApart (λ (name : List ℕ). name) names → AllPairs (λ first second. first ≢ second) names
differ [] apart = λ i j d less inside. absurd (omega (arith, inside))
differ (first ∷ later) apart =
    AllPairs-cons (λ one other. one ≢ other) first later
    (λ k d inside same. apart.0 _ (has_contained later _ (All-contains_itself later k d inside)) (sym same))
    (differ later apart.1)

module _ (test : List ℕ → Bool) (files : Files) where
  -- each is that of a file, and passes
  pub picked_there : (name : List ℕ) → Contains (filter test (finite.keys files)) name → IsSome (finite.get files name) × (test name ≡ true)
  picked_there name among =
      let kept : Has (finite.keys files) name × (test name ≡ true) =
      filtered_has test (finite.keys files) name (has_contained (filter test (finite.keys files)) name among) in
      let from : (e : List ℕ × List ℕ) × Has (entries files) e × (e.0 ≡ name) =
      made_has (λ (e : List ℕ × List ℕ). e.0) (entries files) name kept.0 in
      (subst (λ at. IsSome (finite.get files at)) from.2 (subst IsSome (sym (entry_is_file files from.0.0 from.0.1 from.1)) refl), kept.1)

  among_held : (name : List ℕ) (held : Option (List ℕ)) → finite.get files name ≡ held → IsSome held → test name ≡ true
      → Contains (filter test (finite.keys files)) name
  among_held name None is some passes = absurd (let impossible : false ≡ true = some in cc)
  among_held name (Some bytes) is some passes =
      contained (filter test (finite.keys files)) name
      (has_filtered test (finite.keys files) name
      (has_made (λ (e : List ℕ × List ℕ). e.0) (entries files) (name, bytes) (file_is_entry files name bytes is)) passes)

  -- and that of each file that passes is among them
  pub picked_among : (name : List ℕ) → IsSome (finite.get files name) → test name ≡ true → Contains (filter test (finite.keys files)) name
  picked_among name some passes = among_held name (finite.get files name) refl some passes

  -- so they are files, each once
  pub picked_are_files : AreFiles (filter test (finite.keys files)) files
  picked_are_files = record {
    held = λ name among. (picked_there name among).0;
    different = differ _ (apart_filtered (λ (name : List ℕ). name) test (finite.keys files)
        (keys_apart (entries files) (apart_sorted _ nat_list_cmp_total (entries files) (entries_sorted files))));
  }
