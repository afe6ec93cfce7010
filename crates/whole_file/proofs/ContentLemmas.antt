-- Whether a name is among those of the directory.
use Rattle.std.proofs.Common.{◌≡◌, ℕ, Bool, List, [], ◌∷◌, sym, ap, ◌∙◌, refl, inl, inr}
use Rattle.std.specs.Prelude.{is_some}
use Rattle.std.specs.FinMap as map
use Rattle.std.specs.List.{list_any}
use Rattle.std.specs.Ordering.{eq_by_cmp}
use Rattle.std.specs.Str.{bytes_eq}
use Rattle.std.proofs.lemmas.Bool.{false_from_ne_true}
use Rattle.std.proofs.lemmas.Slice.Eq.{bytes_eq-Decides}
use Rattle.host_calls.specs.Directory.{Files, name_cmp}
use Rattle.host_calls.proofs.DirectoryLemmas.{eq_by_cmp-other, eq_by_cmp-same}
use Rattle.whole_file.proofs.OthersLemmas.{one_or_other}

-- names are equal where their order says so
same_test : (name other : List ℕ) → eq_by_cmp name_cmp name other ≡ bytes_eq other name
same_test name other = elim (one_or_other name other) [
  | inl same ↦ ap (eq_by_cmp name_cmp name) (sym same) ∙ eq_by_cmp-same name ∙ sym ((bytes_eq-Decides other name).1 (sym same))
  | inr differ ↦ eq_by_cmp-other other name differ
      ∙ sym (false_from_ne_true _ (λ same. differ (sym ((bytes_eq-Decides other name).0 same))))
]

-- tests that agree find alike
same_find : (first second : List ℕ → Bool) (names : List (List ℕ)) → ((name : List ℕ) → first name ≡ second name)
    → list_any first names ≡ list_any second names
same_find first second [] agree = refl
same_find first second (name ∷ names) agree = rw (agree name, same_find first second names agree) refl

-- whether a name is found among those that are listed is whether it is a file
pub found_is : (files : Files) (name : List ℕ) (names : List (List ℕ)) (found : Bool) → names ≡ map.keys files
    → found ≡ list_any (λ other. bytes_eq other name) names → found ≡ is_some (map.get files name)
found_is files name names found listed is =
    is
    ∙ ap (list_any (λ other. bytes_eq other name)) listed
    ∙ sym (same_find (eq_by_cmp name_cmp name) (λ other. bytes_eq other name) (map.keys files) (same_test name))
    ∙ sym (map.contains_key-keys files name)
