-- Files that are given to a host, and the plan of a call.
use Rattle.std.proofs.Common.{◌≡◌, ◌≢◌, ◌+◌, ◌<◌, ℕ, List, ◌∷◌, inl, inr, eq-eqb, length, get_or, drop, cond, sym, ap, ◌∙◌, add-one}
use Rattle.std.specs.Prelude.{Some}
use Rattle.std.specs.Ordering.{eq_by_cmp}
use Rattle.std.specs.Cmp.Lexicographic.{nat_list_cmp_total}
use Rattle.std.specs.BTreeMap.{BTreeMap, get}
use Rattle.std.specs.FinMap as finite
use Rattle.std.specs.FinMap.{from_entries, get-from_entries, get-insert, same_map, slice_cmp-IsAntisymmetric, nat_cmp-IsAntisymmetric}
use Rattle.std.proofs.Math.Seq.{drop-cons}
use Rattle.std.proofs.lemmas.Bool.Decides.{eqb_tells}
use Rattle.host_calls.specs.Directory.{name_cmp}
use Rattle.memory_host.specs.Plan.{part_of}
use Rattle.memory_host.specs.declared.failing_list.Failing.{Failing}
use Rattle.memory_host.proofs.NamedLemmas.{same_either}
use Rattle.memory_host.proofs.NamesLemmas.{find-lookup}

-- what a map of files answers
get-files : (files : BTreeMap (List ℕ) (List ℕ)) (name : List ℕ)
    → finite.get (from_entries {R = name_cmp} files.entries) name ≡ get name_cmp files name
get-files files name = get-from_entries nat_list_cmp_total files.entries name ∙ find-lookup name files.entries

-- one file was set
pub files_put : (old new : BTreeMap (List ℕ) (List ℕ)) (name bytes : List ℕ)
    → ((other : List ℕ) → get name_cmp new other ≡ cond (eq_by_cmp name_cmp name other) (Some bytes) (get name_cmp old other))
    → from_entries {R = name_cmp} new.entries ≡ finite.insert (from_entries old.entries) name bytes
files_put old new name bytes is = same_map nat_list_cmp_total (slice_cmp-IsAntisymmetric nat_cmp-IsAntisymmetric) (from_entries new.entries)
    (finite.insert (from_entries old.entries) name bytes) (λ other.
    get-files new other
    ∙ is other
    ∙ ap (λ b. cond b (Some bytes) (get name_cmp old other)) (sym (same_either name other))
    ∙ ap (cond (eq_by_cmp name_cmp other name) (Some bytes)) (sym (get-files old other))
    ∙ sym (get-insert nat_list_cmp_total (from_entries old.entries) name bytes other))

module _ (list : List Failing) (call index : ℕ) (none : Failing) (inside : index < length list) where
  here : drop index list ≡ get_or list index none ∷ drop (index + 1) list
  here = drop-cons list index none inside ∙ ap (λ n. get_or list index none ∷ drop n list) (sym (add-one index))

  -- the entry names the call
  pub part_found : (get_or list index none).call ≡ call → part_of (drop index list) call ≡ Some (get_or list index none).part
  part_found same = ap (λ l. part_of l call) here ∙ ap (λ b.
      cond b (Some (get_or list index none).part) (part_of (drop (index + 1) list) call)) (eq-eqb (get_or list index none).call call same)

  -- the entry names another
  pub part_passed : (get_or list index none).call ≢ call → part_of (drop index list) call ≡ part_of (drop (index + 1) list) call
  part_passed differ = ap (λ l. part_of l call) here ∙ (elim (eqb_tells (get_or list index none).call call) [
    | inl same ↦ absurd (differ same.1)
    | inr other ↦ ap (λ b. cond b (Some (get_or list index none).part) (part_of (drop (index + 1) list) call)) other.0
  ])
