use Rattle.std.proofs.Common.{◌≡◌, List, ℕ, ap, sym, subst, rules, ◌∙◌, ◌∷◌, []}
use Rattle.std.specs.Prelude.{map}
use Rattle.std.specs.FinMap.{from_entries}
use Rattle.std.specs.Map.Iter.{deref_pair}
use Rattle.std.proofs.lemmas.Map.Iter.{iter_end}
use Rattle.std.proofs.lemmas.List.{map-append}
use Rattle.memory_host.specs.Past.{nothing, with_files, with_directory, with_new_file}
use Rattle.memory_host.specs.inside.Story.{Opens}
use Rattle.memory_host.specs.inside.Known.{IsStateKept}
use Rattle.host_calls.specs.Directory.{settled}
use Rattle.memory_host.proofs.OpenLemmas.{opens, known_nothing, known_opened, with_files-push}
use Rattle.memory_host.proofs.PastLemmas.{known_settled}
use Rattle.memory_host.proofs.past.Past.open.Goals as goal

pub loop-name-init : goal.loop-name-init
loop-name-init c = known_nothing c.new-names.result c.new-bodies.result c.new-names.ensures.held c.new-names.ensures.pending
    c.new-bodies.ensures.list c.new-bodies.ensures.unsettled

pub loop-name-preserved : goal.loop-name-preserved
loop-name-preserved c =
    let so_far = with_files (map deref_pair c.loop-name.yielded) nothing in
    subst (λ at. IsStateKept at c.add_file.new.names c.add_file.new.bodies [])
    (sym (ap (λ files. with_files files nothing) (map-append deref_pair c.loop-name.yielded ((c.in-Some.name, c.in-Some.bytes) ∷ []))
    ∙ with_files-push (map deref_pair c.loop-name.yielded) (c.in-Some.name.now, c.in-Some.bytes.now) nothing))
    (subst (λ bytes. IsStateKept (with_new_file c.in-Some.name.now bytes so_far) c.add_file.new.names c.add_file.new.bodies [])
    c.as_slice.ensures
    (c.in_ok-add_file.ensures so_far [] c.loop-name.invariant))

pub invariant_of-result : goal.invariant_of-result
invariant_of-result c =
    let all : map deref_pair c.loop-name.yielded ≡ c.files.inside.inner.entries = search (rules, iter_end) in
    let files : List (List ℕ × List ℕ) = c.files.inside.inner.entries in
    known_opened files c.new.result.items c.sync.new.self c.settle.new.self c.new-2.result.items c.new.ensures.items
    (subst (IsStateKept (with_directory (settled (with_files files nothing).directory) (with_files files nothing)) c.sync.new.self
    c.settle.new.self) (sym c.new-2.ensures.items)
    (known_settled (with_files files nothing) c.loop-name.names c.sync.new.self c.loop-name.bodies c.settle.new.self []
    (subst (λ l. IsStateKept (with_files l nothing) c.loop-name.names c.loop-name.bodies []) all c.loop-name.invariant)
    c.sync.ensures.now c.sync.ensures.durable c.sync.ensures.pending c.settle.ensures.list))

pub returns : goal.returns
returns c =
    let files : List (List ℕ × List ℕ) = c.files.inside.inner.entries in
    subst (λ map. Opens map (record { opening = files; calls = c.new.result.items })) c.files.view_is
    (subst (λ calls. Opens (from_entries files) (record { opening = files; calls = calls })) (sym c.new.ensures.items)
    (opens files c.iter-name-items.ensures.ordered))
