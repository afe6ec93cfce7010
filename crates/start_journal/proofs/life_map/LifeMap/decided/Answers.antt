use Rattle.std.proofs.Common.{◌≡◌, ◌+◌, sym, ap, subst, take, ◌++◌, ◌∙◌}
use Rattle.std.specs.List.{filter_map}
use Rattle.std.proofs.lemmas.List.{append-nil}
use Rattle.start_journal.specs.Lifecycles.{decided_of}
use Rattle.start_journal.specs.inside.LifeMaps.{lives_by_number}
use Rattle.start_journal.proofs.LifeMapLemmas.{decided_next, seen_sorted}
use Rattle.start_journal.proofs.life_map.LifeMap.decided.Goals as goal

pub returns-in_err-list-clause-ordered : goal.returns-in_err-list-clause-ordered
returns-in_err-list-clause-ordered c =
    seen_sorted c.self.inside c.args.self.now c.self.view_is c.self.invariant c.decided_in.ensures.ordered

pub loop-place-init : goal.loop-place-init
loop-place-init c = c.in_ok-list.ensures.items ∙ ap (filter_map decided_of) (sym (append-nil c.self.inside.below.entries))

pub loop-place-preserved : goal.loop-place-preserved
loop-place-preserved c =
    let row = c.as_slice-life-items.result.now in
    let same : row ≡ c.self.inside.row.items = c.as_slice-life-items.ensures.value in
    subst (λ row. c.push_decided.new.list.items
    ≡ filter_map decided_of (c.self.inside.below.entries ++ lives_by_number c.self.inside.first (take (c.loop-place.place + 1) row))) same
    (decided_next c.self.inside.first c.loop-place.place c.self.inside.below.entries row _ c.loop-place.list.items
    c.push_decided.new.list.items c.loop-place-test.true
    (subst (λ row. c.loop-place.list.items ≡ filter_map decided_of
    (c.self.inside.below.entries ++ lives_by_number c.self.inside.first (take c.loop-place.place row))) (sym same) c.loop-place.invariant)
    c.in_ok-push_decided.ensures)

pub returns-in_err-push_decided-clause-ordered : goal.returns-in_err-push_decided-clause-ordered
returns-in_err-push_decided-clause-ordered c =
    seen_sorted c.self.inside c.args.self.now c.self.view_is c.self.invariant c.decided_in.ensures.ordered

pub returns-clause-ordered : goal.returns-clause-ordered
returns-clause-ordered c = seen_sorted c.self.inside c.args.self.now c.self.view_is c.self.invariant c.decided_in.ensures.ordered
