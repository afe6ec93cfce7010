use Rattle.std.proofs.Common.{◌≡◌, ◌∷◌, [], List, ℕ, codes}
use Rattle.at_day.specs.Lines.{count_line, day_lines}
use Rattle.at_day.proofs.LineLemmas.{pushed}
use Rattle.at_day.proofs.lines.day_lines.Goals as goal

pub returns : goal.returns
unfolding day_lines
returns c =
    let l1 : List ℕ = count_line (codes "events") c.args.events in
    let e1 : c.push.new.self.items ≡ l1 ∷ [] =
    pushed c.new-lines.result.items c.push.new.self.items [] c.in_ok-count_line.field-0 l1 c.new-lines.ensures.items
    c.in_ok-push.ensures.items c.in_ok-count_line.ensures in
    let l2 : List ℕ = count_line (codes "last") c.args.counts.now.last in
    let e2 : c.push-2.new.self.items ≡ l1 ∷ l2 ∷ [] =
    pushed c.push.new.self.items c.push-2.new.self.items (l1 ∷ []) c.in_ok-count_line-2.field-0 l2 e1 c.in_ok-push-2.ensures.items
    c.in_ok-count_line-2.ensures in
    let l3 : List ℕ = count_line (codes "pending") c.args.counts.now.pending in
    let e3 : c.push-3.new.self.items ≡ l1 ∷ l2 ∷ l3 ∷ [] =
    pushed c.push-2.new.self.items c.push-3.new.self.items (l1 ∷ l2 ∷ []) c.in_ok-count_line-3.field-0 l3 e2 c.in_ok-push-3.ensures.items
    c.in_ok-count_line-3.ensures in
    let l4 : List ℕ = count_line (codes "running") c.args.counts.now.running in
    let e4 : c.push-4.new.self.items ≡ l1 ∷ l2 ∷ l3 ∷ l4 ∷ [] =
    pushed c.push-3.new.self.items c.push-4.new.self.items (l1 ∷ l2 ∷ l3 ∷ []) c.in_ok-count_line-4.field-0 l4 e3
    c.in_ok-push-4.ensures.items c.in_ok-count_line-4.ensures in
    let l5 : List ℕ = count_line (codes "removed") c.args.counts.now.removed in
    let e5 : c.push-5.new.self.items ≡ l1 ∷ l2 ∷ l3 ∷ l4 ∷ l5 ∷ [] =
    pushed c.push-4.new.self.items c.push-5.new.self.items (l1 ∷ l2 ∷ l3 ∷ l4 ∷ []) c.in_ok-count_line-5.field-0 l5 e4
    c.in_ok-push-5.ensures.items c.in_ok-count_line-5.ensures in
    let l6 : List ℕ = count_line (codes "finished") c.args.counts.now.finished in
    let e6 : c.push-6.new.self.items ≡ l1 ∷ l2 ∷ l3 ∷ l4 ∷ l5 ∷ l6 ∷ [] =
    pushed c.push-5.new.self.items c.push-6.new.self.items (l1 ∷ l2 ∷ l3 ∷ l4 ∷ l5 ∷ []) c.in_ok-count_line-6.field-0 l6 e5
    c.in_ok-push-6.ensures.items c.in_ok-count_line-6.ensures in
    let l7 : List ℕ = count_line (codes "not started") c.args.counts.now.not_started in
    let e7 : c.push-7.new.self.items ≡ l1 ∷ l2 ∷ l3 ∷ l4 ∷ l5 ∷ l6 ∷ l7 ∷ [] =
    pushed c.push-6.new.self.items c.push-7.new.self.items (l1 ∷ l2 ∷ l3 ∷ l4 ∷ l5 ∷ l6 ∷ []) c.in_ok-count_line-7.field-0 l7 e6
    c.in_ok-push-7.ensures.items c.in_ok-count_line-7.ensures in
    let l8 : List ℕ = count_line (codes "interrupted") c.args.counts.now.interrupted in
    let e8 : c.push-8.new.self.items ≡ l1 ∷ l2 ∷ l3 ∷ l4 ∷ l5 ∷ l6 ∷ l7 ∷ l8 ∷ [] =
    pushed c.push-7.new.self.items c.push-8.new.self.items (l1 ∷ l2 ∷ l3 ∷ l4 ∷ l5 ∷ l6 ∷ l7 ∷ []) c.in_ok-count_line-8.field-0 l8 e7
    c.in_ok-push-8.ensures.items c.in_ok-count_line-8.ensures in
    e8
