use Rattle.std.proofs.Common.{ap, sym, ◌∙◌}
use Rattle.std.specs.BTreeMap.{get}
use Rattle.host_calls.specs.Directory.{name_cmp}
use Rattle.memory_host.specs.inside.Table.{now_part, durable_part}
use Rattle.memory_host.proofs.TableLemmas.{not_some, put-same_now, put-same_durable}
use Rattle.memory_host.proofs.name_table.NameTable.reserve.Goals as goal

pub returns-in_ok-insert-clause-now : goal.returns-in_ok-insert-clause-now
returns-in_ok-insert-clause-now c =
    let none = not_some (get name_cmp c.args.self.now.held c.args.target.now) (sym c.contains_key.ensures ∙ c.if-not-contains_key.true) in
    put-same_now c.args.target.now _ c.args.self.now.held c.insert.new.self c.in_ok-insert.ensures.updates.0 (sym (ap now_part none))

pub returns-in_ok-insert-clause-durable : goal.returns-in_ok-insert-clause-durable
returns-in_ok-insert-clause-durable c =
    let none = not_some (get name_cmp c.args.self.now.held c.args.target.now) (sym c.contains_key.ensures ∙ c.if-not-contains_key.true) in
    put-same_durable c.args.target.now _ c.args.self.now.held c.insert.new.self c.in_ok-insert.ensures.updates.0
    (sym (ap durable_part none))
