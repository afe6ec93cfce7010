use Rattle.std.proofs.Common.{rules, tests}
use Rattle.std.specs.Prelude.{is_some}
use Rattle.std.proofs.lemmas.Iterator.{items_from_collect, YieldsList-from_map}
use Rattle.std.proofs.lemmas.Iterator.Consumers.{YieldsList-at, YieldsList-from_filter, YieldsList-from_rest}
use Rattle.memory_host.proofs.name_table.NameTable.names.Goals as goal

pub returns-clause-names : goal.returns-clause-names
returns-clause-names c =
    items_from_collect c.collect.result c.collect.ensures.ran (YieldsList-from_map _ (λ entry. entry.0)
    (YieldsList-at c.map.ensures.source (YieldsList-from_filter _ (λ entry. is_some entry.1.now) (YieldsList-at c.filter.ensures.source
    (YieldsList-from_rest c.args.self.now.held.entries c.iter.ensures.rest)) c.filter.ensures.closure (λ x b q k. search (rules, tests))))
    c.map.ensures.closure (λ x r q k. search (rules, tests)))
