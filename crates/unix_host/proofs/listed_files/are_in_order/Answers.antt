use Rattle.std.proofs.Common.{◌∙◌, ap}
use Rattle.std.specs.Ordering.{is_ge}
use Rattle.unix_host.proofs.PrefixLemmas.{not_before, prefix_before}
use Rattle.unix_host.proofs.listed_files.are_in_order.Goals as goal

pub returns-then-one-other : goal.returns-then-one-other
returns-then-one-other c =
    let one = c.args.one.now in
    let other = c.args.other.now in
    prefix_before one.prefix other.prefix one.file.now.name other.file.now.name one.of_name other.of_name
    one.name_bytes other.name_bytes c.if-one-other.true

pub returns-else-one-other : goal.returns-else-one-other
returns-else-one-other c = c.is_ge.ensures ∙ ap is_ge c.cmp.ensures ∙ not_before _
