use Rattle.std.proofs.Common.{◌∙◌, ◌++◌, ap, drop, length, min, replicate, take}
use Rattle.unix_host.proofs.PrefixLemmas.{padded_bytes, sixteen_bytes}
use Rattle.unix_host.proofs.listed_files.prefix_of.Goals as goal

pub returns-clause-number : goal.returns-clause-number
returns-clause-number c =
    let name = c.args.name.now in
    let count = c.min-count.result in
    let first = c.copy_from_slice.new.self in
    let bytes = c.as_bytes-bytes.ensures.bytes in
    c.from_be_bytes.ensures
    ∙ sixteen_bytes (first ++ drop count (replicate 16 0)) name
    (padded_bytes count name first (c.min-count.ensures ∙ ap (λ list. min (length list) 16) bytes)
    (c.copy_from_slice.ensures.after ∙ ap (take count) bytes))
