use Rattle.std.proofs.Common.{sym, ap, ◌∙◌}
use Rattle.std.specs.Prelude.{Some}
use Rattle.host_calls.specs.World.{World, bytes_from, reading}
use Rattle.spool_store.proofs.ScriptLemmas.{file_is_there, found_holds, script_read}
use Rattle.spool_store.proofs.store.Store.script.Goals as goal

pub length-requires-clause-held : goal.length-requires-clause-held
length-requires-clause-held g c = λ tells.
    let directory = (g.H.Host.world c.args.host.now).now.directory in
    let current = c.requires.current tells in
    file_is_there current.0 directory c.args.number c.unwrap-name.result
    (found_holds current.0 directory c.args.number _ c.unwrap-name.result c.unwrap-name.ensures
    (c.file.ensures.holds directory current.0 current.1))

pub returns-clause-script : goal.returns-clause-script
returns-clause-script g c = λ tells table current.
    let directory = (g.H.Host.world c.args.host.now).now.directory in
    script_read table directory c.args.number c.unwrap-name.result c.in_ok-length.length c.from.result
    (found_holds table directory c.args.number _ c.unwrap-name.result c.unwrap-name.ensures (c.file.ensures.holds directory table current))
    (c.in_ok-length.ensures.counted tells)
    (ap (λ (world : World). bytes_from (reading world) c.unwrap-name.result 0 c.in_ok-length.length)
    (sym (c.in_ok-length.ensures.looks tells))
    ∙ c.in_ok-bytes.ensures.bytes tells ∙ ap Some (sym c.from.ensures))
