use Rattle.std.proofs.Common.{sym, ap, ◌∙◌}
use Rattle.std.specs.Prelude.{Some}
use Rattle.spool_store.proofs.HeaderLemmas.{begins_as_job, found_is_its, has_its}
use Rattle.spool_store.proofs.ScriptLemmas.{found_holds}
use Rattle.spool_store.proofs.store.Store.header.Goals as goal

pub returns-in-Some-clause-header : goal.returns-in-Some-clause-header
returns-in-Some-clause-header g c = λ tells table current.
    let directory = (g.H.Host.world c.args.host.now).now.directory in
    let name = c.unwrap-name.result in
    let is = begins_as_job c.args.self.now directory table c.args.number name c.as_slice.result.now current
    (found_holds table directory c.args.number _ name c.unwrap-name.ensures (c.file.ensures.holds directory table current))
    (c.in_ok-bytes.ensures.bytes tells ∙ ap Some (sym c.as_slice.ensures.value)) in
    found_is_its table c.args.number c.as_slice.result.now c.in-Some.found is (c.in-Some.ensures.only is.of.job.user is.mail is.begins)

pub returns-clause-header : goal.returns-clause-header
returns-clause-header g c = λ tells table current.
    let directory = (g.H.Host.world c.args.host.now).now.directory in
    let name = c.unwrap-name.result in
    let is = begins_as_job c.args.self.now directory table c.args.number name c.as_slice.result.now current
    (found_holds table directory c.args.number _ name c.unwrap-name.ensures (c.file.ensures.holds directory table current))
    (c.in_ok-bytes.ensures.bytes tells ∙ ap Some (sym c.as_slice.ensures.value)) in
    absurd (c.in-None.ensures.read (has_its table c.args.number c.as_slice.result.now is))
