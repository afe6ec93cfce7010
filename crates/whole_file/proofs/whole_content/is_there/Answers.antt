use Rattle.std.proofs.Common.{◌∙◌}
use Rattle.host_calls.specs.World.{reading}
use Rattle.whole_file.proofs.ContentLemmas.{found_is}
use Rattle.whole_file.proofs.whole_content.is_there.Goals as goal

pub returns-clause-found : goal.returns-clause-found
returns-clause-found g c = λ tells.
    found_is (reading (g.H.Host.world c.args.host.now)) c.args.name.now c.deref.result.now c.contains.result (c.deref.ensures.value
    ∙ c.in_ok-names.ensures.listed tells) c.contains.ensures.value
