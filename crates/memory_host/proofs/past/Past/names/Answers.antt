use Rattle.std.proofs.Common.{ap, ◌∙◌}
use Rattle.std.specs.FinMap as finite
use Rattle.std.proofs.lemmas.Result.{IfOk-weaker}
use Rattle.host_calls.specs.Directory.{reading_of}
use Rattle.memory_host.specs.inside.Story.{state_of}
use Rattle.memory_host.proofs.NamesLemmas.{names_known}
use Rattle.memory_host.proofs.past.Past.names.Goals as goal

pub returns : goal.returns
returns c =
    let same = names_known c.self.inside.names.held c.names.ensures.found (state_of _).directory c.names.ensures.ordered
    c.self.invariant.named.now_names ∙ ap (λ story. finite.keys (reading_of (state_of story).directory)) c.self.view_is in
    IfOk-weaker c.names.result _ _ (λ names is. is ∙ same) c.names.ensures.names
