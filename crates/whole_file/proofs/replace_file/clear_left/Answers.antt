use Rattle.std.proofs.Common.{[], ◌∷◌, subst}
use Rattle.host_calls.specs.World.{World}
use Rattle.std.specs.Prelude.{OnOk}
use Rattle.whole_file.specs.Removal.{AreCleared}
use Rattle.whole_file.proofs.ReplaceLemmas.{removed}
use Rattle.whole_file.proofs.replace_file.clear_left.Goals as goal

pub returns-clause-gone : goal.returns-clause-gone
returns-clause-gone g c = λ known.
    removed c.clear.result c.args.name.now (g.H.Host.world c.args.host.now).now.directory (g.H.Host.world c.clear.new.host).now.directory
    (subst (λ (from : World).
    OnOk c.clear.result (AreCleared (c.args.name.now ∷ []) from.now.directory (g.H.Host.world c.clear.new.host).now.directory))
    (c.in_ok-content.ensures.looks known) (c.clear.ensures.cleared known (λ none. (cc))))
