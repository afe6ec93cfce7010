use Rattle.std.proofs.Common.{sym, ap, ◌∙◌}
use Rattle.start_journal.specs.Stages.{allows}
use Rattle.start_journal.proofs.LifecycleLemmas.{life_allows}
use Rattle.start_journal.proofs.lifecycles.Lifecycles.allow.Goals as goal

pub returns-in-Some : goal.returns-in-Some
returns-in-Some c = λ marks tell.
    c.allows.ensures ∙ ap (λ stage. allows stage c.args.mark) c.stage_at.ensures
    ∙ life_allows marks c.args.self.now c.in-Some.number c.args.mark (sym c.number.ensures ∙ c.in-Some.is) tell
