use Rattle.std.proofs.Common.{◌∙◌, ap, filter, rules}
use Rattle.std.proofs.lemmas.Fn.{filter_same}
use Rattle.mail_session.specs.Stale.{is_stale}
use Rattle.mail_session.proofs.stale.stale_names.Goals as goal

pub returns-clause-names : goal.returns-clause-names
returns-clause-names g c = λ known.
    filter_same _ _ _ (λ x b f' k. search rules) _ _ c.retain.ensures.filtered
    ∙ ap (filter (is_stale c.args.kids.now)) (c.in_ok-names.ensures.listed known)
