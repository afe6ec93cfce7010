use Rattle.std.proofs.Common.{◌∙◌, rules}
use Rattle.std.proofs.lemmas.List.Sorted.{answers_always}
use Rattle.daemon_turn.specs.declared.kid.Kid.{Kid}
use Rattle.step_runs.proofs.ApartLemmas.{found_by}
use Rattle.daemon_turn.proofs.kids.has_kid.Goals as goal

pub returns : goal.returns
returns c =
    c.is_ok.ensures.value
    ∙ found_by (λ (kid : Kid). kid.number) c.args.kids.now c.args.number c.binary_search_by_key.result c.requires
    c.binary_search_by_key.ensures.bound
    (c.binary_search_by_key.ensures.position (λ (kid : Kid). kid.number) (answers_always _ _ _ (λ f a r g called. search rules)))
