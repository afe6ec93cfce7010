use Rattle.std.proofs.Common.{◌≡◌, ◌==◌, ℕ, true, ◌∙◌, refl, rules}
use Rattle.std.proofs.lemmas.List.Sorted.{answers_always}
use Rattle.spool_model.specs.declared.turn_step.TurnStep.{TurnStep}
use Rattle.spool_model.specs.declared.turn_step.TurnStep.TheVariants.{HandedOver, Ended, Interrupted, Forgotten}
use Rattle.daemon_turn.specs.Kids.{tells_end_of}
use Rattle.spool_model.specs.StepsOf.{number_of_step}
use Rattle.daemon_turn.specs.inside.Ended.{is_end}
use Rattle.step_runs.proofs.ApartLemmas.{all_each, any_alike, found_by}
use Rattle.daemon_turn.proofs.kids.has_ended.Goals as goal

-- of an end, the number alone says whose it is
end_tells : (number : ℕ) (step : TurnStep) → is_end step ≡ true → (number_of_step step == number) ≡ tells_end_of number step
end_tells number (HandedOver other second) is = cc
end_tells number (Ended other ending) is = refl
end_tells number (Interrupted other) is = cc
end_tells number (Forgotten other) is = cc

pub returns : goal.returns
returns c =
    c.is_ok.ensures.value
    ∙ found_by number_of_step c.args.ended.now c.args.number c.binary_search_by_key.result c.requires.ordered
    c.binary_search_by_key.ensures.bound
    (c.binary_search_by_key.ensures.position number_of_step (answers_always _ _ _ (λ f a r g called. search rules)))
    ∙ any_alike (λ step. number_of_step step == c.args.number) (tells_end_of c.args.number) c.args.ended.now
    (λ step has. end_tells c.args.number step (all_each (λ one. is_end one ≡ true) c.args.ended.now c.requires.each step has))
