use Rattle.std.proofs.Common.{◌≡◌, ◌%◌, arith, refl, sym, ◌∙◌}
use Rattle.at_day.proofs.EventsMadeLemmas.{as_made, command_is, made_batch, made_last, made_later, made_listing, made_loaded, made_now, made_removal, made_turn}
use Rattle.at_day.proofs.made_event.made_event.Goals as goal

pub returns-then-number-eq0 : goal.returns-then-number-eq0
returns-then-number-eq0 c = as_made _ _ _
    (command_is c.args.number _ _ _ _ c.in_ok-at_now.ensures refl ∙ sym (made_now c.args.number c.if-number-eq0.true))
    c.submission_event.ensures

pub returns-then-number-eq1 : goal.returns-then-number-eq1
returns-then-number-eq1 c = as_made _ _ _
    (command_is c.args.number _ _ _ _ c.in_ok-at_now_later.ensures refl ∙ sym (made_later c.args.number c.if-number-eq1.true))
    c.submission_event-then-number-eq1.ensures

pub returns-then-number-eq2 : goal.returns-then-number-eq2
returns-then-number-eq2 c = as_made _ _ _
    (command_is c.args.number _ _ _ _ c.in_ok-one_word.ensures refl ∙ sym (made_batch c.args.number c.if-number-eq2.true))
    c.submission_event-then-number-eq2.ensures

pub returns-then-number-eq3 : goal.returns-then-number-eq3
returns-then-number-eq3 c = c.turn_event.ensures ∙ sym (made_turn c.args.number c.if-number-eq3.true)

pub returns-then-number-eq4 : goal.returns-then-number-eq4
returns-then-number-eq4 c = as_made _ _ _
    (command_is c.args.number _ _ _ _ c.in_ok-one_word-2.ensures c.empty_input.ensures
    ∙ sym (made_listing c.args.number c.if-number-eq4.true))
    c.command_event.ensures

pub returns-then-number-eq5 : goal.returns-then-number-eq5
returns-then-number-eq5 c = c.turn_event-then-number-eq5.ensures ∙ sym (made_loaded c.args.number c.if-number-eq5.true)

pub returns-then-number-eq6 : goal.returns-then-number-eq6
returns-then-number-eq6 c = as_made _ _ _
    (command_is c.args.number _ _ _ _ c.in_ok-removal.ensures c.empty_input-then-number-eq6.ensures
    ∙ sym (made_removal c.args.number c.if-number-eq6.true))
    c.command_event-then-number-eq6.ensures

pub returns : goal.returns
returns c =
    let is : c.args.number % 8 ≡ 7 = omega arith in
    c.last_of_eight.ensures ∙ sym (made_last c.args.number is)
