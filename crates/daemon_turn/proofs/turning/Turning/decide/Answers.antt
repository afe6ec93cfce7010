use Rattle.std.proofs.Common.{◌≡◌, ◌++◌, List, ap, sym, subst, ◌∙◌}
use Rattle.spool_model.specs.declared.turn_step.TurnStep.{TurnStep}
use Rattle.daemon_turn.specs.inside.Ended.{AreEndsByNumber, without_ended}
use Rattle.daemon_turn.proofs.DecideLemmas.{reported_ends, reported_slice, reported_without}
use Rattle.daemon_turn.proofs.turning.Turning.decide.Goals as goal

pub drop_ended-requires : goal.drop_ended-requires
drop_ended-requires g c =
    let made = c.make_decisions-made.ensures.made in
    let reported : c.deref.result.now ≡ made.part.steps = c.deref.ensures.value ∙ made.written
    ∙ ap (λ (l : List TurnStep). l ++ made.part.steps) c.requires.none in
    let slice = reported_slice c.args.interrupted.now _ made.part.steps c.deref.result.now c.min-first.result c.len.result
    c.requires.interrupted reported c.min-first.ensures (c.len.ensures ∙ sym c.deref.ensures.len) in
    subst AreEndsByNumber (sym slice)
    (reported_ends c.args.store.table c.args.self.now.kids.items made.part c.make_decisions-made.result made.decided c.requires.may.ordered)

pub returns : goal.returns
returns g c =
    let made = c.make_decisions-made.ensures.made in
    let reported : c.deref.result.now ≡ made.part.steps = c.deref.ensures.value ∙ made.written
    ∙ ap (λ (l : List TurnStep). l ++ made.part.steps) c.requires.none in
    let slice = reported_slice c.args.interrupted.now _ made.part.steps c.deref.result.now c.min-first.result c.len.result
    c.requires.interrupted reported c.min-first.ensures (c.len.ensures ∙ sym c.deref.ensures.len) in
    record {
      made = made;
      dropped = c.drop_ended.ensures ∙ ap (λ (l : List TurnStep). without_ended l c.make_decisions-made.new.self.kids.items) slice
          ∙ reported_without c.args.store.table c.args.self.now.kids.items made.part c.make_decisions-made.result made.decided
          c.requires.may.ordered c.make_decisions-made.new.self.kids.items
          ∙ ap (λ kids. without_ended made.part.steps kids.items) c.make_decisions-made.ensures.kids;
    }
