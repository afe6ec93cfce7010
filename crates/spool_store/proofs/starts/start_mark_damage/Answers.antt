use Rattle.std.proofs.Common.{Some, sym, ap, ◌∙◌}
use Rattle.spool_shows.specs.JobFiles.{file_of}
use Rattle.spool_shows.specs.Shown.{mark_damage}
use Rattle.spool_store.proofs.StartLemmas.{life_decides, start_decided, rows_tell, start_elsewhere, start_here, start_lost, start_open}
use Rattle.spool_store.proofs.starts.start_mark_damage.Goals as goal

pub returns-then-is_some : goal.returns-then-is_some
returns-then-is_some c = λ marks files tells are.
    start_decided marks files c.args.place c.in-Started.number c.in-Started.queue c.in-Started.second
    (life_decides marks c.args.lives.now c.in-Started.number c.get.result _ tells c.get.ensures (sym c.is_some.ensures ∙ c.if-is_some.true))
    ∙ ap (mark_damage marks files c.args.place) (sym c.in-Started.is)

pub returns-in-None : goal.returns-in-None
returns-in-None c = λ marks files tells are.
    ap Some c.gate_damage.ensures
    ∙ start_lost marks c.args.place c.in-Started.queue (file_of c.in-Started.number files) (sym c.in-None.ensures.absent
    ∙ rows_tell marks files c.args.rows.now c.in-Started.number are)
    ∙ start_open marks files c.args.place c.in-Started.number c.in-Started.queue c.in-Started.second
    (life_decides marks c.args.lives.now c.in-Started.number c.get.result _ tells c.get.ensures
    (sym c.is_some.ensures ∙ c.if-is_some.false))
    ∙ ap (mark_damage marks files c.args.place) (sym c.in-Started.is)

pub returns-in-Some-2 : goal.returns-in-Some-2
returns-in-Some-2 c = λ marks files tells are.
    ap Some c.queue_damage.ensures
    ∙ start_elsewhere marks c.args.place c.in-Started.queue (file_of c.in-Started.number files) c.in-Some.row.now
    (sym c.in-Some.ensures.found ∙ rows_tell marks files c.args.rows.now c.in-Started.number are) c.if-row-queue.false
    ∙ start_open marks files c.args.place c.in-Started.number c.in-Started.queue c.in-Started.second
    (life_decides marks c.args.lives.now c.in-Started.number c.get.result _ tells c.get.ensures
    (sym c.is_some.ensures ∙ c.if-is_some.false))
    ∙ ap (mark_damage marks files c.args.place) (sym c.in-Started.is)

pub returns-in-Some : goal.returns-in-Some
returns-in-Some c = λ marks files tells are.
    start_here marks c.args.place c.in-Started.queue (file_of c.in-Started.number files) c.in-Some.row.now (sym c.in-Some.ensures.found
    ∙ rows_tell marks files c.args.rows.now c.in-Started.number are) c.if-row-queue.true
    ∙ start_open marks files c.args.place c.in-Started.number c.in-Started.queue c.in-Started.second
    (life_decides marks c.args.lives.now c.in-Started.number c.get.result _ tells c.get.ensures
    (sym c.is_some.ensures ∙ c.if-is_some.false))
    ∙ ap (mark_damage marks files c.args.place) (sym c.in-Started.is)
