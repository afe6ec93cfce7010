use Rattle.std.proofs.Common.{arith}
use Rattle.cron_turn.proofs.ScheduleLemmas.{found_all, found_enough, found_more, found_none}
use Rattle.cron_turn.proofs.next.next_due.Goals as goal

pub loop-found-init : goal.loop-found-init
loop-found-init c =
    found_none c.args.zone.now c.args.entry.now c.args.from _ _ c.requires.from c.end_of_search-end.ensures c.new-minutes.ensures.items

pub loop-found-preserved : goal.loop-found-preserved
loop-found-preserved c =
    found_more c.args.zone.now c.args.entry.now c.args.from c.loop-found.now c.end_of_search-end.result c.loop-found._found c.in-Some.minute
    c.loop-found.minutes.items c.add_due_minute.new.minutes.items c.in_ok-next.next c.loop-found.invariant c.in_ok-next.ensures c.in-Some.is
    c.in_ok-add_due_minute-in-Some.ensures

pub returns-in-None : goal.returns-in-None
returns-in-None c =
    found_all c.args.zone.now c.args.entry.now c.args.from c.loop-found.now c.end_of_search-end.result c.loop-found._found c.args.count
    c.loop-found.minutes.items c.in_ok-next.next c.loop-found.invariant c.in_ok-next.ensures c.in-None.is c.end_of_search-end.ensures
    (omega (arith, c.loop-found-test.true))

pub returns : goal.returns
returns c =
    found_enough c.args.zone.now c.args.entry.now c.args.from c.loop-found.now c.end_of_search-end.result c.loop-found._found c.args.count
    c.loop-found.minutes.items c.loop-found.invariant c.end_of_search-end.ensures (omega arith)
