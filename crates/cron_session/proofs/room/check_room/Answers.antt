use Rattle.std.proofs.Common.{◌≡◌, arith, length}
use Rattle.spool_model.specs.Lists.{live_count}
use Rattle.spool_store.proofs.CountLemmas.{rows_counted}
use Rattle.cron_session.proofs.room.check_room.Goals as goal

pub returns-then-rows-count-gt-MAX_LIVE-clause-refused : goal.returns-then-rows-count-gt-MAX_LIVE-clause-refused
returns-then-rows-count-gt-MAX_LIVE-clause-refused c =
    let counted : length c.rows.result.now ≡ live_count c.args.store.now.table =
    rows_counted c.args.store.now.table c.rows.result.now c.rows.ensures.rows in
    omega (arith, counted)

pub returns-then-last-count-clause-refused : goal.returns-then-last-count-clause-refused
returns-then-last-count-clause-refused c =
    let counted : length c.rows.result.now ≡ live_count c.args.store.now.table =
    rows_counted c.args.store.now.table c.rows.result.now c.rows.ensures.rows in
    record { room = omega (arith, counted); few = omega (arith, c.last.ensures.last) }

pub returns-clause-room : goal.returns-clause-room
returns-clause-room c =
    let counted : length c.rows.result.now ≡ live_count c.args.store.now.table =
    rows_counted c.args.store.now.table c.rows.result.now c.rows.ensures.rows in
    record { room = omega (arith, counted); numbers = omega (arith, c.last.ensures.last) }
