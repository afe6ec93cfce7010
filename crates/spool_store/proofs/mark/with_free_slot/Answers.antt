use Rattle.spool_store.proofs.KeptMarks.{sound_is_legal}
use Rattle.spool_store.proofs.RoomLemmas.{compact_current, compact_stepping, sync_current, sync_stepping}
use Rattle.spool_store.proofs.mark.with_free_slot.Goals as goal

pub returns-in_err-needs_room-clause-legal : goal.returns-in_err-needs_room-clause-legal
returns-in_err-needs_room-clause-legal g c = sound_is_legal _ c.args.journal c.journal.view_is c.journal.invariant

pub returns-then-not-branch-clause-legal : goal.returns-then-not-branch-clause-legal
returns-then-not-branch-clause-legal g c = sound_is_legal _ c.args.journal c.journal.view_is c.journal.invariant

pub returns-in_err-sync_names-clause-legal : goal.returns-in_err-sync_names-clause-legal
returns-in_err-sync_names-clause-legal g c = sound_is_legal _ c.args.journal c.journal.view_is c.journal.invariant

pub returns-in_err-sync_names-clause-files : goal.returns-in_err-sync_names-clause-files
returns-in_err-sync_names-clause-files g c = λ tells old_form table current.
    sync_stepping table (g.H.Host.world c.args.host.now) _ c.sync_names.result current.shows (c.sync_names.ensures.files tells)

pub compact-requires-clause-holds : goal.compact-requires-clause-holds
compact-requires-clause-holds g c =
    λ tells. (sync_current _ _ _ _ (c.requires.current tells).2 (c.in_ok-sync_names.ensures.files tells).outcome).journal

pub returns-clause-legal : goal.returns-clause-legal
returns-clause-legal g c = sound_is_legal _ c.args.journal c.journal.view_is c.journal.invariant

pub returns-clause-files : goal.returns-clause-files
returns-clause-files g c = λ tells old_form table current. compact_stepping old_form c.args.journal table _ _ _ (record {
  current = current;
  synced = (c.in_ok-sync_names.ensures.files tells).outcome;
  syncs = sync_stepping table _ _ _ current.shows (c.sync_names.ensures.files tells);
  compacts = c.compact.ensures.files tells;
})

pub returns-clause-current : goal.returns-clause-current
returns-clause-current g c = λ tells old_form table current. compact_current old_form c.args.journal table _ _ _ (record {
  current = current;
  synced = (c.in_ok-sync_names.ensures.files tells).outcome;
  syncs = sync_stepping table _ _ _ current.shows (c.sync_names.ensures.files tells);
  compacts = c.compact.ensures.files tells;
}) c.compact.result c.compact.ensures.journal (c.compact.ensures.compacted tells)
