use Rattle.std.proofs.Common.{[], ◌∷◌}
use Rattle.spool_store.proofs.AddLemmas.{add_marked, add_stepping, keeps_through, legal_still}
use Rattle.whole_file.proofs.ChangesJoined.{changes_weaker}
use Rattle.spool_store.proofs.MarkingCalls.{stepping_more}
use Rattle.spool_store.proofs.mark.add_mark.Goals as goal

pub with_free_slot-requires-clause-current : goal.with_free_slot-requires-clause-current
with_free_slot-requires-clause-current g c =
    λ tells. ((c.requires.current tells).0, (c.requires.current tells).1, (c.requires.current tells).3.current)

pub returns-in_err-journal-clause-files : goal.returns-in_err-journal-clause-files
returns-in_err-journal-clause-files g c = λ tells old_form table step is.
    changes_weaker _ _ _ _ (stepping_more table (step ∷ []) _) (c.with_free_slot.ensures.files tells old_form table is.current)

pub add-requires-clause-legal : goal.add-requires-clause-legal
add-requires-clause-legal g c =
    legal_still c.args.journal _ c.args.mark c.with_free_slot.ensures.legal c.requires.legal c.in_ok-journal.ensures.journal

pub returns-clause-files : goal.returns-clause-files
returns-clause-files g c =
    λ tells old_form table step is. add_stepping old_form c.args.journal c.in_ok-journal.journal table step c.args.mark _ _ _ (record {
      is_mark = is;
      current = c.in_ok-journal.ensures.current tells old_form table is.current;
      keeps = c.in_ok-journal.ensures.others tells;
      makes_room = c.with_free_slot.ensures.files tells old_form table is.current;
      adds = c.add.ensures.files tells;
    })

pub returns-clause-marked : goal.returns-clause-marked
returns-clause-marked g c =
    λ tells old_form table step is. add_marked old_form c.args.journal c.in_ok-journal.journal table step c.args.mark _ _ _ (record {
      is_mark = is;
      current = c.in_ok-journal.ensures.current tells old_form table is.current;
      keeps = c.in_ok-journal.ensures.others tells;
      makes_room = c.with_free_slot.ensures.files tells old_form table is.current;
      adds = c.add.ensures.files tells;
    }) c.add.result c.add.ensures.journal (c.add.ensures.added tells)

pub returns-clause-others : goal.returns-clause-others
returns-clause-others g c =
    λ tells. keeps_through (g.H.Host.world c.args.host.now).now.directory (g.H.Host.world c.with_free_slot.new.host).now.directory
    (g.H.Host.world c.add.new.host).now.directory _ c.add.result (c.in_ok-journal.ensures.others tells) (c.add.ensures.added tells)
