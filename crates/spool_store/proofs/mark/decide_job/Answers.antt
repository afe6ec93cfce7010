use Rattle.spool_store.proofs.DecideLemmas.{decided_held, one_more}
use Rattle.spool_store.proofs.DecidedFiles.{cleared_call, uncleared_call, unmarked_call}
use Rattle.whole_file.proofs.ChangesJoined.{clears_alone}
use Rattle.spool_store.proofs.mark.decide_job.Goals as goal

pub add_mark-requires-clause-current : goal.add_mark-requires-clause-current
add_mark-requires-clause-current g c = λ tells.
    ((c.requires.current tells).0, (c.requires.current tells).1, (c.requires.current tells).2, (c.requires.current tells).3.is_mark)

pub returns-in_err-journal-clause-files : goal.returns-in_err-journal-clause-files
returns-in_err-journal-clause-files g c = λ tells old_form table step decision. unmarked_call old_form table step _ _
    (c.add_mark.ensures.files tells old_form table step decision.is_mark) c.from_residual.result c.from_residual.ensures.0

pub clear-requires-clause-held : goal.clear-requires-clause-held
clear-requires-clause-held g c = λ tells. decided_held _ c.args.journal _ (g.H.Host.world c.add_mark.new.host).now.directory _ _ c.args.mark
    c.args.file.now (c.requires.current tells).3 (c.in_ok-journal.ensures.others tells)

pub returns-in_err-clear-clause-files : goal.returns-in_err-clear-clause-files
returns-in_err-clear-clause-files g c = λ tells old_form table step decision.
    uncleared_call old_form c.args.journal c.in_ok-journal.journal table step c.args.mark c.args.file.now _ _ _ (record {
      decision = decision;
      legal = c.add_mark.ensures.legal;
      more = one_more _ _ _ c.in_ok-journal.ensures.journal;
      marked = c.in_ok-journal.ensures.marked tells old_form table step decision.is_mark;
      keeps = c.in_ok-journal.ensures.others tells;
      adds = c.add_mark.ensures.files tells old_form table step decision.is_mark;
      clears = clears_alone _ _ _ _ (c.clear.ensures.files tells);
    }) c.from_residual-in_err-clear.result c.from_residual-in_err-clear.ensures.0

pub returns-clause-files : goal.returns-clause-files
returns-clause-files g c = λ tells old_form table step decision.
    cleared_call old_form c.args.journal c.in_ok-journal.journal table step c.args.mark c.args.file.now _ _ _ (record {
      decision = decision;
      legal = c.add_mark.ensures.legal;
      more = one_more _ _ _ c.in_ok-journal.ensures.journal;
      marked = c.in_ok-journal.ensures.marked tells old_form table step decision.is_mark;
      keeps = c.in_ok-journal.ensures.others tells;
      adds = c.add_mark.ensures.files tells old_form table step decision.is_mark;
      clears = clears_alone _ _ _ _ (c.clear.ensures.files tells);
    }) (c.in_ok-clear.ensures.cleared tells (λ none. cc))
