use Rattle.std.proofs.Common.{ap}
use Rattle.spool_store.proofs.RecoveryLemmas.{can_clear, clearing, has_settled, old_form_recovered, only_settled, recovered, settled_damage, settled_untouched, settling, uncleared, unsettled}
use Rattle.whole_file.proofs.ChangesJoined.{clears_alone}
use Rattle.spool_store.proofs.store.Store.recover.Goals as goal

pub returns-in_err-settle-clause-files : goal.returns-in_err-settle-clause-files
returns-in_err-settle-clause-files g c = λ tells. settling _ _ _ (c.settle.ensures.files tells)

pub returns-in_err-jobs-clause-files : goal.returns-in_err-jobs-clause-files
returns-in_err-jobs-clause-files g c = λ tells. only_settled _ _ _ _ (c.settle.ensures.files tells) (c.scan_directory.ensures.looks tells)

pub returns-in_err-jobs-clause-recovered : goal.returns-in_err-jobs-clause-recovered
returns-in_err-jobs-clause-recovered g c = λ tells.
    settled_damage _ _ _ _ c.in_err-jobs.field-0.0 c.from_residual-in_err-jobs.result (c.in_ok-settle.ensures.files tells)
    (c.scan_directory.ensures.looks tells) c.from_residual-in_err-jobs.ensures.1
    c.in_err-jobs.ensures.of_reading (c.in_err-jobs.ensures.damaged tells)

pub clear-requires-clause-held : goal.clear-requires-clause-held
clear-requires-clause-held g c = λ tells.
    can_clear _ _ c.in_ok-jobs.field-0 (has_settled _ _ _ _ _ (c.in_ok-settle.ensures.files tells) (c.in_ok-jobs.ensures.looks tells)
    (c.in_ok-jobs.ensures.shown tells)) _ c.as_slice.ensures.value

pub returns-in_err-clear-clause-files : goal.returns-in_err-clear-clause-files
returns-in_err-clear-clause-files g c = λ tells.
    clearing _ _ c.in_ok-jobs.field-0 (has_settled _ _ _ _ _ (c.in_ok-settle.ensures.files tells) (c.in_ok-jobs.ensures.looks tells)
    (c.in_ok-jobs.ensures.shown tells)) _ c.as_slice.ensures.value
    _ (clears_alone _ _ _ _ (c.clear.ensures.files tells))

pub invariant_of-result : goal.invariant_of-result
invariant_of-result g c = c.in_ok-jobs.ensures.stored

pub returns-clause-files : goal.returns-clause-files
returns-clause-files g c = λ tells.
    clearing _ _ c.in_ok-jobs.field-0 (has_settled _ _ _ _ _ (c.in_ok-settle.ensures.files tells) (c.in_ok-jobs.ensures.looks tells)
    (c.in_ok-jobs.ensures.shown tells)) _ c.as_slice.ensures.value
    _ (clears_alone _ _ _ _ (c.clear.ensures.files tells))

pub returns-clause-recovered : goal.returns-clause-recovered
returns-clause-recovered g c = λ tells.
    recovered _ _ c.in_ok-jobs.field-0 (has_settled _ _ _ _ _ (c.in_ok-settle.ensures.files tells) (c.in_ok-jobs.ensures.looks tells)
    (c.in_ok-jobs.ensures.shown tells)) _ c.as_slice.ensures.value
    _ (clears_alone _ _ _ _ (c.clear.ensures.files tells)) (λ none. ap g.H.Host.world (c.clear.ensures.nothing none))
    (c.in_ok-clear.ensures.cleared tells)

pub returns-in_err-jobs-clause-untouched : goal.returns-in_err-jobs-clause-untouched
returns-in_err-jobs-clause-untouched g c = λ tells.
    settled_untouched _ _ _ _ c.from_residual-in_err-jobs.result (c.in_ok-settle.ensures.files tells) (c.scan_directory.ensures.looks tells)

pub returns-in_err-settle-clause-recovered : goal.returns-in_err-settle-clause-recovered
returns-in_err-settle-clause-recovered g c =
    λ tells. unsettled _ _ _ c.in_err-settle.field-0.0 c.from_residual.result (c.settle.ensures.files tells) c.from_residual.ensures.1

pub returns-in_err-clear-clause-recovered : goal.returns-in_err-clear-clause-recovered
returns-in_err-clear-clause-recovered g c = λ tells.
    uncleared _ _ c.in_ok-jobs.field-0 (has_settled _ _ _ _ _ (c.in_ok-settle.ensures.files tells) (c.in_ok-jobs.ensures.looks tells)
    (c.in_ok-jobs.ensures.shown tells)) _ c.as_slice.ensures.value
    _ c.in_err-clear.field-0.0 c.from_residual-in_err-clear.result (clears_alone _ _ _ _ (c.clear.ensures.files tells))
    c.from_residual-in_err-clear.ensures.1

pub returns-clause-old_form : goal.returns-clause-old_form
returns-clause-old_form g c = λ tells. old_form_recovered _ _ _ (returns-clause-recovered g c tells)
