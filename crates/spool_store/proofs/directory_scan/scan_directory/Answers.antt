use Rattle.std.proofs.Common.{◌≡◌, sym, ap, subst, ◌∙◌, refl}
use Rattle.std.specs.Prelude.{Ok, Err}
use Rattle.std.specs.FinMap as finite
use Rattle.std.specs.FinMap.{entries}
use Rattle.host_calls.specs.World.{reading}
use Rattle.sequence_file.specs.Faults.{IsSequenceDamage}
use Rattle.sequence_file.specs.Sequence.{sequence_file}
use Rattle.start_journal.specs.Journals.{journal_file, journal_in}
use Rattle.spool_shows.specs.Shown.{damage_of_jobs, shown_by}
use Rattle.sequence_file.proofs.LastNumbers.{last_damage, last_given}
use Rattle.spool_store.specs.inside.Scan.{AreScannedFiles}
use Rattle.spool_store.specs.inside.ScannedJobs.{files_scanned, old_form_numbers}
use Rattle.spool_store.specs.inside.Tables.{AreUndecided, IsTableShown}
use Rattle.spool_store.proofs.ShownLemmas.{found_damage, is_scan, jobs_damage, journal_damage, number_damage, recalled_damage, sequence_damage}
use Rattle.spool_store.specs.Stored.{AreInOldForm}
use Rattle.spool_store.proofs.RecoveryForms.{are_old_form}
use Rattle.spool_store.proofs.RecoveryEntries.{is_stored, scanned_named}
use Rattle.spool_store.proofs.directory_scan.scan_directory.Goals as goal

pub returns-in_err-number-clause-damaged : goal.returns-in_err-number-clause-damaged
returns-in_err-number-clause-damaged g c = λ tells.
    let files = reading (g.H.Host.world c.args.host.now) in
    sequence_damage (λ damage. shown_by files ≡ Err damage) (IsSequenceDamage (finite.get files sequence_file)) c.in_err-number.field-0.0
    c.from_residual.result c.from_residual.ensures.1 (c.in_err-number.ensures.damaged tells)
    (λ damage is. number_damage files damage (last_damage (finite.get files sequence_file) damage is))

pub returns-in_err-journal-clause-damaged : goal.returns-in_err-journal-clause-damaged
returns-in_err-journal-clause-damaged g c = λ tells.
    let files = reading (g.H.Host.world c.args.host.now) in
    recalled_damage (λ damage. shown_by files ≡ Err damage) (λ damage. journal_in c.in_ok-number.number
    (finite.get (reading (g.H.Host.world c.last.new.host)) journal_file) ≡ Err damage) c.in_err-journal.field-0.0
    c.from_residual-in_err-journal.result c.from_residual-in_err-journal.ensures.1 (c.in_err-journal.ensures.damaged tells)
    (λ damage is. journal_damage files c.in_ok-number.number damage (last_given _ _ (c.in_ok-number.ensures.number tells))
    (ap (λ w. journal_in c.in_ok-number.number (finite.get (reading w) journal_file)) (sym (c.in_ok-number.ensures.looks tells)) ∙ is))

pub jobs_shown-requires-clause-undecided : goal.jobs_shown-requires-clause-undecided
jobs_shown-requires-clause-undecided g c =
    subst (λ marks. AreUndecided marks (files_scanned c.as_slice.result.now)) (sym c.marks.ensures.marks)
    (subst (λ scanned. AreUndecided c.in_ok-journal.journal.marks (files_scanned scanned)) (sym c.as_slice.ensures.value)
    (c.in_ok-scanned.ensures.undecided c.in_ok-journal.journal.marks c.in_ok-journal.ensures.lives))

pub returns-in_err-jobs-clause-damaged : goal.returns-in_err-jobs-clause-damaged
returns-in_err-jobs-clause-damaged g c = λ tells.
    let files = reading (g.H.Host.world c.args.host.now) in
    let last = c.in_ok-number.number in
    let journal = c.in_ok-journal.journal in
    let read : journal_in last (finite.get files journal_file) ≡ Ok journal =
    ap (λ w. journal_in last (finite.get (reading w) journal_file)) (sym (c.in_ok-number.ensures.looks tells))
    ∙ c.in_ok-journal.ensures.journal tells in
    let are : AreScannedFiles journal.marks (entries files) c.in_ok-scanned.field-0 =
    subst (λ w. AreScannedFiles journal.marks (entries (reading w)) c.in_ok-scanned.field-0) (c.in_ok-journal.ensures.looks tells
    ∙ c.in_ok-number.ensures.looks tells)
    (c.in_ok-scanned.ensures.scanned_files tells journal.marks c.in_ok-journal.ensures.lives) in
    found_damage (λ damage. shown_by files ≡ Err damage) (damage_of_jobs last c.marks.result.now (files_scanned c.as_slice.result.now))
    c.in_err-jobs.field-0.0 c.from_residual-in_err-jobs.result c.from_residual-in_err-jobs.ensures.1 c.in_err-jobs.ensures
    (jobs_damage files last journal c.in_ok-scanned.field-0 c.marks.result.now c.as_slice.result.now
    (last_given _ _ (c.in_ok-number.ensures.number tells)) read are c.marks.ensures.marks c.as_slice.ensures.value)

pub returns-clause-shown : goal.returns-clause-shown
returns-clause-shown g c = λ tells.
    let files = reading (g.H.Host.world c.args.host.now) in
    let last = c.in_ok-number.number in
    let journal = c.in_ok-journal.journal in
    let read : journal_in last (finite.get files journal_file) ≡ Ok journal =
    ap (λ w. journal_in last (finite.get (reading w) journal_file)) (sym (c.in_ok-number.ensures.looks tells))
    ∙ c.in_ok-journal.ensures.journal tells in
    let are : AreScannedFiles journal.marks (entries files) c.in_ok-scanned.field-0 =
    subst (λ w. AreScannedFiles journal.marks (entries (reading w)) c.in_ok-scanned.field-0) (c.in_ok-journal.ensures.looks tells
    ∙ c.in_ok-number.ensures.looks tells)
    (c.in_ok-scanned.ensures.scanned_files tells journal.marks c.in_ok-journal.ensures.lives) in
    is_scan files last journal c.in_ok-scanned.field-0 c.marks.result.now c.as_slice.result.now
    (last_given _ _ (c.in_ok-number.ensures.number tells)) read are c.marks.ensures.marks c.as_slice.ensures.value _ refl
    (c.in_ok-old_form.ensures
    ∙ ap (λ scanned. old_form_numbers (files_scanned scanned)) (c.as_slice-2.ensures.value ∙ sym c.as_slice.ensures.value))
    refl c.in_ok-jobs.ensures

pub returns-clause-stored : goal.returns-clause-stored
returns-clause-stored g c =
    let last = c.in_ok-number.number in
    let journal = c.in_ok-journal.journal in
    let scanned = c.as_slice.result.now in
    let shown =
    subst (λ marks. IsTableShown last marks (files_scanned scanned) c.in_ok-jobs.jobs) c.marks.ensures.marks c.in_ok-jobs.ensures in
    is_stored last journal.marks (files_scanned scanned) (record {
      few = c.in_ok-number.ensures.few;
      legal = c.marks.ensures.legal;
      writable = c.marks.ensures.writable;
      drawn = c.in_ok-journal.ensures.drawn;
      undecided = subst (λ list. AreUndecided journal.marks (files_scanned list)) (sym c.as_slice.ensures.value)
          (c.in_ok-scanned.ensures.undecided journal.marks c.in_ok-journal.ensures.lives);
      named = scanned_named scanned;
      whole = shown.0;
    }) c.in_ok-jobs.jobs shown journal.free c.in_ok-old_form.old_form.items
    (subst AreInOldForm (sym c.in_ok-old_form.ensures) (are_old_form c.as_slice-2.result.now))
