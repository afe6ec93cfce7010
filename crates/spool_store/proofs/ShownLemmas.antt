-- A scan finds what the directory shows.
use Rattle.std.proofs.Common.{◌≡◌, ℕ, List, Option, Some, map, sym, ap, subst, ◌∙◌, refl}
use Rattle.std.specs.Prelude.{Result, Ok, Err, IsErrAnd}
use Rattle.std.specs.FinMap as finite
use Rattle.std.specs.FinMap.{entries, get-entries}
use Rattle.host_calls.specs.declared.damage.Damage.{Damage}
use Rattle.host_calls.specs.Directory.{Files}
use Rattle.sequence_file.specs.declared.fault.SequenceFault.{SequenceFault}
use Rattle.sequence_file.specs.declared.fault.SequenceFault.TheVariants as sequence
use Rattle.sequence_file.specs.Sequence.{sequence_file}
use Rattle.start_journal.specs.declared.fault.JournalFault.{JournalFault}
use Rattle.start_journal.specs.declared.fault.JournalFault.TheVariants as journal
use Rattle.start_journal.specs.declared.mark.Mark.{Mark}
use Rattle.start_journal.specs.Journals.{JournalRead, journal_file, journal_in}
use Rattle.step_runs.specs.WithoutScripts.{without_scripts}
use Rattle.spool_shows.specs.JobFiles.{job_files}
use Rattle.sequence_file.specs.LastNumber.{last_in}
use Rattle.spool_shows.specs.Shown.{damage_of_jobs, shown_after_journal, shown_after_last, shown_by, shown_by_files, table_or_damage, table_shown}
use Rattle.host_calls.specs.declared.store_fault.StoreFault.{StoreFault}
use Rattle.host_calls.specs.declared.store_fault.StoreFault.TheVariants.{Damaged}
use Rattle.spool_store.specs.declared.scanned_files.ScannedFiles.{ScannedFiles}
use Rattle.spool_store.specs.declared.directory_scan.RecoveryScan.{RecoveryScan}
use Rattle.spool_store.specs.declared.scanned_job.ScannedJob.{ScannedJob}
use Rattle.host_calls.specs.Damages.{IfDamaged}
use Rattle.host_calls.specs.StoreFaults.{IsFound}
use Rattle.sequence_file.specs.Faults.{fault_of_sequence}
use Rattle.start_journal.specs.JournalFaults.{fault_of_journal}
use Rattle.std.specs.List.{filter}
use Rattle.spool_store.specs.inside.Scan.{AreScannedFiles, IsScan, is_left_over}
use Rattle.spool_store.specs.inside.ScannedJobs.{files_scanned, old_form_numbers}
use Rattle.spool_store.specs.inside.Tables.{IsTableShown}
use Rattle.spool_store.proofs.RecoveryForms.{old_form_same}
use Rattle.spool_shows.proofs.CutFiles.{cut, files_cut}
use Rattle.spool_store.proofs.PrefixLemmas.{damage_of_jobs_same, table_same}

-- Answers that are a damage.

-- a fault that is the fault of this damage
of_damage : {T : Type 0} (fault : StoreFault) (result : Result T StoreFault) (damage : Damage) → IsErrAnd result (λ one. one ≡ fault)
    → result ≡ Err (Damaged damage) → fault ≡ Damaged damage
of_damage fault (Ok value) damage is same = absurd is
of_damage {T} fault (Err one) damage is same = sym is ∙ inner same where
  inner : ◌≡◌ {A = Result T StoreFault} (Err one) (Err (Damaged damage)) → one ≡ Damaged damage
  inner same = cc

pub sequence_damage : {T : Type 0} → (P Q : Damage → Type 0) (f : SequenceFault) (result : Result T StoreFault)
    → IsErrAnd result (λ fault. fault ≡ fault_of_sequence f) → IfDamaged {T = ℕ} sequence.Damaged Q (Err f)
    → ((damage : Damage) → Q damage → P damage) → IfDamaged Damaged P result
sequence_damage P Q f result is of go = λ damage same. by_fault f of damage (of_damage (fault_of_sequence f) result damage is same) where
  by_fault : (one : SequenceFault) → IfDamaged {T = ℕ} sequence.Damaged Q (Err one) → (damage : Damage)
      → fault_of_sequence one ≡ Damaged damage → P damage
  by_fault (sequence.Damaged other) of damage same = let here : other ≡ damage = cc in subst P here (go other (of other refl))
  by_fault sequence.Failed of damage same = cc
  by_fault sequence.Memory of damage same = cc

pub recalled_damage : {S T : Type 0} → (P Q : Damage → Type 0) (f : JournalFault) (result : Result T StoreFault)
    → IsErrAnd result (λ fault. fault ≡ fault_of_journal f) → IfDamaged {T = S} journal.Damaged Q (Err f)
    → ((damage : Damage) → Q damage → P damage) → IfDamaged Damaged P result
recalled_damage {S = S} P Q f result is of go = λ damage same. by_fault f of damage (of_damage (fault_of_journal f) result damage is same)
  where
    by_fault : (one : JournalFault) → IfDamaged {T = S} journal.Damaged Q (Err one) → (damage : Damage)
        → fault_of_journal one ≡ Damaged damage → P damage
    by_fault (journal.Damaged other) of damage same = let here : other ≡ damage = cc in subst P here (go other (of other refl))
    by_fault journal.Failed of damage same = cc
    by_fault journal.Memory of damage same = cc

pub found_damage : {T : Type 0} → (P : Damage → Type 0) (found : Option Damage) (f : StoreFault) (result : Result T StoreFault) → IsErrAnd
    result (λ fault. fault ≡ f) → IsFound found f → ((damage : Damage) → found ≡ Some damage → P damage) → IfDamaged Damaged P result
found_damage P found f result is of go = λ damage same. go damage (subst (IsFound found) (of_damage f result damage is same) of)

-- What is shown.

pub number_damage : (files : Files) (damage : Damage) → last_in (finite.get files sequence_file) ≡ Err damage → shown_by files ≡ Err damage
unfolding shown_by
number_damage files damage is =
    ap (λ number. shown_after_last number (entries files)) (ap last_in (sym (get-entries files sequence_file)) ∙ is)

shown_at : (files : Files) (last : ℕ) → last_in (finite.get files sequence_file) ≡ Ok last
    → shown_by files ≡ shown_after_journal last (journal_in last (finite.get files journal_file)) (entries files)
unfolding shown_by
shown_at files last is =
    ap (λ number. shown_after_last number (entries files)) (ap last_in (sym (get-entries files sequence_file)) ∙ is)
    ∙ ap (λ content. shown_after_journal last (journal_in last content) (entries files)) (sym (get-entries files journal_file))

pub journal_damage : (files : Files) (last : ℕ) (damage : Damage) → last_in (finite.get files sequence_file) ≡ Ok last
    → journal_in last (finite.get files journal_file) ≡ Err damage → shown_by files ≡ Err damage
journal_damage files last damage number is = shown_at files last number ∙ ap (λ read. shown_after_journal last read (entries files)) is

module _ (files : Files) (last : ℕ) (journal : JournalRead) (scanned_files : ScannedFiles) (marks : List Mark) (slice : List ScannedJob)
    (number : last_in (finite.get files sequence_file) ≡ Ok last) (read : journal_in last (finite.get files journal_file) ≡ Ok journal)
    (are : AreScannedFiles journal.marks (entries files) scanned_files) (marks_is : marks ≡ journal.marks)
    (slice_is : slice ≡ scanned_files.scanned.items) where
  shown_of : shown_by files ≡ shown_by_files last journal.marks (job_files journal.marks (entries files))
  shown_of = shown_at files last number ∙ ap (λ one. shown_after_journal last one (entries files)) read

  scanned_is : files_scanned slice ≡ map cut (job_files journal.marks (entries files))
  scanned_is = ap files_scanned slice_is ∙ are.scanned ∙ files_cut journal.marks (entries files)

  damage_is : damage_of_jobs last marks (files_scanned slice) ≡ damage_of_jobs last journal.marks (job_files journal.marks (entries files))
  damage_is = (λ i. damage_of_jobs last (marks_is i) (scanned_is i))
      ∙ damage_of_jobs_same last journal.marks (job_files journal.marks (entries files))

  pub jobs_damage : (damage : Damage) → damage_of_jobs last marks (files_scanned slice) ≡ Some damage → shown_by files ≡ Err damage
  jobs_damage damage is = shown_of ∙ ap (table_or_damage last journal.marks (job_files journal.marks (entries files))) (sym damage_is ∙ is)

  pub is_scan : (scan : RecoveryScan) → scan.journal ≡ journal → scan.old_form.items ≡ old_form_numbers (files_scanned slice)
      → scan.leftover.items ≡ scanned_files.leftover.items → IsTableShown last marks (files_scanned slice) scan.jobs → IsScan files scan
  is_scan scan journal_same old_form left shown = record {
    table = table_shown last journal.marks (job_files journal.marks (entries files));
    shows = shown_of ∙ ap (table_or_damage last journal.marks (job_files journal.marks (entries files))) (sym damage_is ∙ shown.0);
    jobs = shown.1 ∙ (λ i. without_scripts (table_shown last (marks_is i) (scanned_is i)))
        ∙ table_same last journal.marks (job_files journal.marks (entries files));
    journal = read ∙ ap Ok (sym journal_same);
    old_form = old_form ∙ ap old_form_numbers scanned_is ∙ old_form_same cut (λ file. refl) (job_files journal.marks (entries files))
        ∙ ap (λ (one : JournalRead). old_form_numbers (job_files one.marks (entries files))) (sym journal_same);
    leftover = left ∙ are.leftover ∙ ap (λ (one : JournalRead). filter (is_left_over one.marks) (finite.keys files)) (sym journal_same);
  }
