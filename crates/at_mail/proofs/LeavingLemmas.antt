-- What a trim leaves: used by trim_session.
use Rattle.std.proofs.Common.{◌≡◌, ◌∙◌, List, inl, inr, sym, ap, subst}
use Rattle.std.specs.Prelude.{Err}
use Rattle.std.specs.FinMap as finite
use Rattle.host_calls.specs.declared.fault.HostFault.{HostFault}
use Rattle.host_calls.specs.declared.fault.HostFault.TheVariants as host
use Rattle.host_calls.specs.StoreFaults.{store_fault_of}
use Rattle.host_calls.specs.SessionEnds.{end_after}
use Rattle.host_calls.specs.World.{World, reading}
use Rattle.spool_store.specs.Recovery.{IsRecovered}
use Rattle.step_runs.specs.Calls.{ShowsAsBefore}
use Rattle.step_runs.specs.Current.{Kept}
use Rattle.whole_file.specs.Others.{ChangesFiles}
use Rattle.whole_file.specs.Placement.{IsPlacing}
use Rattle.mail_notes.specs.declared.note.Note.{Note}
use Rattle.mail_notes.specs.Lines.{notes_text}
use Rattle.mail_notes.specs.Names.{mail_file, mail_temp}
use Rattle.mail_session.specs.SessionOutcome.{GivesNotes}
use Rattle.at_mail.specs.TrimOutcome.{IsTrimmed, TrimLeaves}
use Rattle.at_mail.specs.TrimmedNotes.{trimmed}
use Rattle.at_mail.specs.inside.TrimWrite.{IsTrimWritten}
use Rattle.at_mail.proofs.RewritingLemmas.{rewriting, rewritten, unchanged}
use Rattle.at_mail.proofs.StayingLemmas.{trimmed_alike}

module _ (kept : Kept) (old opened : World) (changes : ChangesFiles (ShowsAsBefore old.now.directory) old opened)
    (is : IsRecovered old.now.directory opened.now.directory kept) (notes : List Note)
    (gives : GivesNotes (finite.get (reading opened) mail_file) notes) where
  stay_alike : trimmed kept.table notes ≡ trimmed is.table notes
  stay_alike = trimmed_alike kept.table is.table notes is.current.without_scripts_is

  module _ (read new : World) (looks : read ≡ opened)
      (places : ChangesFiles (IsPlacing mail_temp mail_file (notes_text (trimmed kept.table notes)) read.now.directory) read new) where
    placed_on : ChangesFiles (IsPlacing mail_temp mail_file (notes_text (trimmed kept.table notes)) opened.now.directory) opened new
    placed_on = subst (λ (from : World).
        ChangesFiles (IsPlacing mail_temp mail_file (notes_text (trimmed kept.table notes)) from.now.directory) from new) looks places

    -- the replacement was stopped
    pub leaves_stopped : (of : HostFault) → TrimLeaves old new (end_after (Err (store_fault_of of)))
    leaves_stopped host.Failed = inr (
      is.table,
      notes,
      rewriting kept old opened changes is notes gives (trimmed is.table notes) _
          (ap notes_text stay_alike) new placed_on,
    )
    leaves_stopped host.Memory = inr (
      is.table,
      notes,
      rewriting kept old opened changes is notes gives (trimmed is.table notes) _
          (ap notes_text stay_alike) new placed_on,
    )

    -- or done
    pub leaves_trimmed : IsTrimWritten kept.table notes read new → IsTrimmed old new
    leaves_trimmed written = elim (subst (λ (from : World). IsTrimWritten kept.table notes from new) looks written) [
      | inl placed ↦ (
        is.table,
        notes,
        rewritten kept old opened changes is notes gives (trimmed is.table notes) _ (ap notes_text stay_alike) new placed_on placed,
      )
      | inr none ↦ subst (IsTrimmed old) (sym none.0) (
        is.table,
        notes,
        unchanged kept old opened changes is notes gives (trimmed is.table notes) _ (ap notes_text stay_alike) (sym none.1 ∙ stay_alike),
      )
    ]
