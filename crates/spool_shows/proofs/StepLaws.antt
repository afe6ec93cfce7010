-- The laws of changes, of what a directory shows.
use Rattle.host_calls.specs.Directory.{Files}
use Rattle.spool_model.specs.JobTable.{JobTable}
use Rattle.spool_shows.specs.ByName.{ShowsByName}
use Rattle.spool_shows.specs.Laws.{AcceptsAreShown, CompactionsAreShown, DrawsAreShown, LegalStepsAddLegalMarks, MarksAreShown, RewritesAreShown}
use Rattle.spool_shows.specs.Shown.{Shows}
use Rattle.spool_shows.proofs.AcceptLemmas.{accepted_by_name}
use Rattle.spool_shows.proofs.ByNameLemmas.{directories_are_shown_by_name}
use Rattle.spool_shows.proofs.Compacted.{compacted_by_name}
use Rattle.spool_shows.proofs.DrawLemmas.{drawn_by_name}
use Rattle.spool_shows.proofs.RewriteLemmas.{rewritten_by_name}
use Rattle.spool_shows.proofs.StepLegal.{legal_marks_by_name}
use Rattle.spool_shows.proofs.StepMarks.{marked_by_name}

-- to and from the names and numbers
pub by_name : (files : Files) (table : JobTable) → Shows files table → ShowsByName files table
by_name files table = (directories_are_shown_by_name files table).by_name

pub shown : (files : Files) (table : JobTable) → ShowsByName files table → Shows files table
shown files table = (directories_are_shown_by_name files table).shown

pub draws_are_shown : DrawsAreShown
draws_are_shown before after table shows drawn = shown after _ (drawn_by_name before after table (by_name before table shows) drawn)

pub accepts_are_shown : AcceptsAreShown
accepts_are_shown before after table job shows accepted =
    shown after _ (accepted_by_name before after table job (by_name before table shows) accepted)

pub marks_are_shown : MarksAreShown
marks_are_shown before after table step added shows legal adds marked =
    shown after _ (marked_by_name before after table step added (by_name before table shows) legal adds marked)

pub legal_steps_add_legal_marks : LegalStepsAddLegalMarks
legal_steps_add_legal_marks files table step added marks shows has legal adds =
    legal_marks_by_name files table step added marks (by_name files table shows) has legal adds

pub compactions_are_shown : CompactionsAreShown
compactions_are_shown before after table shows compacted =
    shown after table (compacted_by_name before after table (by_name before table shows) compacted)

pub rewrites_are_shown : RewritesAreShown
rewrites_are_shown before after table shows rewritten =
    shown after table (rewritten_by_name before after table (by_name before table shows) rewritten)
