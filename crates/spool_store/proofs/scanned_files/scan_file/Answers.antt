use Rattle.std.proofs.Common.{refl, ◌∙◌}
use Rattle.spool_shows.proofs.FilesSoFar.{prefix_read}
use Rattle.spool_store.proofs.ScannedFileLemmas.{counted_scanned, counted_undecided, one_left, other_left, other_scanned, same_undecided}
use Rattle.spool_store.proofs.scanned_files.scan_file.Goals as goal

pub returns-in_ok-add-in-Counts-clause-undecided : goal.returns-in_ok-add-in-Counts-clause-undecided
returns-in_ok-add-in-Counts-clause-undecided g c = λ marks tell.
    counted_undecided marks c.args.name c.in-Counts.job c.args.scanned_files.now.scanned.items c.add.new.self.scanned.items _
    (c.in-Counts.ensures marks tell) c.in_ok-add-in-Counts.ensures.scanned refl

pub returns-in_ok-add-in-Counts-clause-scanned : goal.returns-in_ok-add-in-Counts-clause-scanned
returns-in_ok-add-in-Counts-clause-scanned g c = λ tells marks bytes tell held.
    counted_scanned marks c.args.name c.in-Counts.job _ c.args.scanned_files.now.scanned.items c.add.new.self.scanned.items _
    (c.in-Counts.ensures marks tell) c.in_ok-add-in-Counts.ensures.scanned refl refl
    (c.from-prefix.ensures ∙ prefix_read _ bytes _ held (c.in_ok-read-in-Counts.ensures.bytes tells))

pub returns-in_ok-add-in-Counts-clause-leftover : goal.returns-in_ok-add-in-Counts-clause-leftover
returns-in_ok-add-in-Counts-clause-leftover g c = λ marks tell.
    other_left marks c.args.name c.args.scanned_files.now.leftover.items c.add.new.self.leftover.items (c.in-Counts.ensures marks tell).1
    c.in_ok-add-in-Counts.ensures.leftover

pub returns-in_ok-leave_over-in-LeftOver-clause-undecided : goal.returns-in_ok-leave_over-in-LeftOver-clause-undecided
returns-in_ok-leave_over-in-LeftOver-clause-undecided g c = λ marks tell.
    same_undecided marks c.args.scanned_files.now.scanned.items c.leave_over.new.self.scanned.items
    c.in_ok-leave_over-in-LeftOver.ensures.scanned

pub returns-in_ok-leave_over-in-LeftOver-clause-scanned : goal.returns-in_ok-leave_over-in-LeftOver-clause-scanned
returns-in_ok-leave_over-in-LeftOver-clause-scanned g c = λ tells marks bytes tell held.
    other_scanned marks c.args.name _ c.args.scanned_files.now.scanned.items c.leave_over.new.self.scanned.items
    (c.in-LeftOver.ensures marks tell).0 c.in_ok-leave_over-in-LeftOver.ensures.scanned

pub returns-in_ok-leave_over-in-LeftOver-clause-leftover : goal.returns-in_ok-leave_over-in-LeftOver-clause-leftover
returns-in_ok-leave_over-in-LeftOver-clause-leftover g c = λ marks tell.
    one_left marks c.args.name c.args.scanned_files.now.leftover.items c.leave_over.new.self.leftover.items
    (c.in-LeftOver.ensures marks tell).1 c.in_ok-leave_over-in-LeftOver.ensures.leftover

pub returns-in-Other-clause-scanned : goal.returns-in-Other-clause-scanned
returns-in-Other-clause-scanned g c = λ tells marks bytes tell held.
    other_scanned marks c.args.name _ c.args.scanned_files.now.scanned.items c.args.scanned_files.now.scanned.items
    (c.in-Other.ensures marks tell).0 refl

pub returns-in-Other-clause-leftover : goal.returns-in-Other-clause-leftover
returns-in-Other-clause-leftover g c = λ marks tell.
    other_left marks c.args.name c.args.scanned_files.now.leftover.items c.args.scanned_files.now.leftover.items
    (c.in-Other.ensures marks tell).1 refl
