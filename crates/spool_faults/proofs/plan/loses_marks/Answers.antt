use Rattle.std.proofs.Common.{◌≡◌, ◌∙◌, [], ap, sym}
use Rattle.std.specs.Prelude.{◌||◌}
use Rattle.std.specs.FinMap as finite
use Rattle.std.specs.List.{filter, list_any}
use Rattle.spool_faults.specs.Faults.{files_taken, has_header}
use Rattle.spool_faults.specs.Salvaged.{is_orphan, last_or_zero}
use Rattle.spool_faults.proofs.Planned.{lost_is, none_listed, none_lost, queues_taken}
use Rattle.spool_shows.specs.JobFiles.{job_files}
use Rattle.spool_faults.proofs.plan.loses_marks.Goals as goal

pub returns-then-is_empty : goal.returns-then-is_empty
returns-then-is_empty c = λ files is are.
    sym (none_lost files c.args.scan.now is (sym are ∙ none_listed c.args.faults.now c.if-is_empty.ensures))

pub returns-else-faulty : goal.returns-else-faulty
returns-else-faulty c = λ files is are.
    let scan = c.args.scan.now in
    let found = filter has_header (job_files scan.marks.items (finite.entries files)) in
    let taken = files_taken scan.marks.items (finite.entries files) in
    lost_is files scan is c.in_ok-faulty.faulty c.has_orphan-orphan.result c.has_orphan-orphan.result c.in_ok-faulty.ensures
    (c.has_orphan-orphan.ensures scan.marks.items taken is.decided (queues_taken found scan.firsts is.firsts)
    ∙ ap (λ last. list_any (is_orphan last scan.marks.items taken) c.as_slice.result.now) c.last_or_zero.ensures
    ∙ ap (list_any (is_orphan (last_or_zero scan.number) scan.marks.items taken)) c.as_slice.ensures.value)
    (ap (λ faulty. faulty || c.has_orphan-orphan.result) (sym c.if-faulty.false))
