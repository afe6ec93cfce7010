use Rattle.std.proofs.Common.{◌≡◌, ◌∙◌, ◌++◌, List, sym, ap, subst, refl}
use Rattle.std.specs.FinMap as finite
use Rattle.std.specs.List.{filter}
use Rattle.host_calls.specs.World.{World, reading}
use Rattle.sequence_file.specs.LastNumber.{last_in}
use Rattle.sequence_file.specs.Sequence.{sequence_file}
use Rattle.spool_shows.specs.JobFiles.{job_files}
use Rattle.start_journal.specs.declared.mark.Mark.{Mark}
use Rattle.start_journal.specs.Journals.{journal_file}
use Rattle.start_journal.specs.Taken.{journal_faults, marks_of}
use Rattle.spool_faults.specs.Faults.{bound_by, has_header, jobs_faults}
use Rattle.spool_faults.specs.inside.FoundFiles.{AreDecidedNumbers, AreFirstFiles}
use Rattle.spool_faults.proofs.JobFaults.{all_noted, directory_noted}
use Rattle.spool_faults.proofs.Planned.{marks_writable}
use Rattle.spool_faults.proofs.scan.scan_spool.Goals as goal

pub returns-clause-writable : goal.returns-clause-writable
returns-clause-writable g c =
    marks_writable c.in_ok-journal.journal c.as_slice-3.result.now c.in_ok-marks.marks.items (c.as_slice-3.ensures.value
    ∙ c.in_ok-taken.ensures.marks) c.in_ok-marks.ensures

pub returns-clause-faults : goal.returns-clause-faults
returns-clause-faults g c = λ tells.
    let files = reading (g.H.Host.world c.args.host.now) in
    let last = c.sequence_number-number.result in
    let journal = c.in_ok-journal.journal in
    let taken = c.as_slice-6.result.now in
    let listing : g.H.Host.world c.names.new.self ≡ g.H.Host.world c.args.host.now = c.in_ok-names.ensures.looks tells in
    let first : g.H.Host.world c.content_among.new.host ≡ g.H.Host.world c.args.host.now = c.in_ok-sequence.ensures.looks tells ∙ listing in
    let world : g.H.Host.world c.content_among-2.new.host ≡ g.H.Host.world c.args.host.now = c.in_ok-journal.ensures.looks tells ∙ first in
    let number : last ≡ last_in (finite.get files sequence_file) =
    c.sequence_number-number.ensures ∙ ap last_in (c.in_ok-sequence.ensures.content tells
    ∙ ap (λ (now : World). finite.get (reading now) c.sequence_name.result) listing ∙ ap (finite.get files) c.sequence_name.ensures) in
    let held : journal ≡ finite.get files journal_file =
    c.in_ok-journal.ensures.content tells ∙ ap (λ (now : World). finite.get (reading now) c.journal_name.result) first
    ∙ ap (finite.get files) c.journal_name.ensures in
    directory_noted files last journal c.args.faults.now.items c.note_jobs.new.faults.items number held
    (all_noted last journal (finite.entries files) taken (bound_by last) c.args.faults.now.items c.note_sequence.new.faults.items
    c.take_journal.new.faults.items c.note_jobs.new.faults.items
    c.in_ok-note_sequence.ensures refl
    (c.in_ok-taken.ensures.faults ∙ ap (λ bound. c.note_sequence.new.faults.items ++ journal_faults bound journal) c.bound_of.ensures)
    (c.as_slice-6.ensures.value ∙ c.in_ok-taken.ensures.marks)
    (c.in_ok-firsts.ensures.faults tells
    ∙ ap (λ (now : World). c.take_journal.new.faults.items
    ++ jobs_faults c.bound_of-2.result (marks_of taken) taken (finite.entries (reading now))) world
    ∙ ap (λ bound. c.take_journal.new.faults.items ++ jobs_faults bound (marks_of taken) taken (finite.entries files))
    c.bound_of-2.ensures))

pub returns-clause-scan : goal.returns-clause-scan
returns-clause-scan g c = λ tells.
    let files = reading (g.H.Host.world c.args.host.now) in
    let taken = c.as_slice-6.result.now in
    let listing : g.H.Host.world c.names.new.self ≡ g.H.Host.world c.args.host.now = c.in_ok-names.ensures.looks tells in
    let first : g.H.Host.world c.content_among.new.host ≡ g.H.Host.world c.args.host.now = c.in_ok-sequence.ensures.looks tells ∙ listing in
    let world : g.H.Host.world c.content_among-2.new.host ≡ g.H.Host.world c.args.host.now = c.in_ok-journal.ensures.looks tells ∙ first in
    let marks : c.in_ok-marks.marks.items ≡ marks_of taken = c.in_ok-marks.ensures
    ∙ ap marks_of (c.as_slice-3.ensures.value ∙ sym c.as_slice-6.ensures.value) in
    record {
      number =
          c.sequence_number-number.ensures ∙ ap last_in (c.in_ok-sequence.ensures.content tells
          ∙ ap (λ (now : World). finite.get (reading now) c.sequence_name.result) listing ∙ ap (finite.get files) c.sequence_name.ensures);
      journal =
          c.in_ok-journal.ensures.content tells ∙ ap (λ (now : World). finite.get (reading now) c.journal_name.result) first
          ∙ ap (finite.get files) c.journal_name.ensures;
      names = c.in_ok-names.ensures.listed tells;
      marks = c.in_ok-marks.ensures ∙ ap marks_of (c.as_slice-3.ensures.value ∙ c.in_ok-taken.ensures.marks);
      decided = subst (λ list. AreDecidedNumbers list c.in_ok-decided.decided) c.as_slice-4.ensures.value c.in_ok-decided.ensures;
      firsts =
          subst (λ (list : List Mark). AreFirstFiles (filter has_header (job_files list (finite.entries files))) c.in_ok-firsts.firsts)
          (sym marks)
          (subst (λ (now : World). AreFirstFiles (filter has_header (job_files (marks_of taken) (finite.entries (reading now))))
          c.in_ok-firsts.firsts) world (c.in_ok-firsts.ensures.firsts tells));
    }
