use Rattle.std.proofs.Common.{◌∙◌, ◌++◌, List, append-nil, ap, arith, sym, take_all}
use Rattle.mail_notes.specs.Lines.{IsNotedJob, notes_text}
use Rattle.mail_notes.specs.declared.note.NotedJob.{NotedJob}
use Rattle.mail_session.specs.News.{noting_of}
use Rattle.mail_session.proofs.NoteNewsLemmas.{at_place, line_more}
use Rattle.mail_session.proofs.note_lines.add_note_lines.Goals as goal

pub loop-job-init : goal.loop-job-init
loop-job-init c = sym (append-nil c.args.text.now.items)

pub add_noted-requires : goal.add_noted-requires
add_noted-requires c =
    at_place IsNotedJob c.args.new_jobs.now c.loop-job.job-index c.job-item.result c.loop-job-test.true c.job-item.is c.requires

pub loop-job-preserved : goal.loop-job-preserved
loop-job-preserved c =
    line_more c.args.new_jobs.now c.loop-job.job-index c.job-item.result c.args.text.now.items c.loop-job.text.items
    c.add_noted.new.text.items
    c.loop-job-test.true c.job-item.is c.loop-job.invariant c.in_ok-add_noted.ensures

pub returns : goal.returns
returns c =
    c.loop-job.invariant ∙ ap (λ (l : List NotedJob). c.args.text.now.items ++ notes_text (noting_of l))
    (take_all c.loop-job.job-index c.args.new_jobs.now (omega arith))
