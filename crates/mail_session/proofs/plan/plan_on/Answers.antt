use Rattle.std.proofs.Common.{◌≡◌, ◌∙◌, ◌++◌, List, ap, subst, sym}
use Rattle.std.specs.Prelude.{IsTrue}
use Rattle.std.specs.List.{All}
use Rattle.std.specs.FinMap as finite
use Rattle.host_calls.specs.World.{World, reading}
use Rattle.step_runs.specs.Current.{IsCurrent}
use Rattle.mail_notes.specs.Lines.{notes_text}
use Rattle.mail_notes.specs.Names.{mail_file}
use Rattle.mail_notes.specs.declared.note.NotedJob.{NotedJob}
use Rattle.mail_session.specs.News.{IsNotedFrom, noting_of}
use Rattle.mail_session.specs.ReadNotes.{IsReadBook}
use Rattle.mail_session.specs.Stale.{stale_names}
use Rattle.mail_session.proofs.PlanLemmas.{gives_notes, plan_for}
use Rattle.mail_session.proofs.plan.plan_on.Goals as goal

pub new_jobs_of-requires-clause-current : goal.new_jobs_of-requires-clause-current
new_jobs_of-requires-clause-current g c = λ known.
    let has = c.requires.current known in
    (has.0, subst (λ (world : World). IsCurrent c.args.store.now world.now.directory has.0) (sym (c.in_ok-text.ensures.looks known)) has.1)

pub returns-clause-plans : goal.returns-clause-plans
returns-clause-plans g c =
    let read : IsReadBook c.in_ok-text.field-0.text.items c.in_ok-text.field-0.notice_states = c.in_ok-text.ensures.notes in
    let text : c.add_note_lines.new.text.items ≡ c.in_ok-text.field-0.text.items ++ notes_text (noting_of c.in_ok-new_jobs.new_jobs.items) =
    c.in_ok-add_note_lines.ensures
    ∙ ap (λ (new_jobs : List NotedJob). c.in_ok-text.field-0.text.items ++ notes_text (noting_of new_jobs)) c.as_slice.ensures.value in
    let opened : IsTrue g.H.Host.tells → g.H.Host.world c.new_jobs_of.new.host ≡ g.H.Host.world c.args.host.now =
    λ known. c.in_ok-new_jobs.ensures.looks known ∙ c.in_ok-text.ensures.looks known in
    record {
      notes = read.notes;
      plan_for = plan_for c.args.store.now.table
          (record {
            new_jobs = c.in_ok-new_jobs.new_jobs;
            due_notices = c.in_ok-due_notices.due_notices;
            text = c.add_note_lines.new.text;
            stale = c.in_ok-stale.stale;
          })
          c.in_ok-text.field-0.text.items c.in_ok-text.field-0.notice_states read c.in_ok-new_jobs.ensures.numbers
          c.in_ok-due_notices.ensures text;
      plan_in = λ known table current. record {
        gives = gives_notes (finite.get (reading (g.H.Host.world c.args.host.now)) mail_file) c.in_ok-text.field-0.text.items read.notes
            read.lines (c.in_ok-text.ensures.text known);
        noted = subst (λ (world : World). All (IsNotedFrom (reading world) table) c.in_ok-new_jobs.new_jobs.items)
            (c.in_ok-text.ensures.looks known)
            (c.in_ok-new_jobs.ensures.noted known table
            (subst (λ (world : World). IsCurrent c.args.store.now world.now.directory table)
            (sym (c.in_ok-text.ensures.looks known)) current));
        stale = c.in_ok-stale.ensures.names known
            ∙ ap (λ (world : World). stale_names c.args.kids.now (reading world)) (opened known);
      };
    }
