use Rattle.std.proofs.Common.{◌≡◌, ◌∙◌, ◌++◌, ℕ, List, ap, subst, sym}
use Rattle.std.specs.List.{All}
use Rattle.std.specs.FinMap as finite
use Rattle.host_calls.specs.World.{World, reading}
use Rattle.step_runs.specs.Current.{IsCurrent}
use Rattle.mail_notes.specs.Lines.{notes_text}
use Rattle.mail_notes.specs.Names.{mail_file}
use Rattle.mail_notes.specs.declared.note.NotedJob.{NotedJob}
use Rattle.mail_notes.proofs.TextLemmas.{note_files_are_texts}
use Rattle.mail_session.specs.News.{IsNotedFrom, noting_of}
use Rattle.mail_session.specs.ReadNotes.{IsReadBook}
use Rattle.mail_session.proofs.PlanLemmas.{gives_notes}
use Rattle.mail_session.proofs.PostLemmas.{lines_join}
use Rattle.at_mail.proofs.noting.news_on.Goals as goal

pub new_jobs_of-requires-clause-current : goal.new_jobs_of-requires-clause-current
new_jobs_of-requires-clause-current g c = λ known.
    let has = c.requires.current known in
    (has.0, subst (λ (world : World). IsCurrent c.args.store.now world.now.directory has.0) (sym (c.in_ok-text.ensures.looks known)) has.1)

pub returns-clause-news : goal.returns-clause-news
returns-clause-news g c =
    let read : IsReadBook c.in_ok-text.field-0.text.items c.in_ok-text.field-0.notice_states = c.in_ok-text.ensures.notes in
    let text : c.add_note_lines.new.text.items ≡ c.in_ok-text.field-0.text.items ++ notes_text (noting_of c.in_ok-new_jobs.new_jobs.items) =
    c.in_ok-add_note_lines.ensures
    ∙ ap (λ (new_jobs : List NotedJob). c.in_ok-text.field-0.text.items ++ notes_text (noting_of new_jobs)) c.as_slice.ensures.value in
    record {
      notes = read.notes;
      numbers = c.in_ok-new_jobs.ensures.numbers read.notes read.told;
      text_is = text
          ∙ ap (λ (t : List ℕ). t ++ notes_text (noting_of c.in_ok-new_jobs.new_jobs.items))
          (note_files_are_texts c.in_ok-text.field-0.text.items read.notes read.lines.spelled)
          ∙ sym (lines_join read.notes (noting_of c.in_ok-new_jobs.new_jobs.items));
      gives = λ known. gives_notes (finite.get (reading (g.H.Host.world c.args.host.now)) mail_file) c.in_ok-text.field-0.text.items
          read.notes read.lines (c.in_ok-text.ensures.text known);
      noted = λ known table current. subst (λ (world : World). All (IsNotedFrom (reading world) table) c.in_ok-new_jobs.new_jobs.items)
          (c.in_ok-text.ensures.looks known)
          (c.in_ok-new_jobs.ensures.noted known table
          (subst (λ (world : World). IsCurrent c.args.store.now world.now.directory table)
          (sym (c.in_ok-text.ensures.looks known)) current));
    }
