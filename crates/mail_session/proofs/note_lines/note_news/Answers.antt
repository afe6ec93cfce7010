use Rattle.std.proofs.Common.{rules}
use Rattle.mail_session.proofs.NoteNewsLemmas.{none_by, noted_none, noted_placed}
use Rattle.mail_session.proofs.note_lines.note_news.Goals as goal

pub returns : goal.returns
returns g c =
    noted_placed g.H.Host.tells (g.H.Host.session c.args.host.now) (g.H.Host.session c.place_notes.new.host)
    (g.H.Host.world c.args.host.now) (g.H.Host.world c.place_notes.new.host)
    c.args.new_jobs.now c.args.text.now c.place_notes.result c.place_notes.ensures.inside c.place_notes.ensures.files

pub returns-then-is_empty : goal.returns-then-is_empty
returns-then-is_empty g c =
    noted_none g.H.Host.tells (g.H.Host.session c.args.host.now) (g.H.Host.world c.args.host.now) c.args.new_jobs.now c.args.text.now
    (none_by c.args.new_jobs.now (search rules)) c.requires.inside c.requires.no_temp
