use Rattle.mail_session.proofs.SendLemmas.{notes_unplaced, notice_held, notice_unplaced, sends_at, sent_whole}
use Rattle.mail_session.proofs.send.send.Goals as goal

pub returns-in_err-place_notice : goal.returns-in_err-place_notice
returns-in_err-place_notice g c =
    sends_at _ _ _ _ _ _ _ _ c.in_err-place_notice.field-0.0 c.from_residual.result c.from_residual.ensures.1
    (notice_unplaced g.H.Host.tells (g.H.Host.session c.args.host.now) (g.H.Host.world c.args.host.now) c.args.number
    c.args.script.now c.args.text.now
    (g.H.Host.session c.place_notice.new.host) (g.H.Host.world c.place_notice.new.host) c.in_err-place_notice.field-0.0
    c.in_err-place_notice.ensures.inside c.in_err-place_notice.ensures.files)

pub place_notes-requires-clause-no_temp : goal.place_notes-requires-clause-no_temp
place_notes-requires-clause-no_temp g c = λ known. (c.in_ok-place_notice.ensures.files known).placed.no_temp

pub returns-in_err-place_notes : goal.returns-in_err-place_notes
returns-in_err-place_notes g c =
    sends_at _ _ _ _ _ _ _ _ c.in_err-place_notes.field-0.0 c.from_residual-in_err-place_notes.result
    c.from_residual-in_err-place_notes.ensures.1
    (notes_unplaced g.H.Host.tells (g.H.Host.session c.args.host.now) (g.H.Host.world c.args.host.now) c.args.number
    c.args.script.now c.args.text.now
    (g.H.Host.session c.place_notice.new.host) (g.H.Host.world c.place_notice.new.host) c.in_ok-place_notice.ensures.inside
    c.in_ok-place_notice.ensures.files
    (g.H.Host.session c.place_notes.new.host) (g.H.Host.world c.place_notes.new.host) c.in_err-place_notes.field-0.0
    c.in_err-place_notes.ensures.inside c.in_err-place_notes.ensures.files)

pub send_notice-requires-clause-held : goal.send_notice-requires-clause-held
send_notice-requires-clause-held g c = λ known.
    notice_held c.args.number c.args.script.now c.args.text.now (g.H.Host.world c.args.host.now) (g.H.Host.world c.place_notice.new.host)
    (g.H.Host.world c.place_notes.new.host)
    (c.in_ok-place_notice.ensures.files known) (c.in_ok-place_notes.ensures.files known)

pub returns : goal.returns
returns g c =
    sent_whole g.H.Host.tells (g.H.Host.session c.args.host.now) (g.H.Host.world c.args.host.now) c.args.number
    c.args.script.now c.args.text.now
    (g.H.Host.session c.place_notice.new.host) (g.H.Host.world c.place_notice.new.host) c.in_ok-place_notice.ensures.inside
    c.in_ok-place_notice.ensures.files
    (g.H.Host.session c.place_notes.new.host) (g.H.Host.session c.send_notice.new.host) (g.H.Host.world c.place_notes.new.host)
    (g.H.Host.world c.send_notice.new.host) c.send_notice.result
    c.in_ok-place_notes.ensures.inside c.in_ok-place_notes.ensures.files c.send_notice.ensures
