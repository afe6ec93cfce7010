use Rattle.std.proofs.Common.{◌∙◌, ◌++◌, ◌∷◌, [], List, ℕ, ap, refl, sym, subst}
use Rattle.std.specs.Prelude.{Err, Ok}
use Rattle.host_calls.specs.declared.fault.HostFault.TheVariants.{Memory}
use Rattle.mail_notes.specs.Lines.{note_line}
use Rattle.mail_session.specs.declared.due.NoticeDue.{NoticeDue}
use Rattle.mail_session.specs.declared.due.NoticeDue.TheVariants.{Drop, Send}
use Rattle.mail_session.specs.Dues.{note_of}
use Rattle.mail_session.specs.DueNotices.{Posts}
use Rattle.mail_session.proofs.PostLemmas.{drop_ends, not_sent, posts_at, posts_nothing, posts_with_room, sent_one}
use Rattle.mail_session.proofs.post.post.Goals as goal

pub returns-in_err-reserve : goal.returns-in_err-reserve
returns-in_err-reserve g c =
    posts_with_room _ _ _ _ _ _ _ _ _ _ c.reserve.new.self.items _ _ c.args.sent.now.items _ _ c.reserve.ensures.items refl
    (posts_at _ _ _ _ _ _ _ _ _ _ _ _ _ Memory c.from_residual.result c.from_residual.ensures.1
    (posts_nothing c.args.program.now g.H.Host.tells (g.H.Host.session c.args.host.now) (g.H.Host.world c.args.host.now) c.args.due.now
    c.args.text.now.items c.args.text.now.items c.reserve.new.self.items c.args.sent.now.items c.requires.inside))

pub returns-in_err-reserve-2 : goal.returns-in_err-reserve-2
returns-in_err-reserve-2 g c =
    posts_with_room _ _ _ _ _ _ _ _ _ _ c.reserve.new.self.items _ _ c.reserve-2.new.self.items _ _ c.reserve.ensures.items
    c.reserve-2.ensures.items
    (posts_at _ _ _ _ _ _ _ _ _ _ _ _ _ Memory c.from_residual-in_err-reserve-2.result c.from_residual-in_err-reserve-2.ensures.1
    (posts_nothing c.args.program.now g.H.Host.tells (g.H.Host.session c.args.host.now) (g.H.Host.world c.args.host.now) c.args.due.now
    c.args.text.now.items c.args.text.now.items c.reserve.new.self.items c.reserve-2.new.self.items c.requires.inside))

pub returns-in_err-add_note : goal.returns-in_err-add_note
returns-in_err-add_note g c =
    posts_with_room _ _ _ _ _ _ _ _ _ _ c.reserve.new.self.items _ _ c.reserve-2.new.self.items _ _ c.reserve.ensures.items
    c.reserve-2.ensures.items
    (posts_at _ _ _ _ _ _ _ _ _ _ _ _ _ Memory c.from_residual-in_err-add_note.result c.from_residual-in_err-add_note.ensures.1
    (posts_nothing c.args.program.now g.H.Host.tells (g.H.Host.session c.args.host.now) (g.H.Host.world c.args.host.now) c.args.due.now
    c.args.text.now.items c.add_note.new.text.items c.reserve.new.self.items c.reserve-2.new.self.items c.requires.inside))

pub returns-in_err-script-in-Send : goal.returns-in_err-script-in-Send
returns-in_err-script-in-Send g c =
    posts_with_room _ _ _ _ _ _ _ _ _ _ c.reserve.new.self.items _ _ c.reserve-2.new.self.items _ _ c.reserve.ensures.items
    c.reserve-2.ensures.items
    (posts_at _ _ _ _ _ _ _ _ _ _ _ _ _ Memory c.from_residual-in_err-script-in-Send.result c.from_residual-in_err-script-in-Send.ensures.1
    (posts_nothing c.args.program.now g.H.Host.tells (g.H.Host.session c.args.host.now) (g.H.Host.world c.args.host.now) c.args.due.now
    c.args.text.now.items c.add_note.new.text.items c.reserve.new.self.items c.reserve-2.new.self.items c.requires.inside))

pub returns-in_err-child-in-Send : goal.returns-in_err-child-in-Send
returns-in_err-child-in-Send g c =
    posts_with_room _ _ _ _ _ _ _ _ _ _ c.reserve.new.self.items _ _ c.reserve-2.new.self.items _ _ c.reserve.ensures.items
    c.reserve-2.ensures.items
    (posts_at _ _ _ _ _ _ _ _ _ _ _ _ _ c.in_err-child-in-Send.field-0.0 c.from_residual-in_err-child-in-Send.result
    c.from_residual-in_err-child-in-Send.ensures.1
    (subst (λ (due : NoticeDue).
    Posts c.args.program.now g.H.Host.tells (g.H.Host.session c.args.host.now) (g.H.Host.session c.send.new.host)
    (g.H.Host.world c.args.host.now) (g.H.Host.world c.send.new.host) (due ∷ []) c.args.text.now.items c.add_note.new.text.items
    c.reserve.new.self.items c.reserve.new.self.items c.reserve-2.new.self.items c.reserve-2.new.self.items
    (Err c.in_err-child-in-Send.field-0.0)) (sym c.in-Send.is)
    (subst (λ (text : List ℕ). Posts c.args.program.now g.H.Host.tells (g.H.Host.session c.args.host.now) (g.H.Host.session c.send.new.host)
    (g.H.Host.world c.args.host.now) (g.H.Host.world c.send.new.host) (Send c.in-Send.job c.in-Send.end ∷ []) c.args.text.now.items text
    c.reserve.new.self.items c.reserve.new.self.items c.reserve-2.new.self.items c.reserve-2.new.self.items
    (Err c.in_err-child-in-Send.field-0.0)) c.as_slice-in-Send.ensures.value
    (not_sent c.args.program.now g.H.Host.tells (g.H.Host.session c.args.host.now) (g.H.Host.session c.send.new.host)
    (g.H.Host.world c.args.host.now) (g.H.Host.world c.send.new.host) c.in-Send.job c.in-Send.end c.as_slice.result.now
    c.args.text.now.items c.as_slice-in-Send.result.now c.reserve.new.self.items c.reserve.new.self.items c.reserve-2.new.self.items
    c.reserve-2.new.self.items
    (c.as_slice-in-Send.ensures.value ∙ c.in_ok-add_note.ensures
    ∙ ap (λ (due : NoticeDue). c.args.text.now.items ++ note_line (note_of due)) c.in-Send.is)
    (c.as_slice.ensures ∙ c.in_ok-script-in-Send.ensures)
    c.in_err-child-in-Send.field-0.0 c.in_err-child-in-Send.ensures))))

pub returns-in_ok-child-in-Send : goal.returns-in_ok-child-in-Send
returns-in_ok-child-in-Send g c =
    posts_with_room _ _ _ _ _ _ _ _ _ _ c.reserve.new.self.items _ _ c.reserve-2.new.self.items _ _ c.reserve.ensures.items
    c.reserve-2.ensures.items
    (subst (λ (due : NoticeDue).
    Posts c.args.program.now g.H.Host.tells (g.H.Host.session c.args.host.now) (g.H.Host.session c.send.new.host)
    (g.H.Host.world c.args.host.now) (g.H.Host.world c.send.new.host) (due ∷ []) c.args.text.now.items c.add_note.new.text.items
    c.reserve.new.self.items c.keep_kid.new.kids.items c.reserve-2.new.self.items c.push_reserved.new.self.items (Ok tt)) (sym c.in-Send.is)
    (subst (λ (text : List ℕ). Posts c.args.program.now g.H.Host.tells (g.H.Host.session c.args.host.now) (g.H.Host.session c.send.new.host)
    (g.H.Host.world c.args.host.now) (g.H.Host.world c.send.new.host) (Send c.in-Send.job c.in-Send.end ∷ []) c.args.text.now.items text
    c.reserve.new.self.items c.keep_kid.new.kids.items c.reserve-2.new.self.items c.push_reserved.new.self.items (Ok tt))
    c.as_slice-in-Send.ensures.value
    (sent_one c.args.program.now g.H.Host.tells (g.H.Host.session c.args.host.now) (g.H.Host.session c.send.new.host)
    (g.H.Host.world c.args.host.now) (g.H.Host.world c.send.new.host) c.in-Send.job c.in-Send.end c.as_slice.result.now
    c.args.text.now.items c.as_slice-in-Send.result.now c.reserve.new.self.items c.keep_kid.new.kids.items c.reserve-2.new.self.items
    c.push_reserved.new.self.items
    (c.as_slice-in-Send.ensures.value ∙ c.in_ok-add_note.ensures
    ∙ ap (λ (due : NoticeDue). c.args.text.now.items ++ note_line (note_of due)) c.in-Send.is)
    (c.as_slice.ensures ∙ c.in_ok-script-in-Send.ensures)
    c.in_ok-child-in-Send.child c.in_ok-child-in-Send.ensures c.keep_kid.ensures c.push_reserved.ensures.items)))

pub returns-in-Drop : goal.returns-in-Drop
returns-in-Drop g c =
    posts_with_room _ _ _ _ _ _ _ _ _ _ c.reserve.new.self.items _ _ c.reserve-2.new.self.items _ _ c.reserve.ensures.items
    c.reserve-2.ensures.items
    (subst (λ (due : NoticeDue).
    Posts c.args.program.now g.H.Host.tells (g.H.Host.session c.args.host.now) (g.H.Host.session c.place_notes.new.host)
    (g.H.Host.world c.args.host.now) (g.H.Host.world c.place_notes.new.host) (due ∷ []) c.args.text.now.items c.add_note.new.text.items
    c.reserve.new.self.items c.reserve.new.self.items c.reserve-2.new.self.items c.reserve-2.new.self.items c.place_notes.result)
    (sym c.in-Drop.is)
    (subst (λ (text : List ℕ).
    Posts c.args.program.now g.H.Host.tells (g.H.Host.session c.args.host.now) (g.H.Host.session c.place_notes.new.host)
    (g.H.Host.world c.args.host.now) (g.H.Host.world c.place_notes.new.host) (Drop c.in-Drop.field-0 ∷ []) c.args.text.now.items text
    c.reserve.new.self.items c.reserve.new.self.items c.reserve-2.new.self.items c.reserve-2.new.self.items c.place_notes.result)
    c.as_slice-in-Drop.ensures.value
    (drop_ends c.args.program.now g.H.Host.tells (g.H.Host.session c.args.host.now) (g.H.Host.session c.place_notes.new.host)
    (g.H.Host.world c.args.host.now) (g.H.Host.world c.place_notes.new.host) c.in-Drop.field-0
    c.args.text.now.items c.as_slice-in-Drop.result.now c.reserve.new.self.items c.reserve-2.new.self.items
    (c.as_slice-in-Drop.ensures.value ∙ c.in_ok-add_note.ensures
    ∙ ap (λ (due : NoticeDue). c.args.text.now.items ++ note_line (note_of due)) c.in-Drop.is)
    c.place_notes.result c.place_notes.ensures.inside c.place_notes.ensures.files)))
