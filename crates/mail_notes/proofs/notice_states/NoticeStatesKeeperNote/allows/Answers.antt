use Rattle.std.proofs.Common.{◌∙◌, sym, ap}
use Rattle.mail_notes.specs.Book.{note_may_follow}
use Rattle.mail_notes.proofs.BookLemmas.{may_decided}
use Rattle.mail_notes.proofs.notice_states.NoticeStatesKeeperNote.allows.Goals as goal

pub returns : goal.returns
returns c notes stand =
    let told =
    may_decided notes c.args.next.now c.args.self.now.states c.number_of_note.result c.note_may_follow.result c.number_of_note.ensures stand
    (c.note_may_follow.ensures ∙ ap (λ at. note_may_follow at c.args.next.now) c.get.ensures.value) in
    ((λ is. told ∙ is), (λ may. sym told ∙ may))
