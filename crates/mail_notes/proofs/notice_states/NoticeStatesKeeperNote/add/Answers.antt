use Rattle.mail_notes.proofs.BookLemmas.{stand_more}
use Rattle.mail_notes.proofs.notice_states.NoticeStatesKeeperNote.add.Goals as goal

pub returns : goal.returns
returns c notes stand may =
    stand_more notes c.args.next.now c.args.self.now.states c.insert.new.self c.number_of_note.result
    c.notice_state_after-notice_state.result
    c.number_of_note.ensures c.notice_state_after-notice_state.ensures stand may c.in_ok-insert.ensures.updates.0
