use Rattle.mail_notes.proofs.NameLemmas.{notice_numbers_are_read}
use Rattle.mail_notes.proofs.laws.notice_numbers_are_read.Goals as goal

pub returns : goal.returns
returns c = notice_numbers_are_read
