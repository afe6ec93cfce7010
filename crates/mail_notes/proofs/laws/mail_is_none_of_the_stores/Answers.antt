use Rattle.mail_notes.proofs.NameLemmas.{mail_is_none_of_the_stores}
use Rattle.mail_notes.proofs.laws.mail_is_none_of_the_stores.Goals as goal

pub returns : goal.returns
returns c = mail_is_none_of_the_stores
