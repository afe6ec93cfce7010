use Rattle.std.proofs.Common.{arith}
use Rattle.mail_notes.proofs.NameLemmas.{notice_is_name}
use Rattle.mail_notes.proofs.names.notice_name.Goals as goal

pub unwrap-requires : goal.unwrap-requires
unwrap-requires c = c.of.ensures.valid.1 (rw c.digits_of.ensures (notice_is_name c.args.number (omega (arith, c.ranges.number))))
