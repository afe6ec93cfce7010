use Rattle.std.proofs.Common.{◌∙◌, ◌++◌, ap}
use Rattle.std.specs.Prelude.{codes}
use Rattle.mail_notes.specs.Notices.{guard_line}
use Rattle.mail_notes.proofs.TextLemmas.{four_parts}
use Rattle.mail_notes.proofs.notice.put_out.Goals as goal

pub returns : goal.returns
returns c =
    four_parts c.args.text.now.items c.extend_from_slice.new.self.items c.extend_from_slice-2.new.self.items
    c.extend_from_slice-3.new.self.items c.extend_from_slice-4.new.self.items
    (codes "#!/bin/sh\n# at notice\nout=\"${0%/*}.out/") c.args.job.now.file (codes "\"\n") (guard_line c.args.job.now.always)
    c.in_ok-extend_from_slice.ensures.items
    (c.in_ok-extend_from_slice-2.ensures.items ∙ ap (λ t. c.extend_from_slice.new.self.items ++ t) c.as_bytes.ensures.bytes)
    c.in_ok-extend_from_slice-3.ensures.items
    (c.in_ok-extend_from_slice-4.ensures.items ∙ ap (λ t. c.extend_from_slice-3.new.self.items ++ t) c.guard_line.ensures)
