use Rattle.std.specs.Prelude.{codes}
use Rattle.job_script.specs.JobText.{quoted}
use Rattle.mail_notes.proofs.TextLemmas.{seven_parts}
use Rattle.mail_notes.proofs.notice.put_mail.Goals as goal

pub returns : goal.returns
returns c =
    seven_parts c.args.text.now.items c.extend_from_slice.new.self.items c.extend_from_slice-2.new.self.items
    c.extend_from_slice-3.new.self.items
    c.put_quoted.new.text.items c.push.new.self.items c.put_quoted-2.new.text.items c.push-2.new.self.items
    (codes "{ echo '") c.args.line.now (codes "'; cat \"$out\"; } | ") (quoted c.args.program.now) (codes " ")
    (quoted c.args.user.now) (codes "\n")
    c.in_ok-extend_from_slice.ensures.items c.in_ok-extend_from_slice-2.ensures.items c.in_ok-extend_from_slice-3.ensures.items
    c.in_ok-put_quoted.ensures c.in_ok-push.ensures.items c.in_ok-put_quoted-2.ensures c.in_ok-push-2.ensures.items
