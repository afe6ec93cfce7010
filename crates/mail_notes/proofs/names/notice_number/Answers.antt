use Rattle.std.proofs.Common.{◌≡◌, ◌∙◌, ap, drop, length, rules, sym, take, true}
use Rattle.std.specs.Prelude.{codes}
use Rattle.std.specs.Str.{bytes_eq}
use Rattle.mail_notes.proofs.NameLemmas.{number_not_spelled, number_spelled_by}
use Rattle.mail_notes.proofs.names.notice_number.Goals as goal

pub returns-in_err-number : goal.returns-in_err-number
returns-in_err-number c =
    let long : length c.args.name.now ≡ 13 = search rules in
    let same : bytes_eq (take 5 c.args.name.now) (codes "mail.") ≡ true = search rules in
    c.from_residual.ensures ∙ sym (number_not_spelled c.args.name.now c.split_at.result.1.now long same (c.split_at.ensures.back
    ∙ ap (drop 5) c.as_bytes-bytes.ensures.bytes) c.in_err-number.ensures.none)

pub returns : goal.returns
returns c =
    let long : length c.args.name.now ≡ 13 = search rules in
    let same : bytes_eq (take 5 c.args.name.now) (codes "mail.") ≡ true = search rules in
    sym (number_spelled_by c.args.name.now c.split_at.result.1.now c.in_ok-number.number long same (c.split_at.ensures.back
    ∙ ap (drop 5) c.as_bytes-bytes.ensures.bytes) c.in_ok-number.ensures.number)
