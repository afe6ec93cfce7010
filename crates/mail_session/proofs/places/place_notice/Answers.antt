use Rattle.std.proofs.Common.{◌∙◌, sym, subst}
use Rattle.host_calls.specs.Directory.{IsInNoImage}
use Rattle.mail_notes.specs.Names.{notice_file}
use Rattle.mail_session.proofs.NotingLemmas.{notice_apart, placed_under}
use Rattle.mail_session.proofs.places.place_notice.Goals as goal

pub place-requires-clause-differ : goal.place-requires-clause-differ
place-requires-clause-differ g c = λ is. notice_apart c.args.number (sym c.mail_temp_name.ensures ∙ is ∙ c.notice_name.ensures)

pub place-requires-clause-no_temp : goal.place-requires-clause-no_temp
place-requires-clause-no_temp g c =
    λ known. subst (IsInNoImage (g.H.Host.world c.args.host.now).now.directory) (sym c.mail_temp_name.ensures) (c.requires.no_temp known)

pub returns-clause-files : goal.returns-clause-files
returns-clause-files g c = λ known.
    placed_under c.mail_temp_name.result c.notice_name.result (notice_file c.args.number) c.args.script.now (g.H.Host.world c.args.host.now)
    (g.H.Host.world c.place.new.host) c.place.result
    c.mail_temp_name.ensures c.notice_name.ensures (c.place.ensures.files known) (c.place.ensures.placed known)
