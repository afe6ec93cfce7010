use Rattle.std.proofs.Common.{◌∙◌, sym, subst}
use Rattle.host_calls.specs.Directory.{IsInNoImage}
use Rattle.mail_notes.specs.Names.{mail_file}
use Rattle.mail_session.proofs.NotingLemmas.{notes_apart, placed_under}
use Rattle.mail_session.proofs.places.place_notes.Goals as goal

pub place-requires-clause-differ : goal.place-requires-clause-differ
place-requires-clause-differ g c = λ is. notes_apart (sym c.mail_temp_name.ensures ∙ is ∙ c.mail_name.ensures)

pub place-requires-clause-no_temp : goal.place-requires-clause-no_temp
place-requires-clause-no_temp g c =
    λ known. subst (IsInNoImage (g.H.Host.world c.args.host.now).now.directory) (sym c.mail_temp_name.ensures) (c.requires.no_temp known)

pub returns-clause-files : goal.returns-clause-files
returns-clause-files g c = λ known.
    placed_under c.mail_temp_name.result c.mail_name.result mail_file c.args.text.now (g.H.Host.world c.args.host.now)
    (g.H.Host.world c.place.new.host) c.place.result
    c.mail_temp_name.ensures c.mail_name.ensures (c.place.ensures.files known) (c.place.ensures.placed known)
