use Rattle.std.proofs.Common.{sym, subst, ◌∙◌}
use Rattle.std.specs.Prelude.{ℕ, List}
use Rattle.whole_file.specs.TempFiles.{IsDurableAt}
use Rattle.cron_session.proofs.NameLemmas.{temp_apart}
use Rattle.cron_session.proofs.PlacedLemmas.{placed_named, placing_named}
use Rattle.cron_session.proofs.mark.place_mark.Goals as goal

pub replace-requires-clause-differ : goal.replace-requires-clause-differ
replace-requires-clause-differ g c = λ same. temp_apart (sym c.mark_temporary_name.ensures ∙ same ∙ c.mark_name.ensures)

pub replace-requires-clause-durable : goal.replace-requires-clause-durable
replace-requires-clause-durable g c = λ known.
    subst (λ (name : List ℕ). IsDurableAt name (g.H.Host.world c.args.host.now).now.directory) (sym c.mark_temporary_name.ensures)
    (c.requires.durable known)

pub returns-clause-files : goal.returns-clause-files
returns-clause-files g c = λ known.
    placing_named c.mark_temporary_name.result c.mark_name.result c.cron_mark_text.result c.args.minute c.mark_temporary_name.ensures
    c.mark_name.ensures c.cron_mark_text.ensures
    (g.H.Host.world c.args.host.now) (g.H.Host.world c.replace.new.host) (c.replace.ensures.files known)

pub returns-clause-placed : goal.returns-clause-placed
returns-clause-placed g c = λ known.
    placed_named c.mark_temporary_name.result c.mark_name.result c.cron_mark_text.result c.args.minute c.mark_temporary_name.ensures
    c.mark_name.ensures c.cron_mark_text.ensures
    c.replace.result (g.H.Host.world c.args.host.now).now.directory (g.H.Host.world c.replace.new.host).now.directory
    (c.replace.ensures.placed known)
