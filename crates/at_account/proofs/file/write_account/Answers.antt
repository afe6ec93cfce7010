use Rattle.std.proofs.Common.{subst, sym}
use Rattle.record_lines.specs.Lines.{AreSpelled}
use Rattle.at_account.specs.Lines.{SpellsRecord}
use Rattle.at_account.proofs.FilingLemmas.{writes, written}
use Rattle.at_account.proofs.file.write_account.Goals as goal

pub returns-in_err-replace_text-clause-files : goal.returns-in_err-replace_text-clause-files
returns-in_err-replace_text-clause-files g c = λ known.
    let spelled : AreSpelled SpellsRecord c.as_slice.result.now c.args.account.now =
    subst (λ bytes. AreSpelled SpellsRecord bytes c.args.account.now) (sym c.as_slice.ensures)
    (subst (AreSpelled SpellsRecord c.in_ok-text.text) c.records.ensures.records c.in_ok-text.ensures) in
    writes c.as_slice.result.now c.args.account.now spelled c.records.ensures.in_turn (g.H.Host.world c.args.host.now)
    (g.H.Host.world c.replace_text.new.host)
    (c.in_err-replace_text.ensures.files known)

pub returns-clause-files : goal.returns-clause-files
returns-clause-files g c = λ known.
    let spelled : AreSpelled SpellsRecord c.as_slice.result.now c.args.account.now =
    subst (λ bytes. AreSpelled SpellsRecord bytes c.args.account.now) (sym c.as_slice.ensures)
    (subst (AreSpelled SpellsRecord c.in_ok-text.text) c.records.ensures.records c.in_ok-text.ensures) in
    writes c.as_slice.result.now c.args.account.now spelled c.records.ensures.in_turn (g.H.Host.world c.args.host.now)
    (g.H.Host.world c.replace_text.new.host)
    (c.in_ok-replace_text.ensures.files known)

pub returns-clause-written : goal.returns-clause-written
returns-clause-written g c = λ known.
    let spelled : AreSpelled SpellsRecord c.as_slice.result.now c.args.account.now =
    subst (λ bytes. AreSpelled SpellsRecord bytes c.args.account.now) (sym c.as_slice.ensures)
    (subst (AreSpelled SpellsRecord c.in_ok-text.text) c.records.ensures.records c.in_ok-text.ensures) in
    written c.as_slice.result.now c.args.account.now spelled c.records.ensures.in_turn (g.H.Host.world c.args.host.now).now.directory
    (g.H.Host.world c.replace_text.new.host).now.directory
    (c.in_ok-replace_text.ensures.placed known)
