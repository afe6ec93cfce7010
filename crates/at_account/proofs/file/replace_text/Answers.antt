use Rattle.std.proofs.Common.{sym, subst, ◌∙◌}
use Rattle.std.specs.Prelude.{ℕ, List, OnOk}
use Rattle.whole_file.specs.Others.{ChangesFiles}
use Rattle.whole_file.specs.Placement.{IsPlaced, IsPlacing}
use Rattle.whole_file.specs.TempFiles.{IsDurableAt}
use Rattle.at_account.specs.Names.{account_file}
use Rattle.at_account.proofs.NameLemmas.{temp_apart}
use Rattle.at_account.proofs.file.replace_text.Goals as goal

pub replace-requires-clause-differ : goal.replace-requires-clause-differ
replace-requires-clause-differ g c = λ same. temp_apart (sym c.account_temporary_name.ensures ∙ same ∙ c.account_name.ensures)

pub replace-requires-clause-durable : goal.replace-requires-clause-durable
replace-requires-clause-durable g c = λ known.
    subst (λ (name : List ℕ). IsDurableAt name (g.H.Host.world c.args.host.now).now.directory) (sym c.account_temporary_name.ensures)
    (c.requires.durable known)

pub returns-clause-files : goal.returns-clause-files
returns-clause-files g c = λ known.
    let old = g.H.Host.world c.args.host.now in
    let new = g.H.Host.world c.replace.new.host in
    subst (λ temp. ChangesFiles (IsPlacing temp account_file c.args.bytes.now old.now.directory) old new) c.account_temporary_name.ensures
    (subst (λ target. ChangesFiles (IsPlacing c.account_temporary_name.result target c.args.bytes.now old.now.directory) old new)
    c.account_name.ensures
    (c.replace.ensures.files known))

pub returns-clause-placed : goal.returns-clause-placed
returns-clause-placed g c = λ known.
    let old = (g.H.Host.world c.args.host.now).now.directory in
    let new = (g.H.Host.world c.replace.new.host).now.directory in
    subst (λ temp. OnOk c.replace.result (IsPlaced temp account_file c.args.bytes.now old new)) c.account_temporary_name.ensures
    (subst (λ target. OnOk c.replace.result (IsPlaced c.account_temporary_name.result target c.args.bytes.now old new))
    c.account_name.ensures
    (c.replace.ensures.placed known))
