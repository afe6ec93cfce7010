use Rattle.std.proofs.Common.{sym, subst, ◌∙◌}
use Rattle.std.specs.Prelude.{ℕ, List, OnOk}
use Rattle.whole_file.specs.Others.{ChangesFiles}
use Rattle.whole_file.specs.Placement.{IsPlaced, IsPlacing}
use Rattle.whole_file.specs.TempFiles.{IsDurableAt}
use Rattle.mail_notes.specs.Names.{mail_file, mail_temp}
use Rattle.mail_notes.proofs.TextLemmas.{note_files_are_texts}
use Rattle.mail_session.proofs.NotingLemmas.{notes_apart}
use Rattle.at_mail.proofs.trim_write.replace_notes.Goals as goal

pub replace-requires-clause-differ : goal.replace-requires-clause-differ
replace-requires-clause-differ g c = λ same. notes_apart (sym c.mail_temp_name.ensures ∙ same ∙ c.mail_name.ensures)

pub replace-requires-clause-durable : goal.replace-requires-clause-durable
replace-requires-clause-durable g c = λ known.
    subst (λ (name : List ℕ). IsDurableAt name (g.H.Host.world c.args.host.now).now.directory) (sym c.mail_temp_name.ensures)
    (c.requires.durable known)

pub returns-clause-files : goal.returns-clause-files
returns-clause-files g c = λ known.
    let old = g.H.Host.world c.args.host.now in
    let new = g.H.Host.world c.replace.new.host in
    subst (λ bytes. ChangesFiles (IsPlacing mail_temp mail_file bytes old.now.directory) old new)
    (c.as_slice.ensures ∙ note_files_are_texts c.in_ok-text.text c.args.notes.now c.in_ok-text.ensures)
    (subst (λ temp. ChangesFiles (IsPlacing temp mail_file c.as_slice.result.now old.now.directory) old new) c.mail_temp_name.ensures
    (subst (λ target. ChangesFiles (IsPlacing c.mail_temp_name.result target c.as_slice.result.now old.now.directory) old new)
    c.mail_name.ensures
    (c.replace.ensures.files known)))

pub returns-clause-placed : goal.returns-clause-placed
returns-clause-placed g c = λ known.
    let old = (g.H.Host.world c.args.host.now).now.directory in
    let new = (g.H.Host.world c.replace.new.host).now.directory in
    subst (λ bytes. OnOk c.replace.result (IsPlaced mail_temp mail_file bytes old new))
    (c.as_slice.ensures ∙ note_files_are_texts c.in_ok-text.text c.args.notes.now c.in_ok-text.ensures)
    (subst (λ temp. OnOk c.replace.result (IsPlaced temp mail_file c.as_slice.result.now old new)) c.mail_temp_name.ensures
    (subst (λ target. OnOk c.replace.result (IsPlaced c.mail_temp_name.result target c.as_slice.result.now old new)) c.mail_name.ensures
    (c.replace.ensures.placed known)))
