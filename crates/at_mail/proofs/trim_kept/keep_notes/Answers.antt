use Rattle.std.proofs.Common.{rules}
use Rattle.std.proofs.lemmas.Fn.{filter_same}
use Rattle.at_mail.specs.TrimmedNotes.{stays}
use Rattle.at_mail.proofs.trim_kept.keep_notes.Goals as goal

pub returns : goal.returns
returns c = λ of.
    filter_same _ (stays c.args.store.now.table c.args.notes.now.items) _ (λ x b f' k. search (rules, of)) _ _ c.retain.ensures.filtered
