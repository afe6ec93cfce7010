use Rattle.std.proofs.Common.{◌∙◌, arith, inr, refl, subst, sym}
use Rattle.std.specs.List.{All}
use Rattle.record_lines.specs.Lines.{CanBeSpelled}
use Rattle.mail_notes.specs.Lines.{SpellsNote}
use Rattle.at_mail.specs.TrimmedNotes.{stays}
use Rattle.at_mail.proofs.KeepingLemmas.{all_filtered}
use Rattle.at_mail.proofs.WritingLemmas.{as_many}
use Rattle.at_mail.proofs.trim_write.write_kept.Goals as goal

pub returns-then-len-count-clause-written : goal.returns-then-len-count-clause-written
returns-then-len-count-clause-written g c = λ known.
    inr (
      refl,
      as_many c.args.store.now.table c.args.read.now.notes.items c.keep_notes.new.notes.items (c.keep_notes.ensures c.requires.told)
          (omega (arith, c.if-len-count.true, c.len.ensures, c.len-count.ensures, c.keep_notes.new.notes.ok.0, c.args.read.now.notes.ok.0)),
    )

pub replace_notes-requires-clause-spelled : goal.replace_notes-requires-clause-spelled
replace_notes-requires-clause-spelled g c =
    subst (All (CanBeSpelled SpellsNote)) (sym (c.as_slice.ensures.value ∙ c.keep_notes.ensures c.requires.told))
    (all_filtered (CanBeSpelled SpellsNote) (stays c.args.store.now.table c.args.read.now.notes.items)
    c.args.read.now.notes.items c.requires.spelled)
