use Rattle.std.proofs.Common.{◌∙◌, ◌++◌, ◌∷◌, [], ap, arith}
use Rattle.at_account.proofs.TextLemmas.{text_added}
use Rattle.at_account.proofs.record_line.AccountRecordLineRecord.write.Goals as goal

pub returns : goal.returns
returns c =
    let spelled = c.requires.spelled in
    record {
      line = c.requires.line;
      whole = c.requires.whole;
      spelled = spelled;
      added = c.in_ok-write_owner.ensures ∙ text_added c.args.text.now.items c.push.new.self.items c.push-2.new.self.items
          c.extend_from_slice.new.self.items c.write_hex.new.out c.requires.line c.args.self.now spelled
          (c.in_ok-push.ensures.items ∙ ap (λ letter. c.args.text.now.items ++ letter ∷ []) c.letter_of_event.ensures)
          c.in_ok-push-2.ensures.items c.in_ok-extend_from_slice.ensures.items
          (omega arith, c.write_hex.ensures);
    }
