use Rattle.std.proofs.Common.{sym, ap, ◌∙◌}
use Rattle.std.specs.FinMap as map
use Rattle.host_calls.specs.World.{reading}
use Rattle.start_journal.proofs.JournalReads.{answer_drawn}
use Rattle.start_journal.proofs.ReadLemmas.{absent_read}
use Rattle.start_journal.proofs.journal.Journal.recall_with_lives.Goals as goal

pub returns-in-None-clause-journal : goal.returns-in-None-clause-journal
returns-in-None-clause-journal g c = λ tells.
    absent_read c.args.last _ c.new.result.items
    (sym (ap (map.get (reading (g.H.Host.world c.args.host.now))) c.journal_name.ensures) ∙ sym (c.in_ok-bytes.ensures.content tells)
    ∙ c.in-None.is) c.new.ensures.items

pub returns-in-Some-clause-drawn : goal.returns-in-Some-clause-drawn
returns-in-Some-clause-drawn g c = answer_drawn c.args.last _ c.read_marks.result c.read_marks.ensures.journal
