use Rattle.std.proofs.Common.{Some}
use Rattle.host_calls.specs.World.{World}
use Rattle.start_journal.specs.JournalChange.{GivesReadJournal}
use Rattle.start_journal.specs.Journals.{JournalRead}
use Rattle.start_journal.proofs.ChangeLemmas.{made_gives, replaced, replacing}
use Rattle.start_journal.proofs.journal.Journal.replace.Goals as goal

pub returns-clause-files : goal.returns-clause-files
returns-clause-files g c = λ tells.
    let inside : JournalRead = record { marks = c.self.inside.marks.items; free = c.self.inside.free } in
    let gives : GivesReadJournal (Some c.as_slice-2.result.now) c.args.self.now =
    made_gives c.in_ok-text.text.items c.as_slice-2.result.now c.as_slice.result.now inside c.args.self.now c.as_slice-2.ensures.value
    c.as_slice.ensures.value c.in_ok-text.ensures c.self.invariant c.self.view_is in
    replacing c.temporary_name.result c.journal_name.result c.as_slice-2.result.now c.args.self.now (g.H.Host.world c.args.host.now) _
    c.temporary_name.ensures c.journal_name.ensures gives (c.place.ensures.files tells)

pub returns-clause-replaced : goal.returns-clause-replaced
returns-clause-replaced g c = λ tells.
    let inside : JournalRead = record { marks = c.self.inside.marks.items; free = c.self.inside.free } in
    let gives : GivesReadJournal (Some c.as_slice-2.result.now) c.args.self.now =
    made_gives c.in_ok-text.text.items c.as_slice-2.result.now c.as_slice.result.now inside c.args.self.now c.as_slice-2.ensures.value
    c.as_slice.ensures.value c.in_ok-text.ensures c.self.invariant c.self.view_is in
    let old : World = g.H.Host.world c.args.host.now in
    let new : World = g.H.Host.world c.place.new.host in
    replaced c.temporary_name.result c.journal_name.result c.as_slice-2.result.now c.args.self.now old.now.directory new.now.directory
    c.place.result c.temporary_name.ensures c.journal_name.ensures gives (c.place.ensures.placed tells)
