use Rattle.std.proofs.Common.{◌≡◌, ◌∙◌, ◌++◌, [], sym, ap}
use Rattle.std.specs.List.{filter_map}
use Rattle.spool_faults.specs.Faults.{first_files}
use Rattle.spool_faults.specs.Salvaged.{given_up}
use Rattle.spool_faults.specs.inside.FoundFiles.{file_first}
use Rattle.spool_faults.specs.inside.SavedParts.{removal_unless}
use Rattle.spool_faults.proofs.Planned.{queues_taken, saved_lost, saved_plain}
use Rattle.spool_faults.proofs.SavingLists.{taken_back_are}
use Rattle.spool_faults.proofs.saved_marks.saved_marks.Goals as goal
use Rattle.spool_faults.proofs.saved_marks.saved_marks.Goals.{then-lost+in_ok-named+in_ok-remove_unnamed, else-lost}

pub returns-clause-saved : goal.returns-clause-saved
returns-clause-saved c = λ files decided first.
    let marks = c.args.marks.now in
    let ups : c.give_up.new.saved.items ≡ c.extend_from_slice.new.self.items ++ filter_map (given_up marks (first_files [] files)) marks =
    c.in_ok-give_up.ensures.saved marks (first_files [] files) decided (queues_taken files c.args.firsts.now first) in
    elim c.if-lost.branch [
      | then-lost+in_ok-named+in_ok-remove_unnamed w ↦
          let back : c.if-lost.saved.items ≡ c.give_up.new.saved.items ++ filter_map (λ file. removal_unless w.in_ok-named.named
          (file_first file)) w.as_slice.result.now = ap (λ v. v.items) w.saved-is ∙ w.in_ok-remove_unnamed.ensures.saved in
          saved_lost marks (first_files [] files) c.args.lost c.new-saved.result.items
          c.extend_from_slice.new.self.items c.give_up.new.saved.items c.if-lost.saved.items
          (filter_map (λ file. removal_unless w.in_ok-named.named (file_first file)) w.as_slice.result.now)
          c.new-saved.ensures.items c.in_ok-extend_from_slice.ensures.items ups (sym w.if-lost.true) back
          (ap (filter_map (λ file. removal_unless w.in_ok-named.named (file_first file))) w.as_slice.ensures.value
          ∙ taken_back_are marks w.in_ok-named.named files c.args.firsts.now w.in_ok-named.ensures first)
      | else-lost w ↦
          let same : c.if-lost.saved.items ≡ c.give_up.new.saved.items = ap (λ v. v.items) w.saved-is in
          saved_plain marks (first_files [] files) c.args.lost c.new-saved.result.items
          c.extend_from_slice.new.self.items c.if-lost.saved.items
          c.new-saved.ensures.items c.in_ok-extend_from_slice.ensures.items (same ∙ ups) (sym w.if-lost.false)
    ]
