use Rattle.std.proofs.Common.{◌∙◌, ap, refl}
use Rattle.std.specs.Prelude.{is_some}
use Rattle.spool_faults.specs.declared.first_files.FirstFile.{FirstFile}
use Rattle.spool_faults.specs.declared.first_files.FirstFiles.{FirstFiles}
use Rattle.spool_faults.specs.inside.FoundFiles.{file_found}
use Rattle.spool_faults.proofs.FirstFound.{first_known, first_new, first_same}
use Rattle.spool_faults.proofs.first_files.add_first.Goals as goal
use Rattle.spool_faults.proofs.first_files.add_first.Goals.{then-is_some-via-then-is_some, then-is_some-via-else-is_some+then-contains_key}

pub returns-then-is_some : goal.returns-then-is_some
returns-then-is_some c = λ files are. elim c.then-is_some.branch [
  | then-is_some-via-then-is_some w ↦
      first_same files (file_found c.args.file.now) c.args.firsts.now (w.if-is_some.ensures ∙ ap is_some c.header_place.ensures) are
  | then-is_some-via-else-is_some+then-contains_key w ↦ first_known files (file_found c.args.file.now) c.args.firsts.now
      (w.if-is_some.ensures ∙ ap is_some c.header_place.ensures) w.if-contains_key.ensures are
]

pub returns : goal.returns
returns c = λ files are.
    let first : FirstFile = record { name = c.args.file.now.name; job = c.args.file.now.job } in
    let new : FirstFiles = record { queues = c.insert.new.self; files = c.push.new.self } in
    first_new files (file_found c.args.file.now) first c.args.firsts.now new (c.if-is_some.ensures ∙ ap is_some c.header_place.ensures)
    c.if-contains_key.ensures c.in_ok-insert.ensures.updates refl c.in_ok-push.ensures.items are
