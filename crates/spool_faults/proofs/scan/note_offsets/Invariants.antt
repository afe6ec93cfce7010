use Rattle.std.proofs.Common.{◌≡◌, ◌++◌, map, take}
use Rattle.host_calls.specs.Damages.{damage_at}
use Rattle.start_journal.specs.Journals.{journal_file}
use Rattle.spool_faults.proofs.scan.note_offsets.Given as goal

abbrev pub invariant-loop-offset : goal.invariant-loop-offset
invariant-loop-offset l = l.faults.items ≡ l.fn.faults.items ++ map (damage_at journal_file l.bytes) (take l.offset-index l.offsets)
