use Rattle.std.proofs.Common.{sym, ap}
use Rattle.sequence_file.specs.LastNumber.{last_in}
use Rattle.spool_faults.proofs.Planned.{number_read}
use Rattle.spool_faults.proofs.scan.sequence_number.Goals as goal

pub returns-in-None : goal.returns-in-None
returns-in-None c = sym (ap last_in c.in-None.is)

pub returns-in-Some : goal.returns-in-Some
returns-in-Some c = number_read c.args.content.now _ c.as_slice.result.now c.read_sequence.result c.in-Some.is c.as_slice.ensures
    c.read_sequence.ensures.number c.read_sequence.ensures.name c.read_sequence.ensures.damaged
