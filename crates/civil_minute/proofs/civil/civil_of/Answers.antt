use Rattle.std.proofs.Common.{◌*◌, pos, arith}
use Rattle.std.proofs.lemmas.Int.{ints}
use Rattle.jiff_core.proofs.SignedLemmas.{signed_arith}
use Rattle.civil_minute.specs.inside.Reckoning.{IsLocalTime}
use Rattle.civil_minute.proofs.CivilLemmas.{local_time-same, shown_civil_time, shown_printable}
use Rattle.civil_minute.proofs.civil.civil_of.Goals as goal
use Rattle.civil_minute.proofs.civil.civil_of.Goals.{After-fields_of}

-- the clock is read at the first second of the minute
shown : (c : After-fields_of) → IsLocalTime c.args.zone.now (pos (60 * c.args.minute)) c.local_at.result
shown c = local_time-same (pos (60 * c.args.minute)) (omega (arith, ints)) c.local_at.ensures

pub returns-clause-value : goal.returns-clause-value
returns-clause-value c =
    shown_civil_time c.args.zone.now (pos (60 * c.args.minute)) c.local_at.result c.fields_of.result c.fields_of.ensures (shown c)

pub returns-clause-printable : goal.returns-clause-printable
returns-clause-printable c =
    shown_printable c.args.zone.now (pos (60 * c.args.minute)) c.local_at.result c.fields_of.result c.fields_of.ensures (shown c)
    (omega (arith, signed_arith))
