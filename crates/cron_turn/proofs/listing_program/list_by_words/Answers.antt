use Rattle.std.proofs.Common.{map, refl, string_bytes}
use Rattle.cron_turn.specs.ListingRun.{listing_at, listing_telling}
use Rattle.cron_turn.specs.ListingWords.{next_asked}
use Rattle.cron_turn.proofs.ListingProgramLemmas.{lists_refused, lists_taken}
use Rattle.cron_turn.proofs.listing_program.list_by_words.Goals as goal

pub returns-in-Ok-clause-lists : goal.returns-in-Ok-clause-lists
returns-in-Ok-clause-lists g c =
    lists_taken (listing_telling g.R.Readings g.I.Inputs g.O.Sink) c.args.zone.now
    (listing_at g.R.Readings g.I.Inputs g.O.Sink c.args.readings.now c.args.inputs.now c.args.out.now)
    (listing_at g.R.Readings g.I.Inputs g.O.Sink c.list_unless.new.readings c.list_unless.new.inputs c.list_unless.new.out)
    (next_asked (map string_bytes c.args.words.now)) c.in-Ok.request c.list_unless.result c.in-Ok.ensures c.list_unless.ensures.listed

pub returns-in-Err-clause-lists : goal.returns-in-Err-clause-lists
returns-in-Err-clause-lists g c =
    rw c.cause_of_words.ensures
    (lists_refused (listing_telling g.R.Readings g.I.Inputs g.O.Sink) c.args.zone.now
    (listing_at g.R.Readings g.I.Inputs g.O.Sink c.args.readings.now c.args.inputs.now c.args.out.now)
    (listing_at g.R.Readings g.I.Inputs g.O.Sink c.args.readings.now c.args.inputs.now c.args.out.now)
    (next_asked (map string_bytes c.args.words.now)) c.in-Err.fault c.in-Err.ensures refl)
