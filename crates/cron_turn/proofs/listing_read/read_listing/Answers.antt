use Rattle.std.proofs.Common.{◌≡◌, ◌∙◌, ◌+◌, ℕ, ℤ, List, Ok, Err, FitsSigned, ap, of_z, refl, rules, subst, sym, to_z, w64}
use Rattle.std.proofs.lemmas.Int.{to_z-of_z}
use Rattle.tool_output.specs.Outside.{input_at}
use Rattle.host_calls.specs.ClockRange.{IsClockSecond, minute_at}
use Rattle.cron_turn.specs.CrontabFile.{ReadsEntries}
use Rattle.cron_text.specs.declared.entry.CronEntry.{CronEntry}
use Rattle.cron_turn.specs.ListingRun.{bad_clock, no_entries, read_at}
use Rattle.cron_turn.specs.inside.AddedLines.{GivesText}
use Rattle.cron_turn.proofs.ListingProgramLemmas.{gives_text}
use Rattle.cron_turn.proofs.listing_read.read_listing.Goals as goal

pub returns-then-not-is_clock_second : goal.returns-then-not-is_clock_second
returns-then-not-is_clock_second g c =
    let fits : FitsSigned w64 c.now-now.result = search rules in
    let same : to_z w64 (of_z w64 c.now-now.result) ≡ c.now-now.result = to_z-of_z w64 c.now-now.result fits in
    rw c.refused.ensures
    (bad_clock c.now-now.result
    (λ (is : IsClockSecond c.now-now.result). let other = sym c.if-not-is_clock_second.true
    ∙ c.is_clock_second.ensures.fact.1 (subst IsClockSecond (sym same) is) in cc)
    (record { known = c.now-now.ensures.known; readers = c.now-now.ensures.same }) refl)

pub returns-in-Err : goal.returns-in-Err
returns-in-Err g c =
    let fits : FitsSigned w64 c.now-now.result = search rules in
    let same : to_z w64 (of_z w64 c.now-now.result) ≡ c.now-now.result = to_z-of_z w64 c.now-now.result fits in
    no_entries c.in-Err.stopped (record {
      now = c.now-now.result;
      range = subst IsClockSecond same (c.is_clock_second.ensures.fact.0 c.if-not-is_clock_second.false);
      clock_read = record { known = c.now-now.ensures.known; readers = c.now-now.ensures.same };
      entries_read = subst (λ (path : List ℕ). ReadsEntries g.I.Inputs.tells path (input_at g.I.Inputs c.args.inputs.now)
          (input_at g.I.Inputs c.read_entries.new.inputs) (Err c.in-Err.stopped))
          c.as_str.ensures c.in-Err.ensures.reads;
    })

pub returns-in-Ok : goal.returns-in-Ok
returns-in-Ok g c =
    let fits : FitsSigned w64 c.now-now.result = search rules in
    let same : to_z w64 (of_z w64 c.now-now.result) ≡ c.now-now.result = to_z-of_z w64 c.now-now.result fits in
    gives_text g.R.Readings.tells g.I.Inputs.tells c.args.zone.now c.args.request.now
    (read_at g.R.Readings g.I.Inputs c.args.readings.now c.args.inputs.now)
    (read_at g.R.Readings g.I.Inputs c.now-now.new.self c.read_entries.new.inputs)
    c.in-Ok.entries (c.minute_at-from.result + 1) c.crontab_listing_text.result
    (record {
      now = c.now-now.result;
      range = subst IsClockSecond same (c.is_clock_second.ensures.fact.0 c.if-not-is_clock_second.false);
      clock_read = record { known = c.now-now.ensures.known; readers = c.now-now.ensures.same };
      entries_read = subst (λ (path : List ℕ). ReadsEntries g.I.Inputs.tells path (input_at g.I.Inputs c.args.inputs.now)
          (input_at g.I.Inputs c.read_entries.new.inputs) (Ok c.in-Ok.entries))
          c.as_str.ensures c.in-Ok.ensures.reads;
    })
    (ap (λ (minute : ℕ). minute + 1) (c.minute_at-from.ensures.value ∙ ap minute_at same))
    (subst (λ (entries : List CronEntry). GivesText c.args.zone.now (c.minute_at-from.result + 1) c.args.request.now.count entries
    c.crontab_listing_text.result) c.as_slice.ensures c.crontab_listing_text.ensures)
