use Rattle.std.proofs.Common.{◌≡◌, ◌&&◌, Bool, List, All, Contains, IsPermutation, filter, ap, subst, sym, ◌∙◌, ℕ}
use Rattle.std.proofs.lemmas.List.Elements.{All-contains_itself, All-filter, All-weaker}
use Rattle.std.proofs.lemmas.List.Sorted.{All-permutation}
use Rattle.host_calls.specs.ClockRange.{IsClockMinute}
use Rattle.command_rules.specs.Requested.{passes_of}
use Rattle.job_listing.specs.inside.Lines.{ShowsRows}
use Rattle.listing_text.specs.Listing.{IsListing, may_see}
use Rattle.spool_model.specs.declared.row.Row.{Row}
use Rattle.spool_model.specs.Lists.{live_rows}
use Rattle.spool_store.proofs.CountLemmas.{rows_listed}
use Rattle.spool_store.proofs.Edits.{test_from}
use Rattle.job_listing.proofs.OrderLemmas.{kept_differ}
use Rattle.job_listing.proofs.listed.job_listing_text.Goals as goal

pub sort_rows-requires : goal.sort_rows-requires
sort_rows-requires c =
    kept_differ c.rows.result.now c.in_ok-rows.rows.items
    (λ row. may_see c.args.user.now row && passes_of c.args.which.now row) (test_from _ c.rows.ensures.rows.rise) c.in_ok-rows.ensures

pub lines-requires-clause-minutes : goal.lines-requires-clause-minutes
lines-requires-clause-minutes c =
    let rows = c.rows.result.now in
    let test : Row → Bool = λ row. may_see c.args.user.now row && passes_of c.args.which.now row in
    let dated : Row → Type 0 = λ row. IsClockMinute row.minute in
    let all : All dated rows =
    All-weaker (Contains rows) dated (λ row listed. (c.rows.ensures.ranges row listed).named.in_calendar) rows (All-contains_itself rows) in
    let kept : All dated c.in_ok-rows.rows.items =
    subst (λ (seen : List Row). All dated seen) (sym c.in_ok-rows.ensures) (All-filter test dated rows all) in
    subst (λ (moved : List Row). All dated moved) (sym c.deref.ensures.value)
    (All-permutation dated c.in_ok-rows.rows.items c.sort_rows.new.rows.items c.sort_rows.ensures.same kept)

pub returns : goal.returns
returns c =
    let moved = c.sort_rows.new.rows.items in
    let test : Row → Bool = λ row. may_see c.args.user.now row && passes_of c.args.which.now row in
    let shows : ShowsRows c.args.zone.now moved c.in_ok-text.text.items =
    subst (λ (rows : List Row). ShowsRows c.args.zone.now rows c.in_ok-text.text.items) c.deref.ensures.value c.in_ok-text.ensures in
    let listed : c.in_ok-rows.rows.items ≡ filter test (live_rows c.args.store.now.table) =
    c.in_ok-rows.ensures
    ∙ ap (λ (rows : List Row). filter test rows) (sym (rows_listed c.args.store.now.table c.rows.result.now c.rows.ensures.rows)) in
    subst (λ (text : List ℕ). IsListing c.args.zone.now c.args.store.now.table c.args.user.now (passes_of c.args.which.now) text)
    (sym c.from.ensures)
    (record {
      rows = moved;
      lines = shows.lines;
      same = subst (λ (seen : List Row). IsPermutation seen moved) listed c.sort_rows.ensures.same;
      ordered = c.sort_rows.ensures.ordered;
      shown = shows.shown;
      joined = shows.joined;
    })
