use Rattle.std.proofs.Common.{◌∙◌, List, refl, subst, sym, ℕ}
use Rattle.tool_output.specs.Sinks.{sink_at}
use Rattle.cron_turn.specs.ListingRun.{PutsListing, bad_zone, listing_put, no_listing}
use Rattle.cron_turn.proofs.listing_program.list_unless.Goals as goal

pub returns-then-is_unreadable-clause-listed : goal.returns-then-is_unreadable-clause-listed
returns-then-is_unreadable-clause-listed g c = bad_zone (sym c.is_unreadable.ensures ∙ c.if-is_unreadable.true) refl

pub returns-in-Ok-clause-listed : goal.returns-in-Ok-clause-listed
returns-in-Ok-clause-listed g c =
    listing_put c.in-Ok.text c.put_listing.result (sym c.is_unreadable.ensures ∙ c.if-is_unreadable.false) c.in-Ok.ensures
    (subst (λ (of : List ℕ). PutsListing g.O.Sink.tells of (sink_at (g.O.Sink.content c.args.out.now) (g.O.Sink.outlet c.args.out.now))
    (sink_at (g.O.Sink.content c.put_listing.new.out) (g.O.Sink.outlet c.put_listing.new.out)) c.put_listing.result) c.as_slice.ensures
    c.put_listing.ensures.puts)

pub returns-in-Err-clause-listed : goal.returns-in-Err-clause-listed
returns-in-Err-clause-listed g c =
    no_listing c.in-Err.stopped (sym c.is_unreadable.ensures ∙ c.if-is_unreadable.false) c.in-Err.ensures refl
