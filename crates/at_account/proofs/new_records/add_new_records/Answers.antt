use Rattle.std.proofs.Common.{◌∙◌, ◌++◌, ap}
use Rattle.std.specs.Option.{option_copied}
use Rattle.at_account.specs.News.{records_of}
use Rattle.at_account.proofs.NewsLemmas.{news_added}
use Rattle.at_account.proofs.new_records.add_new_records.Goals as goal

pub returns : goal.returns
returns c before holds =
    news_added before c.args.number (option_copied c.args.record_state) (option_copied c.args.known) c.said_by-said.result
    c.args.new_records.now.items c.add_event.new.new_records.items c.add_event-2.new.new_records.items c.add_event-3.new.new_records.items
    holds c.said_by-said.ensures
    (c.in_ok-add_event.ensures ∙ ap (λ event. c.args.new_records.now.items ++ records_of c.args.number event) c.seen_event.ensures)
    (c.in_ok-add_event-2.ensures ∙ ap (λ event. c.add_event.new.new_records.items ++ records_of c.args.number event) c.start_event.ensures)
    (c.in_ok-add_event-3.ensures
    ∙ ap (λ event. c.add_event-2.new.new_records.items ++ records_of c.args.number event) c.closing_event.ensures)
