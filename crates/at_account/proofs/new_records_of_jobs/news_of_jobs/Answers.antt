use Rattle.std.proofs.Common.{◌≡◌, ◌∙◌, ◌++◌, ap, append-nil, sym}
use Rattle.std.specs.BTreeMap as tree
use Rattle.std.specs.Ordering.{nat_cmp}
use Rattle.at_account.specs.News.{news_of}
use Rattle.at_account.specs.inside.NewRecordsOfJobs.{news_of_all}
use Rattle.at_account.proofs.GatheringLemmas.{are_news, gathered_more, news_in_turn}
use Rattle.at_account.proofs.new_records_of_jobs.news_of_jobs.Goals as goal

pub loop-number-preserved : goal.loop-number-preserved
loop-number-preserved c before ledger =
    gathered_more before (news_of_all before c.args.jobs.now.entries) c.loop-number.new_records.items
    c.add_new_records.new.new_records.items c.in-Some.number.now c.in-Some.known.now
    c.loop-number.number-iterator c.next.new.self c.in-Some.ensures.steps (c.loop-number.invariant before ledger)
    (c.in_ok-add_new_records.ensures before (c.state_of.ensures before ledger)
    ∙ ap (λ job. c.loop-number.new_records.items ++ news_of before c.in-Some.number.now job) c.as_ref.ensures.value)

pub returns-clause-are : goal.returns-clause-are
returns-clause-are c before known ledger knows =
    let all : c.loop-number.new_records.items ≡ news_of_all before c.args.jobs.now.entries =
    sym (append-nil c.loop-number.new_records.items) ∙ ap (λ left. c.loop-number.new_records.items ++ news_of_all before left)
    (sym c.in-None.ensures.steps.0) ∙ c.loop-number.invariant before ledger in
    are_news before known c.args.jobs.now c.loop-number.new_records.items c.into_iter-number-iterator.ensures.into_iter_gives.5 knows all

pub returns-clause-in_turn : goal.returns-clause-in_turn
returns-clause-in_turn c before ledger =
    let all : c.loop-number.new_records.items ≡ news_of_all before c.args.jobs.now.entries =
    sym (append-nil c.loop-number.new_records.items) ∙ ap (λ left. c.loop-number.new_records.items ++ news_of_all before left)
    (sym c.in-None.ensures.steps.0) ∙ c.loop-number.invariant before ledger in
    news_in_turn before (tree.get nat_cmp c.args.ledger.now.record_states) c.args.jobs.now c.loop-number.new_records.items
    c.into_iter-number-iterator.ensures.into_iter_gives.5 ledger all
