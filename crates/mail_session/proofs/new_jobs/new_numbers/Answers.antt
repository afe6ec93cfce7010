use Rattle.std.proofs.Common.{◌∙◌, ap, filter, rules, subst, sym}
use Rattle.std.proofs.lemmas.Fn.{filter_same}
use Rattle.std.specs.List.{All}
use Rattle.spool_store.specs.Listed.{IsLive}
use Rattle.mail_session.specs.News.{is_new}
use Rattle.mail_session.proofs.NewsLemmas.{kept_all}
use Rattle.mail_session.proofs.new_jobs.new_numbers.Goals as goal

pub returns-clause-numbers : goal.returns-clause-numbers
returns-clause-numbers c = λ notes of.
    filter_same _ (is_new notes) _ (λ x b f' k. search (rules, of)) _ _ c.retain.ensures.filtered
    ∙ ap (filter (is_new notes)) c.in_ok-numbers.ensures.numbers

pub returns-clause-live : goal.returns-clause-live
returns-clause-live c =
    let kept = c.retain.ensures.filtered in
    subst (All (IsLive c.args.store.now.table)) (sym kept.4)
    (kept_all (IsLive c.args.store.now.table) kept.0 c.in_ok-numbers.numbers.items c.in_ok-numbers.ensures.live)
