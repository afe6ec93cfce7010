use Rattle.std.proofs.Common.{◌∙◌, sym}
use Rattle.at_account.proofs.OneListLemmas.{one_list}
use Rattle.at_account.proofs.laws.news_are_one.Goals as goal

pub returns : goal.returns
returns c before table one other first second =
    one_list one other first.by_number second.by_number (λ number. first.each number ∙ sym (second.each number))
