use Rattle.at_account.proofs.LegalLemmas.{news_legal}
use Rattle.at_account.proofs.laws.news_may_come.Goals as goal

pub returns : goal.returns
returns c = news_legal
