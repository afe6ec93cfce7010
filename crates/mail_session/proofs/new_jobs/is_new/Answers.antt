use Rattle.std.proofs.Common.{◌∙◌, sym}
use Rattle.mail_session.proofs.NewsLemmas.{copied_some, flipped, named_by}
use Rattle.mail_session.proofs.new_jobs.is_new.Goals as goal

pub returns : goal.returns
returns c = λ notes of. flipped c.is_none.result _ _ (sym c.is_none.ensures) (copied_some c.state_of.result
    ∙ named_by notes c.args.number _ (c.state_of.ensures notes of))
