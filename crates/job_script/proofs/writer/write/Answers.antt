use Rattle.std.proofs.Common.{List, ℕ, sym, subst, ◌∙◌}
use Rattle.job_script.specs.Form.{MeansJob, meaning_for}
use Rattle.job_script.proofs.OneMeaning.{fit_meaning, job_means, one_meaning}
use Rattle.job_script.proofs.writer.write.Goals as goal

pub returns-in-Ok-clause-means : goal.returns-in-Ok-clause-means
returns-in-Ok-clause-means c =
    let job = meaning_for c.args.context.now c.args.mail c.args.commands.now in
    subst (λ (text : List ℕ). MeansJob text job) (sym (c.from.ensures ∙ c.in-Ok.ensures))
    (job_means job (fit_meaning c.args.context.now c.args.mail c.args.commands.now c.in_ok-check.ensures.refused c.requires))

pub returns-in-Ok-clause-only : goal.returns-in-Ok-clause-only
returns-in-Ok-clause-only c = λ other means.
    let job = meaning_for c.args.context.now c.args.mail c.args.commands.now in
    one_meaning c.from.result other job means
    (subst (λ (text : List ℕ). MeansJob text job) (sym (c.from.ensures ∙ c.in-Ok.ensures))
    (job_means job (fit_meaning c.args.context.now c.args.mail c.args.commands.now c.in_ok-check.ensures.refused c.requires)))

pub returns-in-Ok-clause-form : goal.returns-in-Ok-clause-form
returns-in-Ok-clause-form c = record {
  job = meaning_for c.args.context.now c.args.mail c.args.commands.now;
  meant = fit_meaning c.args.context.now c.args.mail c.args.commands.now c.in_ok-check.ensures.refused c.requires;
  text = c.from.ensures ∙ c.in-Ok.ensures;
}
