use Rattle.std.proofs.Common.{◌≡◌, ◌∙◌, subst}
use Rattle.std.specs.Prelude.{IsErrAnd}
use Rattle.host_calls.specs.declared.store_fault.StoreFault.TheVariants.{Memory}
use Rattle.cron_session.specs.inside.Due.{cron_job}
use Rattle.cron_session.proofs.OneLemmas.{no_memory, script_has_header, submits_one_at, submitted_one}
use Rattle.cron_session.proofs.submit.submit_entry.Goals as goal

pub submit-requires-clause-header : goal.submit-requires-clause-header
submit-requires-clause-header g c =
    script_has_header c.args.context.now c.args.commands.now c.as_slice.result.now c.requires.fit (c.as_slice.ensures
    ∙ c.in_ok-script.ensures.script)

pub returns-in_err-script : goal.returns-in_err-script
returns-in_err-script g c =
    submits_one_at _ _ _ _ _ _ _ Memory c.from_residual.result
    (subst (λ fault. IsErrAnd c.from_residual.result (λ other. other ≡ fault)) c.in_err-script.ensures.memory c.from_residual.ensures.1)
    (no_memory g.H.Host.tells (g.H.Host.session c.args.host.now) (g.H.Host.world c.args.host.now) c.args.store
    (cron_job c.args.context.now c.args.minute c.args.commands.now) c.requires.inside)

pub returns : goal.returns
returns g c =
    submitted_one g.H.Host.tells (g.H.Host.session c.args.host.now) (g.H.Host.session c.submit.new.host) (g.H.Host.world c.args.host.now)
    (g.H.Host.world c.submit.new.host)
    c.args.store c.args.context.now c.args.minute c.args.commands.now c.as_slice.result.now c.submit.result c.requires.fit
    (c.as_slice.ensures ∙ c.in_ok-script.ensures.script)
    c.requires.room c.submit.ensures.inside c.submit.ensures.answer c.submit.ensures.kept c.submit.ensures.files
