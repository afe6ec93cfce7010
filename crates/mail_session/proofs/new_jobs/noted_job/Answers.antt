use Rattle.std.proofs.Common.{ℕ, List, rules, subst, sym}
use Rattle.spool_store.specs.Scripts.{IsHeaderOn}
use Rattle.mail_session.proofs.NewsLemmas.{noted_from}
use Rattle.mail_session.proofs.new_jobs.noted_job.Goals as goal

pub returns-clause-noted : goal.returns-clause-noted
returns-clause-noted g c = λ known table current.
    noted_from c.args.store.now (g.H.Host.world c.args.host.now).now.directory table c.args.number c.unwrap-file.result
    c.user_named-user.result c.in_ok-header.header.mail current
    (search (rules, c.file.ensures.found, c.unwrap-file.ensures)) (search (rules, c.file.ensures.holds, c.unwrap-file.ensures, current))
    (subst (λ (user : List ℕ). IsHeaderOn table c.args.number (record { user = user; mail = c.in_ok-header.header.mail }))
    (sym c.user_named-user.ensures.same)
    (c.in_ok-header.ensures.header known table current))
