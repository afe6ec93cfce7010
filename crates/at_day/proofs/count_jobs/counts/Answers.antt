use Rattle.std.proofs.Common.{inl, inr, refl, rules}
use Rattle.host_calls.specs.Session.{StaysInside}
use Rattle.memory_host.specs.Host.{memory_session}
use Rattle.at_day.proofs.CountedLemmas.{counted_in_session, not_entered}
use Rattle.at_day.proofs.count_jobs.counts.Goals as goal

pub returns-in-Ok : goal.returns-in-Ok
returns-in-Ok c =
    let done = c.in-Ok.ensures.ends in
    let stays : StaysInside (memory_session done.first) (memory_session done.last) = search (rules, done.did) in
    counted_in_session c.args.host.now done.first done.last c.in_session.new.host c.in-Ok.counted done.begun.children done.begun.counts
    (done.begun.quiet.alone refl refl) stays (search (rules, done.did)) (search (rules, done.did)) (search (rules, done.did))
    done.over (done.quiet.alone refl refl)

pub returns-in-Err-Taken : goal.returns-in-Err-Taken
returns-in-Err-Taken c =
    let refused = c.in-Err-Taken.ensures.ends.refused in
    not_entered c.args.host.now c.in_session.new.host _ refused.left (refused.quiet.alone refl refl)
    (inr (refused.taken c.in-Err-Taken.field-0-is))

pub returns-in-Err-Failed : goal.returns-in-Err-Failed
returns-in-Err-Failed c =
    let refused = c.in-Err-Failed.ensures.ends.refused in
    not_entered c.args.host.now c.in_session.new.host _ refused.left (refused.quiet.alone refl refl)
    (inl (refused.failed c.in-Err-Failed.field-0-is))

pub returns-in-Err-Memory : goal.returns-in-Err-Memory
returns-in-Err-Memory c =
    let refused = c.in-Err-Memory.ensures.ends.refused in
    not_entered c.args.host.now c.in_session.new.host _ refused.left (refused.quiet.alone refl refl) tt
