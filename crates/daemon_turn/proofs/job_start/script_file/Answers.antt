use Rattle.std.proofs.Common.{◌≡◌}
use Rattle.job_name.specs.declared.job.JobName.{JobName}
use Rattle.step_runs.specs.Current.{is_new_form}
use Rattle.spool_store.specs.Listed.{IsLive}
use Rattle.spool_store.specs.Scripts.{HoldsScript, IsLiveFileName}
use Rattle.spool_store.proofs.StepCalls.{of_some}
use Rattle.daemon_turn.proofs.HandLemmas.{and_some, and_there, is_there, named, script_is}
use Rattle.daemon_turn.proofs.job_start.script_file.Goals as goal

pub unwrap-name-requires : goal.unwrap-name-requires
unwrap-name-requires c = is_there (IsLive c.args.store.now.table c.args.number) c.file.result c.file.ensures.absent c.requires

pub unwrap-job-requires : goal.unwrap-job-requires
unwrap-job-requires c =
    let file : IsLiveFileName c.args.store.now.table c.args.store.now.old_form c.args.number c.unwrap-name.result =
    of_some (IsLiveFileName c.args.store.now.table c.args.store.now.old_form c.args.number) c.file.result c.unwrap-name.result
    c.unwrap-name.ensures c.file.ensures.found in
    and_there (λ (job : JobName). (job.queue ≡ file.job.queue) × (job.number ≡ c.args.number) × (job.minute ≡ file.job.minute)
    × (job.new_form ≡ is_new_form c.args.store.now.old_form c.args.number)) c.read.result
    (c.read.ensures.found file.job.queue c.args.number file.job.minute (is_new_form c.args.store.now.old_form c.args.number)
    (named c.args.store.now.table c.args.store.now.old_form c.args.number c.unwrap-name.result c.as_bytes.result.now
    c.as_bytes.ensures.bytes file))

pub returns : goal.returns
returns c =
    let file : IsLiveFileName c.args.store.now.table c.args.store.now.old_form c.args.number c.unwrap-name.result =
    of_some (IsLiveFileName c.args.store.now.table c.args.store.now.old_form c.args.number) c.file.result c.unwrap-name.result
    c.unwrap-name.ensures c.file.ensures.found in
    let queue_is : c.unwrap-job.result.queue ≡ file.job.queue =
    (and_some (λ (job : JobName). (job.queue ≡ file.job.queue) × (job.number ≡ c.args.number) × (job.minute ≡ file.job.minute)
    × (job.new_form ≡ is_new_form c.args.store.now.old_form c.args.number)) c.read.result c.unwrap-job.result c.unwrap-job.ensures
    (c.read.ensures.found file.job.queue c.args.number file.job.minute (is_new_form c.args.store.now.old_form c.args.number)
    (named c.args.store.now.table c.args.store.now.old_form c.args.number c.unwrap-name.result c.as_bytes.result.now
    c.as_bytes.ensures.bytes file))).0 in
    λ directory table current.
    script_is c.args.store.now directory table c.args.number c.unwrap-name.result c.unwrap-job.result.queue c.nice_of.result file queue_is
    c.nice_of.ensures current
    (of_some (HoldsScript table directory c.args.number) c.file.result c.unwrap-name.result c.unwrap-name.ensures
    (c.file.ensures.holds directory table current))
