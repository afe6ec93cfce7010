use Rattle.std.proofs.Common.{◌≡◌, ◌-◌, ℕ, List, subst, arith}
use Rattle.std.specs.Prelude.{OnOk}
use Rattle.host_calls.specs.Directory.{Directory}
use Rattle.host_calls.specs.World.{World}
use Rattle.whole_file.specs.Others.{ChangesFiles}
use Rattle.whole_file.specs.Placement.{IsPlaced, IsPlacing}
use Rattle.sequence_file.specs.Draw.{EachGivesNumber}
use Rattle.job_name.specs.JobName.{SpellsJobName}
use Rattle.spool_store.proofs.DrawnDirectories.{each_gives}
use Rattle.spool_store.proofs.SubmitLemmas.{draw_failed, placed_new_form, placing_done}
use Rattle.spool_store.proofs.submit.file_job.Goals as goal

pub draw-requires-clause-last : goal.draw-requires-clause-last
draw-requires-clause-last g c = λ tells.
    let directory : Directory = (g.H.Host.world c.args.host.now).now.directory in
    let next = (c.requires.current tells).2 in
    let last = (c.requires.current tells).1.last in
    let same : last ≡ c.args.job.now.number - 1 = omega (arith, next.number_is) in
    subst (λ number. EachGivesNumber number directory) same (each_gives directory (c.requires.current tells).1 next.current.shows)

pub returns-in_err-draw-clause-files : goal.returns-in_err-draw-clause-files
returns-in_err-draw-clause-files g c = λ tells kept table next.
    draw_failed kept table c.args.job.now.queue c.args.job.now.number c.args.job.now.minute c.args.script.now
    (g.H.Host.world c.args.host.now) next
    (g.H.Host.world c.draw.new.host) c.from_residual.result c.from_residual.ensures.0 (c.in_err-draw.ensures.files tells)

pub returns-clause-files : goal.returns-clause-files
returns-clause-files g c = λ tells kept table next.
    let middle : World = g.H.Host.world c.draw.new.host in
    let new : World = g.H.Host.world c.place.new.host in
    let name : List ℕ = c.name-name.result in
    let script : List ℕ = c.args.script.now in
    placing_done kept table c.args.job.now.queue c.args.job.now.number c.args.job.now.minute script (g.H.Host.world c.args.host.now) next
    name middle new c.place.result
    (subst (λ new_form. SpellsJobName name c.args.job.now.queue c.args.job.now.number c.args.job.now.minute new_form) c.requires.new_form
    c.name-name.ensures) c.requires.header
    (c.in_ok-draw.ensures.files tells) (c.in_ok-draw.ensures.drawn tells)
    (subst (λ temp. ChangesFiles (IsPlacing temp name script middle.now.directory) middle new) c.temporary_name.ensures
    (c.place.ensures.files tells))
    (subst (λ temp. OnOk c.place.result (IsPlaced temp name script middle.now.directory new.now.directory)) c.temporary_name.ensures
    (c.place.ensures.placed tells))

pub returns-clause-named : goal.returns-clause-named
returns-clause-named g c = λ tells.
    placed_new_form c.name-name.result c.args.script.now c.args.job.now.queue c.args.job.now.minute
    c.args.job.now.number _ _ _ c.place.result
    (subst (λ new_form. SpellsJobName c.name-name.result c.args.job.now.queue c.args.job.now.number c.args.job.now.minute new_form)
    c.requires.new_form c.name-name.ensures)
    (c.place.ensures.placed tells)
