use Rattle.std.proofs.Common.{take, subst, sym, ap, ◌∙◌, ◌≡◌, Some, option_map}
use Rattle.std.specs.FinMap as map
use Rattle.host_calls.specs.World.{reading}
use Rattle.sequence_file.specs.Faults.{IsSequenceDamage}
use Rattle.sequence_file.specs.Sequence.{sequence_file}
use Rattle.sequence_file.proofs.FirstBytes.{damage_of_start}
use Rattle.sequence_file.proofs.last_number.last.Goals as goal

pub returns-clause-damaged : goal.returns-clause-damaged
returns-clause-damaged g c = λ tells damage is.
    let files = reading (g.H.Host.world c.args.host.now) in
    let start : Some c.as_slice.result.now ≡ option_map (take 10) (map.get files c.sequence_name.result) = ap Some c.as_slice.ensures
    ∙ sym c.in-Some.is ∙ c.in_ok-first.ensures.first tells in
    let named : Some c.as_slice.result.now ≡ option_map (take 10) (map.get files sequence_file) =
    subst (λ name. Some c.as_slice.result.now ≡ option_map (take 10) (map.get files name)) c.sequence_name.ensures start in
    let same : c.in-Err.damage ≡ damage = cc in
    subst (IsSequenceDamage (map.get files sequence_file)) same (damage_of_start (map.get files sequence_file) c.as_slice.result.now
    c.in-Err.damage named c.in-Err.ensures.name c.in-Err.ensures.damaged)
