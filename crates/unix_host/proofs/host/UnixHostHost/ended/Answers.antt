use Rattle.std.proofs.Common.{◌∙◌, ◌<◌, ◌≡◌, Some, ap, arith, length, sym, vec_len}
use Rattle.std.specs.Prelude.{option_and_then, option_map}
use Rattle.std.specs.Process.{child_status}
use Rattle.unix_host.specs.Endings.{ending_for}
use Rattle.unix_host.proofs.ChildLemmas.{below_count, slice_get-set}
use Rattle.unix_host.proofs.host.UnixHostHost.ended.Goals as goal

pub index_mut-kid-requires : goal.index_mut-kid-requires
index_mut-kid-requires g c = below_count (vec_len c.args.self.now.kids) c.args.child.now c.requires.started

pub returns-in-Ok-Some-clause-known : goal.returns-in-Ok-Some-clause-known
returns-in-Ok-Some-clause-known g c = λ _.
    let kids = c.args.self.now.kids in
    let id = c.args.child.now.id in
    let below : id < vec_len kids = below_count (vec_len kids) c.args.child.now c.requires.started in
    let within : id < length kids.items = omega (arith, kids.ok.0) in
    let kept : child_status c.try_wait.new.self ≡ Some c.in-Ok-Some.status = c.in-Ok-Some.ensures.kept ∙ c.in-Ok-Some.field-0-is in
    ap Some c.ending_of.ensures
    ∙ sym
    (ap (option_map ending_for) (ap (option_and_then (λ kid. child_status kid.process)) (slice_get-set kids.items id _ within) ∙ kept))
