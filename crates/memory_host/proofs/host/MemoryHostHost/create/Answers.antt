use Rattle.std.proofs.Common.{◌≡◌, Some, refl, rules}
use Rattle.memory_host.specs.inside.Story.{state_of}
use Rattle.memory_host.specs.declared.failing_list.Part.TheVariants.{Nothing}
use Rattle.memory_host.proofs.HostLemmas.{change_done, done_made, part_made}
use Rattle.memory_host.proofs.host.MemoryHostHost.create.Goals as goal

pub returns : goal.returns
returns c =
    let at = state_of c.args.self.now.past in
    let directory = at.directory in
    let works : ¬ (c.next_part-part.result ≡ Some Nothing) = search rules in
    change_done _ _ _ c.args.self.now c.finish.new.self _ c.next_part-part.result c.finish.result c.in_ok-create.ensures.made
    c.finish.ensures.world refl
    (done_made directory at.next c.args.name.now c.args.bytes.now c.in_ok-create.ensures.fresh)
    (part_made directory at.next c.args.name.now c.args.bytes.now c.in_ok-create.ensures.fresh)
    c.finish.ensures.inside
    c.finish.ensures.counted
    c.finish.ensures.answer
    c.next_part-part.ensures
    works
