use Rattle.std.proofs.Common.{◌≡◌, Some, refl, rules}
use Rattle.memory_host.specs.inside.Story.{state_of}
use Rattle.memory_host.specs.declared.failing_list.Part.TheVariants.{Nothing}
use Rattle.memory_host.proofs.HostLemmas.{change_done, done_written, part_written}
use Rattle.memory_host.proofs.host.MemoryHostHost.write.Goals as goal

pub returns : goal.returns
returns c =
    let directory = (state_of c.args.self.now.past).directory in
    let works : ¬ (c.next_part-part.result ≡ Some Nothing) = search rules in
    change_done _ _ _ c.args.self.now c.finish.new.self _ c.next_part-part.result c.finish.result c.in_ok-write.ensures.2
    c.finish.ensures.world refl
    (done_written directory c.in_ok-write.ensures.0 c.args.offset c.args.name.now c.args.bytes.now c.in_ok-write.ensures.1)
    (part_written directory c.in_ok-write.ensures.0 c.args.offset c.args.name.now c.args.bytes.now c.in_ok-write.ensures.1)
    c.finish.ensures.inside
    c.finish.ensures.counted
    c.finish.ensures.answer
    c.next_part-part.ensures
    works
