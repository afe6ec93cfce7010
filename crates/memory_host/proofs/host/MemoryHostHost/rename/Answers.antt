use Rattle.std.proofs.Common.{◌≡◌, Some, refl, rules}
use Rattle.memory_host.specs.declared.failing_list.Part.TheVariants.{Nothing}
use Rattle.memory_host.proofs.HostLemmas.{change_done}
use Rattle.memory_host.proofs.host.MemoryHostHost.rename.Goals as goal

pub returns : goal.returns
returns c =
    let works : ¬ (c.next_part-part.result ≡ Some Nothing) = search rules in
    change_done _ _ _ c.args.self.now c.finish.new.self _ c.next_part-part.result c.finish.result c.in_ok-rename.ensures
    c.finish.ensures.world refl
    refl
    refl
    c.finish.ensures.inside
    c.finish.ensures.counted
    c.finish.ensures.answer
    c.next_part-part.ensures
    works
