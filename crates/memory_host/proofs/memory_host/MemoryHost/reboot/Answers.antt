use Rattle.std.proofs.Common.{refl, sym, ap, subst, ◌∙◌, ◌++◌}
use Rattle.std.specs.Prelude.{option_to_list}
use Rattle.host_calls.specs.Directory.{IsImage, reading_of}
use Rattle.memory_host.specs.Host.{world_of}
use Rattle.memory_host.specs.Spelling.{spelled}
use Rattle.memory_host.specs.inside.Story.{state_of}
use Rattle.memory_host.proofs.CrashLemmas.{crash_is_image, crash_settles}
use Rattle.memory_host.proofs.HostLemmas.{reboot_world}
use Rattle.memory_host.proofs.memory_host.MemoryHost.reboot.Goals as goal

pub returns-clause-rebooted : goal.returns-clause-rebooted
returns-clause-rebooted c =
    let directory = (state_of c.args.self.now.past).directory in
    let world = ap (λ story. world_of story c.args.self.now.asked.items) c.in_ok-reboot.ensures
    ∙ reboot_world c.args.pick c.args.self.now.past c.args.self.now.asked.items in
    record {
      world = world;
      image = subst (λ w. IsImage directory (reading_of w.now.directory)) (sym world) (crash_is_image c.args.pick directory);
      only = λ image is. crash_settles c.args.pick directory image (subst (λ w. IsImage w.now.directory image) world is)
          ∙ ap (λ w. reading_of w.now.directory) (sym world);
      outside = refl;
      children = c.clear.ensures.items;
      made_as = ap (spelled c.args.self.now.plan) (c.add_fuse.ensures ∙ ap (λ l. l ++ option_to_list c.args.fuse) c.reserve.ensures.items);
      file_faults = refl;
      start_faults = refl;
      taken = refl;
      progress = refl;
    }
