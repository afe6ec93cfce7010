use Rattle.std.proofs.Common.{ap, ◌∙◌}
use Rattle.std.specs.FinMap as finite
use Rattle.memory_host.proofs.FilesLemmas.{files_put}
use Rattle.memory_host.proofs.files.Files.put.Goals as goal

pub returns : goal.returns
returns c =
    files_put c.self.inside.inner c.insert.new.self c.args.name c.in_ok-copy.copy c.in_ok-insert.ensures.updates.0
    ∙ ap (finite.insert _ c.args.name) c.in_ok-copy.ensures
    ∙ ap (λ files. finite.insert files c.args.name c.args.bytes.now) c.self.view_is
