use Rattle.std.proofs.Common.{rules}
use Rattle.witnessed_host.proofs.NothingLemmas.{holds_nothing}
use Rattle.witnessed_host.proofs.no_files.NoFilesWitness.started.Goals as goal

pub returns : goal.returns
returns c = search (rules, holds_nothing c.args._name.now, c.requires.held)
