use Rattle.spool_faults.proofs.FoundFiles.{counted_none, counted_some}
use Rattle.spool_faults.proofs.find_files.undecided.Goals as goal

pub returns-then-contains : goal.returns-then-contains
returns-then-contains c = λ marks name tell named. counted_none marks c.args.decided.now name c.args.job tell named c.if-contains.ensures

pub returns-else-contains : goal.returns-else-contains
returns-else-contains c = λ marks name tell named. counted_some marks c.args.decided.now name c.args.job tell named c.if-contains.ensures
