use Rattle.std.proofs.Common.{◌≡◌, length}
use Rattle.unix_host.proofs.file_syncs.sync_each_file.Given as goal

-- they stay those that were listed, of the same directory
abbrev pub invariant-loop-name : goal.invariant-loop-name
invariant-loop-name g l = record {
  paths : l.files.paths.now ≡ l.paths;
  listed : l.files.listed.now ≡ l.names;
}

-- the files that are still to be synced
abbrev pub decreases-loop-name : goal.decreases-loop-name
decreases-loop-name g l = length l.files.left.now
