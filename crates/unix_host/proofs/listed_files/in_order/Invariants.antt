use Rattle.std.proofs.Common.{◌≡◌, map, take}
use Rattle.unix_host.proofs.listed_files.in_order.Given as goal

-- so many of the files are in it
abbrev pub invariant-loop-file : goal.invariant-loop-file
invariant-loop-file l = map (λ one. one.file.now) l.order.items ≡ take l.file-index l.files
