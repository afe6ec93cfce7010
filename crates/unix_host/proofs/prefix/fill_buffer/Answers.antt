use Rattle.std.proofs.Common.{rules}
use Rattle.unix_host.proofs.FillLemmas.{filled_more, filled_still}
use Rattle.unix_host.proofs.prefix.fill_buffer.Goals as goal
use Rattle.unix_host.proofs.prefix.fill_buffer.Goals.{in-Ok, in-Err}

pub loop-preserved : goal.loop-preserved
loop-preserved g c =
    let invariant = c.loop.invariant in
    elim c.match-read.branch [
      | in-Ok w ↦ record {
        few = search rules;
        bytes = filled_more _ _ _ c.loop.filled _ _ _ c.loop.buffer c.read.new.buf invariant.few w.in-Ok.ensures.bound.0
            w.filled-is invariant.bytes w.in-Ok.ensures.bytes.0;
      }
      | in-Err w ↦ record {
        few = search rules;
        bytes = filled_still _ _ _ c.loop.filled _ _ c.loop.buffer c.read.new.buf invariant.few w.filled-is invariant.bytes
            w.in-Err.ensures.bytes;
      }
    ]
