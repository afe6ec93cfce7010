use Rattle.unix_host.proofs.PathLemmas.{is_text}
use Rattle.unix_host.proofs.paths.put_within.Goals as goal

pub from_utf8_unchecked-text-requires : goal.from_utf8_unchecked-text-requires
from_utf8_unchecked-text-requires c = is_text c.as_bytes.result.now c.as_bytes.ensures.name.each
