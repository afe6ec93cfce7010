use Rattle.job_script.proofs.HeaderInLemmas.{header_in-none, header_in-some, header_in-take, header_place-fault, header_place-take}
use Rattle.job_script.proofs.laws.headers_are_read_exactly.Goals as goal

pub returns : goal.returns
returns c = record {
  header = header_in-some c.args.bytes.now;
  none = header_in-none c.args.bytes.now;
  place = header_place-fault c.args.bytes.now;
  header_in_prefix = header_in-take c.args.bytes.now;
  place_in_prefix = header_place-take c.args.bytes.now;
}
