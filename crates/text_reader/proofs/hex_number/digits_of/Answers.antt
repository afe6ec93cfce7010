use Rattle.text_reader.proofs.EightDigits.{spelled_eight}
use Rattle.text_reader.proofs.hex_number.digits_of.Goals as goal

pub returns : goal.returns
returns c = (spelled_eight c.write_hex.new.out c.args.number c.write_hex.auto.out c.write_hex.ensures).1
