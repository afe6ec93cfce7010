use Rattle.text_reader.proofs.EightDigits.{eight_spelled, spelled_eight}
use Rattle.text_reader.proofs.ValueLemmas.{number_given, number_spelled}
use Rattle.text_reader.proofs.hex_laws.numbers_are_spelled.Goals as goal

pub returns : goal.returns
returns c = record {
  numbers = λ bytes number. (number_spelled bytes number, number_given bytes number);
  eight = λ bytes number. (λ spelled. spelled_eight bytes number spelled.0 spelled.1, λ is. eight_spelled bytes number is.0 is.1);
}
