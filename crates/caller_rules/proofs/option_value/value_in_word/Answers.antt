use Rattle.std.proofs.Common.{map, string_bytes}
use Rattle.caller_rules.proofs.OptionLemmas.{value_of}
use Rattle.caller_rules.proofs.option_value.value_in_word.Goals as goal

pub returns : goal.returns
returns c =
    value_of c.args.name.now c.args.joined.now c.args.word.now (map string_bytes c.args.later.now) c.strip_prefix.result
    c.if-eq.ensures c.strip_prefix.ensures.cases
