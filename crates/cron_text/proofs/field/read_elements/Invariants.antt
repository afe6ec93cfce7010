use Rattle.std.proofs.Common.{◌≡◌, length, drop}
use Rattle.cron_text.specs.inside.Reader.{elements_in, elements_of}
use Rattle.cron_text.proofs.field.read_elements.Given as goal

abbrev pub invariant-loop-element : goal.invariant-loop-element
invariant-loop-element l =
    (goal.iterator-loop-element).can_next l.element-iterator
    × (elements_in l.low l.high l.bits (drop (length l.yielded) (elements_of l.text)) ≡ elements_in l.low l.high 0 (elements_of l.text))
