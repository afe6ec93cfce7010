use Rattle.std.proofs.Common.{◌≡◌, ◌∙◌, Option, None, Some, IfSome, List, ℕ, sym}
use Rattle.touch_time.specs.inside.Reader.{read_touch}
use Rattle.touch_time.specs.Touch.{SpellsTouch}
use Rattle.touch_time.specs.declared.touch.TouchTime.{TouchTime}
use Rattle.touch_time.proofs.TouchLemmas.{read_touch_complete, read_touch_sound}
use Rattle.touch_time.proofs.touch.read_touch.Goals as goal

spelled_by : (text : List ℕ) (read : Option TouchTime) → read ≡ read_touch text → IfSome read (SpellsTouch text)
spelled_by text None e = tt
spelled_by text (Some time) e = read_touch_sound text time (sym e)

pub returns-clause-spelled : goal.returns-clause-spelled
returns-clause-spelled c = spelled_by c.args.text.now c.read_touch.result c.read_touch.ensures

pub returns-clause-only : goal.returns-clause-only
returns-clause-only c = λ time spelled. c.read_touch.ensures ∙ read_touch_complete c.args.text.now time spelled
