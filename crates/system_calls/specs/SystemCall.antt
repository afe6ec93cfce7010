-- A call on the system (own).
use Rattle.std.specs.Prelude.{ℕ, List}
use Rattle.system_calls.specs.declared.call.Answered.{Answered}

-- A call with its answer: the path, or the name or number, that it is about; what was asked with which answer; and the
-- bytes of a file, a text or a line.
pub record SystemCall : Type 0 where
  pub path : List ℕ
  pub answered : Answered
  pub bytes : List ℕ
