-- The turns of a daemon that serves, and what it does between them (own).
use Rattle.std.specs.Prelude.{◌-◌, ◌%◌, ◌&&◌, ◌||◌, [], ◌∷◌, ℕ, ℤ, Bool, true, false, List, Option, Some, None, unsigned_abs}
use Rattle.daemon_turn.specs.declared.kid.Kid.{Kid}
use Rattle.daemon_turn.specs.declared.mode.Mode.{Mode}
use Rattle.daemon_turn.specs.declared.mode.Mode.TheVariants.{Full, EndsOnly}
use Rattle.host_calls.specs.declared.rest.TheConstants.{LONGEST_REST, SHORT_REST}
use Rattle.host_calls.specs.declared.turn_end.TurnEnd.{TurnEnd}
use Rattle.host_calls.specs.declared.turn_end.TurnEnd.TheVariants.{Done, Busy, FileFault, Damaged, Memory}
use Rattle.spool_model.specs.declared.turn_step.TurnStep.{TurnStep}

-- A turn of serving: the clock's answer, the load, if one was read, and what the turn reported.
pub record TurnItem : Type 0 where
  pub now : ℤ
  pub load : Option ℕ
  pub end : TurnEnd
  pub steps : List TurnStep

-- the end of the first turn
abbrev pub first_end : List TurnItem → Option TurnEnd
first_end [] = None
first_end (item ∷ items) = Some item.end

-- the last turn
abbrev pub last_item : List TurnItem → Option TurnItem
last_item [] = None
last_item (item ∷ []) = Some item
last_item (item ∷ other ∷ items) = last_item (other ∷ items)

-- all turns but the last
abbrev pub but_last : List TurnItem → List TurnItem
but_last [] = []
but_last (item ∷ []) = []
but_last (item ∷ other ∷ items) = item ∷ but_last (other ∷ items)

-- The mode of the turn after these: where it is served only until no child is left, the first turn alone starts jobs.
abbrev pub mode_after : Bool → List TurnItem → Mode
mode_after false items = Full
mode_after true [] = Full
mode_after true (item ∷ items) = EndsOnly

-- the seconds of the rest after a turn: up to the next full minute where all was done, else a short one
abbrev pub rest_after_turn : TurnEnd → ℤ → ℕ
rest_after_turn Done now = LONGEST_REST - unsigned_abs now % LONGEST_REST
rest_after_turn Busy now = SHORT_REST
rest_after_turn FileFault now = SHORT_REST
rest_after_turn (Damaged damage) now = SHORT_REST
rest_after_turn Memory now = SHORT_REST

-- and a short one where it is served only until no child is left
abbrev pub next_rest : Bool → TurnEnd → ℤ → ℕ
next_rest true end now = SHORT_REST
next_rest false end now = rest_after_turn end now

-- the turn found a damage
abbrev pub is_damaged : TurnEnd → Bool
is_damaged (Damaged damage) = true
is_damaged Done = false
is_damaged Busy = false
is_damaged FileFault = false
is_damaged Memory = false

-- no child is left
abbrev pub is_alone : List Kid → Bool
is_alone [] = true
is_alone (kid ∷ kids) = false

-- No turn is made after one that found a damage, nor, where it is served only until no child is left, after one that
-- left none.
abbrev pub is_last_turn : Bool → TurnEnd → List Kid → Bool
is_last_turn once end kids = is_damaged end || (once && is_alone kids)

-- and so after these turns
abbrev pub ends_after : Bool → Option TurnItem → List Kid → Bool
ends_after once None kids = false
ends_after once (Some item) kids = is_last_turn once item.end kids
