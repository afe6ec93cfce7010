-- The answers of readings, one after another (own).
use Rattle.std.specs.Prelude.{[], List}
use Rattle.std.specs.List.{fold}
use Rattle.host_calls.specs.Clock.{Answers, with_load, with_now, with_rest}
use Rattle.witnessed_host.specs.declared.reading.Reading.{Reading}
use Rattle.witnessed_host.specs.declared.reading.Reading.TheVariants.{Now, Load, Rest}

-- no answer
abbrev pub no_answers : Answers
no_answers = record { nows = []; loads = []; rested = 0 }

-- the answers with one more
abbrev pub with_reading : Answers → Reading → Answers
with_reading old (Now now) = with_now now old
with_reading old (Load load) = with_load load old
with_reading old (Rest seconds) = with_rest seconds old

-- all of them
abbrev pub answers_of : List Reading → Answers
answers_of readings = fold with_reading no_answers readings
