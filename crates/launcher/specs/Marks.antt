-- A mark of a minute that has not come yet (own).
use Rattle.std.specs.Prelude.{◌-◌, ◌/◌, ℕ}

-- by how many minutes a mark is ahead of a second of the clock
abbrev pub minutes_ahead : ℕ → ℕ → ℕ
minutes_ahead mark second = mark - second / 60
