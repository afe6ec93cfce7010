-- The two forms in which a spool has job numbers (own).
use Rattle.std.specs.Prelude.{ℕ, Bool, if◌then◌else◌}

-- how many hexadecimal digits a number has: eight in the new form, and five in the old one
abbrev pub number_digits : Bool → ℕ
number_digits new_form = if new_form then 8 else 5
