use Rattle.std.proofs.Common.{◌≡◌, ℕ, ◌<◌, true}
use Rattle.std.specs.Prelude.{slice_index}
use Rattle.sequence_file.specs.Places.{fits_at}
use Rattle.sequence_file.proofs.text.fitting.Given as goal

abbrev pub invariant-loop-place : goal.invariant-loop-place
invariant-loop-place l = (place : ℕ) → place < l.place → fits_at l.new_form place (slice_index l.bytes place) ≡ true
