-- The lines in which a simulated run tells what it came to (own).
use Rattle.std.specs.Prelude.{◌++◌, [], ◌∷◌, ℕ, List, codes}
use Rattle.std.specs.Fmt.{decimal}
use Rattle.at_day.specs.declared.counts.Counts.{Counts}

-- a line: what is counted, a space, and how many there are
unfoldable pub count_line : List ℕ → ℕ → List ℕ
count_line what count = what ++ codes " " ++ decimal count ++ codes "\n"

-- the lines of a day of so many events, by what its directory counts
unfoldable pub day_lines : ℕ → Counts → List (List ℕ)
day_lines events counts =
    count_line (codes "events") events
    ∷ count_line (codes "last") counts.last
    ∷ count_line (codes "pending") counts.pending
    ∷ count_line (codes "running") counts.running
    ∷ count_line (codes "removed") counts.removed
    ∷ count_line (codes "finished") counts.finished
    ∷ count_line (codes "not started") counts.not_started
    ∷ count_line (codes "interrupted") counts.interrupted
    ∷ []
