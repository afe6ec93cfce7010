-- How far the marks of a number have come (own).
use Rattle.std.specs.Prelude.{[], ◌∷◌, Bool, true, false, List, IsTrue}
use Rattle.start_journal.specs.declared.mark.Mark.{Mark}
use Rattle.start_journal.specs.declared.mark.Mark.TheVariants.{Removed, Started, Ended, Interrupted, Forgotten, Batch}
use Rattle.start_journal.specs.declared.stage.Stage.{Stage}
use Rattle.start_journal.specs.declared.stage.Stage.TheVariants.{Fresh, Open, Closed, Gone}

-- at this stage of its number the mark may come: removed or started, then ended or given up, then forgotten
abbrev pub allows : Stage → Mark → Bool
allows Fresh (Removed number) = true
allows Fresh (Started number queue second) = true
allows Open (Ended number ending) = true
allows Open (Interrupted number) = true
allows Closed (Forgotten number) = true
allows _ (Batch second) = true
allows _ _ = false

-- the stage to which the mark brings its number
abbrev pub stage_after : Stage → Mark → Stage
stage_after stage (Removed number) = Closed
stage_after stage (Started number queue second) = Open
stage_after stage (Ended number ending) = Closed
stage_after stage (Interrupted number) = Closed
stage_after stage (Forgotten number) = Gone
stage_after stage (Batch second) = stage

-- the marks go through the stages of one number, from this one on
abbrev pub AreAllowedFrom : Stage → List Mark → Type 0
AreAllowedFrom stage [] = Unit {0}
AreAllowedFrom stage (mark ∷ later) = IsTrue (allows stage mark) × AreAllowedFrom (stage_after stage mark) later

-- the stage of a number that is forgotten, finished or started, or none of these
abbrev pub stage_by : Bool → Bool → Bool → Stage
stage_by true decided started = Gone
stage_by false true started = Closed
stage_by false false true = Open
stage_by false false false = Fresh
