-- The step that gives a live job its fate (own), and the mark of it.
use Rattle.std.specs.Prelude.{ℕ}
use Rattle.spool_model.specs.declared.fate.Fate.{Fate}
use Rattle.spool_model.specs.declared.fate.Fate.TheVariants.{Removed, Finished, Interrupted}
use Rattle.spool_model.specs.declared.step.Step.{Step}
use Rattle.spool_model.specs.declared.step.Step.TheVariants.{Remove, End, Interrupt}
use Rattle.start_journal.specs.declared.mark.Mark.{Mark}
use Rattle.start_journal.specs.declared.mark.Mark.TheVariants as mark

-- the step by which the job of the number comes to the fate
abbrev pub decision : ℕ → Fate → Step
decision number Removed = Remove number
decision number (Finished ending) = End number ending
decision number Interrupted = Interrupt number

-- the mark of that step
abbrev pub decision_mark : ℕ → Fate → Mark
decision_mark number Removed = mark.Removed number
decision_mark number (Finished ending) = mark.Ended number ending
decision_mark number Interrupted = mark.Interrupted number
