-- What marks say of an entry is known by what a compaction keeps of them, and by one more mark of another number.
use Rattle.std.proofs.Common.{◌≡◌, ℕ, Bool, false, not, List, [], ◌∷◌, ◌++◌, ap, ◌∙◌}
use Rattle.std.specs.Prelude.{◌&&◌, Option, Some, None}
use Rattle.std.specs.List.{list_any}
use Rattle.spool_model.specs.declared.entry.Entry.TheVariants.{Live, Done}
use Rattle.spool_model.specs.declared.state.State.TheVariants.{Pending, Running}
use Rattle.spool_model.specs.JobTable.{JobEntry}
use Rattle.start_journal.specs.declared.mark.Mark.{Mark}
use Rattle.start_journal.specs.Marks.{AreLegalMarks, decides, is_forgetting, is_decided, is_forgotten, has_mark_of, is_open, is_remembered, has_start_of, kept_marks, is_mark_of, is_start_of}
use Rattle.start_journal.proofs.LifeLemmas.{any_other}
use Rattle.start_journal.proofs.MarkLemmas.{decides_names, forgets_names, kept_marks_keep_what_counts, starts_names}
use Rattle.spool_store.specs.Stored.{IsEntryBy}
use Rattle.spool_store.proofs.KeptMarks.{IsNarrower, unnamed_kept}

-- the marks say of the number's entry alike
pub record TellAlike (number : ℕ) (one other : List Mark) : Type 0 where
  pub named : has_mark_of number one ≡ false → has_mark_of number other ≡ false
  pub opened : is_open number other ≡ is_open number one
  pub remembered : is_remembered number other ≡ is_remembered number one

-- then they have the entry alike
pub entry_alike : (one other : List Mark) (number : ℕ) (entry : Option JobEntry) → TellAlike number one other → IsEntryBy one number entry
    → IsEntryBy other number entry
entry_alike one other number None alike is = tt
entry_alike one other number (Some (Live job Pending)) alike is =
    record { named = is.named; since = is.since; state_by = alike.named is.state_by }
entry_alike one other number (Some (Live job (Running second))) alike is =
    record { named = is.named; since = is.since; state_by = alike.opened ∙ is.state_by }
entry_alike one other number (Some (Done of)) alike is = alike.remembered ∙ is

-- those that a compaction keeps
pub kept_alike : (marks : List Mark) (number : ℕ) → AreLegalMarks marks → TellAlike number marks (kept_marks marks)
kept_alike marks number legal = record {
  named = unnamed_kept marks number legal;
  opened = (kept_marks_keep_what_counts marks legal).open_numbers number;
  remembered = (kept_marks_keep_what_counts marks legal).remembered number;
}

-- those with one more of another number
pub other_alike : (marks : List Mark) (mark : Mark) (number : ℕ) → is_mark_of number mark ≡ false
    → TellAlike number marks (marks ++ mark ∷ [])
other_alike marks mark number other = record {
  named = λ unnamed. same (is_mark_of number) (λ one is. is) ∙ unnamed;
  opened = ap (λ b. b && not (is_decided number (marks ++ mark ∷ []))) (same (is_start_of number) (starts_names number))
      ∙ ap (λ b. has_start_of number marks && not b) (same (decides number) (decides_names number));
  remembered = ap (λ b. b && not (is_forgotten number (marks ++ mark ∷ []))) (same (decides number) (decides_names number))
      ∙ ap (λ b. is_decided number marks && not b) (same (is_forgetting number) (forgets_names number));
} where
  same : (test : Mark → Bool) → IsNarrower test (is_mark_of number) → list_any test (marks ++ mark ∷ []) ≡ list_any test marks
  same test narrower = any_other number test marks mark narrower other
