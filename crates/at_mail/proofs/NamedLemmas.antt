-- A session notes nothing of a number that no note names and whose job is not live.
use Rattle.std.proofs.Common.{◌≡◌, ◌∙◌, ◌⊎◌, ℕ, Bool, true, false, List, map, refl, sym, ap, subst, inl, inr}
use Rattle.std.specs.Prelude.{◌&&◌, Option, Some, None}
use Rattle.std.specs.List.{filter_map}
use Rattle.std.proofs.lemmas.Bool.{and_parts}
use Rattle.host_calls.specs.Directory.{Files}
use Rattle.listing_text.specs.declared.turn_step.TurnStepText.TheVariants as step
use Rattle.spool_model.specs.declared.entry.Entry.TheVariants.{Done, Live}
use Rattle.spool_model.specs.declared.fate.Fate.TheVariants.{Finished, Interrupted, Removed}
use Rattle.spool_model.specs.declared.row.Row.{Row}
use Rattle.spool_model.specs.JobTable.{JobEntry, JobTable, entry_at}
use Rattle.spool_model.specs.Lists.{live_rows}
use Rattle.spool_shows.proofs.Membership.{Has, any_passes, contained, filtered_has, given_has, has_either, has_made, made_has, one_passes}
use Rattle.step_runs.proofs.RowLemmas.{row_held}
use Rattle.mail_notes.specs.declared.note.Note.{Note}
use Rattle.mail_notes.specs.declared.note.Note.TheVariants.{Noted}
use Rattle.mail_notes.specs.declared.note.NotedJob.{NotedJob}
use Rattle.mail_notes.specs.Notes.{has_note_of, is_noted, is_noting, is_note_of, number_of_note}
use Rattle.mail_session.specs.declared.due.NoticeDue.{NoticeDue}
use Rattle.mail_session.specs.declared.due.NoticeDue.TheVariants.{Drop, Send}
use Rattle.mail_session.specs.Dues.{note_of, notes_of}
use Rattle.mail_session.specs.SessionOutcome.{AreMailSteps}
use Rattle.mail_session.specs.News.{is_new, new_numbers, noting_of}
use Rattle.mail_session.specs.Steps.{due_of_entry}
use Rattle.at_mail.specs.TrimmedNotes.{is_live_in, is_of_live}
use Rattle.at_mail.proofs.StayingLemmas.{same_number}

-- what is due of a job is noted under its number
due_number : (job : NotedJob) (held : Option JobEntry) (due : NoticeDue) → due_of_entry job held ≡ Some due
    → number_of_note (note_of due) ≡ job.number
due_number job None due is = let same : Drop job.number ≡ due = cc in ap (λ (of : NoticeDue). number_of_note (note_of of)) (sym same)
due_number job (Some (Live live state)) due is = absurd (let impossible : None ≡ Some due = is in cc)
due_number job (Some (Done (Finished ending))) due is =
    let same : Send job (step.Ended job.number ending) ≡ due = cc in ap (λ (of : NoticeDue). number_of_note (note_of of)) (sym same)
due_number job (Some (Done Interrupted)) due is =
    let same : Send job (step.Interrupted job.number) ≡ due = cc in ap (λ (of : NoticeDue). number_of_note (note_of of)) (sym same)
due_number job (Some (Done Removed)) due is =
    let same : Drop job.number ≡ due = cc in
    ap (λ (of : NoticeDue). number_of_note (note_of of)) (sym same)

-- a row's number is that of a live job
row_lives : (table : JobTable) (number : ℕ) → Has (map (λ (row : Row). row.number) (live_rows table)) number
    → is_live_in table number ≡ true
row_lives table number has =
    let row = made_has (λ (row : Row). row.number) (live_rows table) number has in
    ap (is_live_in table) (sym row.2) ∙ ap is_of_live (row_held table row.0 row.1).1

named_if_noted : (number : ℕ) (notes : List Note) → is_noted number notes ≡ true → has_note_of number notes ≡ true
named_if_noted number notes is =
    let one = one_passes (λ note. is_note_of number note && is_noting note) notes is in
    any_passes (is_note_of number) notes one.0 one.1 (and_parts (is_note_of number one.0) (is_noting one.0) one.2).0

-- a note of a job that is new is of a live one
module _ (table : JobTable) (notes : List Note) (new_jobs : List NotedJob)
    (numbers : map (λ job. job.number) new_jobs ≡ new_numbers table notes) where
  of_news : (number : ℕ) (note : Note) → is_note_of number note ≡ true → Has (noting_of new_jobs) note → is_live_in table number ≡ true
  of_news number note named has =
      let job = made_has Noted new_jobs note has in
      let same : job.0.number ≡ number = ap number_of_note job.2 ∙ same_number (number_of_note note) number named in
      let numbered : Has (map (λ (one : NotedJob). one.number) new_jobs) number =
      subst (Has (map (λ (one : NotedJob). one.number) new_jobs)) same
      (has_made (λ (one : NotedJob). one.number) new_jobs job.0 job.1) in
      let new : Has (new_numbers table notes) number = subst (λ (list : List ℕ). Has list number) numbers numbered in
      row_lives table number (filtered_has (is_new notes) (map (λ (row : Row). row.number) (live_rows table)) number new).0

  pub news_name_none : (number : ℕ) → is_live_in table number ≡ false → has_note_of number (noting_of new_jobs) ≡ false
  news_name_none number dead = by_case (has_note_of number (noting_of new_jobs)) refl where
    by_case : (some : Bool) → has_note_of number (noting_of new_jobs) ≡ some → has_note_of number (noting_of new_jobs) ≡ false
    by_case true is =
        let one = one_passes (is_note_of number) (noting_of new_jobs) is in
        let impossible : true ≡ false = sym (of_news number one.0 one.2 one.1) ∙ dead in cc
    by_case false is = is

module _ (files : Files) (table : JobTable) (notes steps : List Note) (are : AreMailSteps files table notes steps) where
  -- and one of what is due is of a job that was noted
  of_dues : (number : ℕ) (note : Note) → is_note_of number note ≡ true → Has (notes_of are.due_notices) note
      → has_note_of number notes ≡ true
  of_dues number note named has =
      let due = made_has note_of are.due_notices note has in
      let in_dues : Has (filter_map (λ (job : NotedJob). due_of_entry job (entry_at table job.number)) are.due.jobs) due.0 =
      subst (λ (list : List NoticeDue). Has list due.0) are.due.dues_are due.1 in
      let job = given_has (λ (job : NotedJob). due_of_entry job (entry_at table job.number)) are.due.jobs due.0 in_dues in
      let same : job.0.number ≡ number =
      sym (due_number job.0 (entry_at table job.0.number) due.0 job.2) ∙ ap number_of_note due.2
      ∙ same_number (number_of_note note) number named in
      subst (λ (one : ℕ). has_note_of one notes ≡ true) same
      (named_if_noted job.0.number notes (are.due.waiting.each job.0 (contained are.due.jobs job.0 job.1)).is_noted)

  pub steps_name_none : (number : ℕ) → is_live_in table number ≡ false → has_note_of number notes ≡ false → has_note_of number steps ≡ false
  steps_name_none number dead unnamed = by_case (has_note_of number steps) refl where
    named : has_note_of number steps ≡ true → (is_live_in table number ≡ true) ⊎ (has_note_of number notes ≡ true)
    named is =
        let one = one_passes (is_note_of number) steps is in
        elim (has_either (noting_of are.new_jobs) (notes_of are.due_notices) one.0
        (subst (λ (list : List Note). Has list one.0) are.all one.1)) [
          | inl new ↦ inl (of_news table notes are.new_jobs are.numbers number one.0 one.2 new)
          | inr due ↦ inr (of_dues number one.0 one.2 due)
        ]

    by_case : (some : Bool) → has_note_of number steps ≡ some → has_note_of number steps ≡ false
    by_case true is = absurd (elim (named is) [
      | inl lives ↦ let impossible : true ≡ false = sym lives ∙ dead in cc
      | inr noted ↦ let impossible : true ≡ false = sym noted ∙ unnamed in cc
    ])
    by_case false is = is
