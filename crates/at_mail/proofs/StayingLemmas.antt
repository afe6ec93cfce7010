-- What notes say of a job after a trim, and what a session does by them.
use Rattle.std.proofs.Common.{◌≡◌, ◌∙◌, ◌<◌, ℕ, Bool, true, false, not, ◌&&◌, ◌||◌, List, map, inl, inr, refl, sym, ap, arith}
use Rattle.std.specs.Prelude.{◌==◌, Option, Some, None, nat_le, option_map}
use Rattle.std.specs.List.{list_any}
use Rattle.std.proofs.lemmas.Bool.{and_parts}
use Rattle.std.proofs.lemmas.Bool.Decides.{eqb_tells, nat_tests}
use Rattle.host_calls.specs.Directory.{Files}
use Rattle.spool_model.specs.declared.entry.Entry.TheVariants.{Done, Live}
use Rattle.spool_model.specs.declared.row.Row.{Row}
use Rattle.spool_model.specs.JobTable.{JobEntry, JobTable, entry_at}
use Rattle.spool_model.specs.Lists.{live_rows}
use Rattle.spool_shows.proofs.Membership.{Has, contained, filtered_has, has_contained, has_filtered, made_has}
use Rattle.step_runs.specs.WithoutScripts.{entry_without_script, without_scripts}
use Rattle.step_runs.proofs.ApartLemmas.{filter_alike}
use Rattle.step_runs.proofs.RowLemmas.{row_held}
use Rattle.step_runs.proofs.WithoutScriptsLemmas.{entries_are_without_scripts}
use Rattle.mail_notes.specs.Book.{AreAwaitingNotice, IsWaiting}
use Rattle.mail_notes.specs.declared.note.Note.{Note}
use Rattle.mail_notes.specs.declared.note.Note.TheVariants.{Noted}
use Rattle.mail_notes.specs.declared.note.NotedJob.{NotedJob}
use Rattle.mail_notes.specs.Notes.{has_closing_note, is_closing_note, has_note_of, is_noted, is_noting, is_note_of, number_of_note, awaits_notice}
use Rattle.mail_session.specs.SessionOutcome.{AreMailSteps}
use Rattle.mail_session.specs.News.{is_new, new_numbers}
use Rattle.at_mail.specs.Laws.{NoJobLivesAgain, TrimsChangeNoSession}
use Rattle.at_mail.specs.TrimmedNotes.{is_live_in, is_of_live, is_over, stays, trimmed}
use Rattle.at_mail.proofs.KeepingLemmas.{any_kept, none_kept}

pub same_number : (one other : ℕ) → (one == other) ≡ true → one ≡ other
same_number one other is = elim (eqb_tells one other) [
  | inl same ↦ same.1
  | inr apart ↦ absurd (let impossible : true ≡ false = sym is ∙ apart.0 in cc)
]

-- of two tests
closed_by : (closed over : Bool) → (not closed || not over) ≡ false → closed ≡ true
closed_by true over is = refl
closed_by false over is = absurd (let impossible : true ≡ false = is in cc)

over_by : (closed over : Bool) → (not closed || not over) ≡ false → over ≡ true
over_by closed true is = refl
over_by true false is = absurd (let impossible : true ≡ false = is in cc)
over_by false false is = absurd (let impossible : true ≡ false = is in cc)

pub not_live : (live : Bool) → not live ≡ true → live ≡ true → ⊥
not_live true is lives = let impossible : false ≡ true = is in cc
not_live false is lives = let impossible : false ≡ true = lives in cc

pub drawn : (number last : ℕ) → nat_le number last ≡ true → last < number → ⊥
drawn number last is after = grind (arith, nat_tests)

not_both : (noted closed : Bool) → closed ≡ true → (noted && not closed) ≡ false
not_both true closed is = ap not is
not_both false closed is = refl

-- The notes of one number stay, or all of them go.
module _ (table : JobTable) (notes : List Note) where
  abbrev pub staying : ℕ → Bool
  staying number = not (has_closing_note number notes) || not (is_over table number)

  stays_by : (number : ℕ) (note : Note) → is_note_of number note ≡ true → stays table notes note ≡ staying number
  stays_by number note of = ap staying (same_number (number_of_note note) number of)

  -- a test on the notes of the number
  any_stays : (number : ℕ) (test : Note → Bool) → ((note : Note) → test note ≡ true → is_note_of number note ≡ true) → staying number ≡ true
      → list_any test (trimmed table notes) ≡ list_any test notes
  any_stays number test of is = any_kept test (stays table notes) notes (λ note passes. stays_by number note (of note passes) ∙ is)

  none_stays : (number : ℕ) (test : Note → Bool) → ((note : Note) → test note ≡ true → is_note_of number note ≡ true)
      → staying number ≡ false
      → list_any test (trimmed table notes) ≡ false
  none_stays number test of is = none_kept test (stays table notes) notes (λ note passes. stays_by number note (of note passes) ∙ is)

  of_both : (number : ℕ) (test : Note → Bool) (note : Note) → (is_note_of number note && test note) ≡ true → is_note_of number note ≡ true
  of_both number test note is = (and_parts (is_note_of number note) (test note) is).0

  pub named_stays : (number : ℕ) → staying number ≡ true → has_note_of number (trimmed table notes) ≡ has_note_of number notes
  named_stays number is = any_stays number (is_note_of number) (λ note of. of) is

  pub named_gone : (number : ℕ) → staying number ≡ false → has_note_of number (trimmed table notes) ≡ false
  named_gone number is = none_stays number (is_note_of number) (λ note of. of) is

  noted_stays : (number : ℕ) → staying number ≡ true → is_noted number (trimmed table notes) ≡ is_noted number notes
  noted_stays number is = any_stays number (λ note. is_note_of number note && is_noting note) (of_both number is_noting) is

  noted_gone : (number : ℕ) → staying number ≡ false → is_noted number (trimmed table notes) ≡ false
  noted_gone number is = none_stays number (λ note. is_note_of number note && is_noting note) (of_both number is_noting) is

  pub closed_stays : (number : ℕ) → staying number ≡ true → has_closing_note number (trimmed table notes) ≡ has_closing_note number notes
  closed_stays number is = any_stays number (λ note. is_note_of number note && is_closing_note note) (of_both number is_closing_note) is

  gone_closed : (number : ℕ) → staying number ≡ false → has_closing_note number notes ≡ true
  gone_closed number is = closed_by (has_closing_note number notes) (is_over table number) is

  pub gone_over : (number : ℕ) → staying number ≡ false → is_over table number ≡ true
  gone_over number is = over_by (has_closing_note number notes) (is_over table number) is

  -- Jobs that wait.
  waits_if : (number : ℕ) (stay : Bool) → staying number ≡ stay → awaits_notice number (trimmed table notes) ≡ awaits_notice number notes
  waits_if number true is =
      ap (λ noted. noted && not (has_closing_note number (trimmed table notes))) (noted_stays number is)
      ∙ ap (λ closed. is_noted number notes && not closed) (closed_stays number is)
  waits_if number false is =
      ap (λ noted. noted && not (has_closing_note number (trimmed table notes))) (noted_gone number is)
      ∙ sym (not_both (is_noted number notes) (has_closing_note number notes) (gone_closed number is))

  waits_alike : (number : ℕ) → awaits_notice number (trimmed table notes) ≡ awaits_notice number notes
  waits_alike number = waits_if number (staying number) refl

  waiting_if : (number : ℕ) (job : NotedJob) (stay : Bool) → staying number ≡ stay → IsWaiting (trimmed table notes) number job
      → IsWaiting notes number job
  waiting_if number job true stay is = record {
    number_is = is.number_is;
    noted = contained notes (Noted job)
        (filtered_has (stays table notes) notes (Noted job) (has_contained (trimmed table notes) (Noted job) is.noted)).0;
    is_noted = sym (noted_stays number stay) ∙ is.is_noted;
    open_yet = sym (closed_stays number stay) ∙ is.open_yet;
  }
  waiting_if number job false gone is = absurd (let impossible : true ≡ false = sym is.is_noted ∙ noted_gone number gone in cc)

  waiting_after : (number : ℕ) (job : NotedJob) → IsWaiting notes number job → IsWaiting (trimmed table notes) number job
  waiting_after number job is =
      let stay : staying number ≡ true = ap (λ closed. not closed || not (is_over table number)) is.open_yet in
      let kept : stays table notes (Noted job) ≡ true = ap staying is.number_is ∙ stay in
      record {
        number_is = is.number_is;
        noted = contained (trimmed table notes) (Noted job)
            (has_filtered (stays table notes) notes (Noted job) (has_contained notes (Noted job) is.noted) kept);
        is_noted = noted_stays number stay ∙ is.is_noted;
        open_yet = closed_stays number stay ∙ is.open_yet;
      }

  all_before : (jobs : List NotedJob) → AreAwaitingNotice (trimmed table notes) jobs → AreAwaitingNotice notes jobs
  all_before jobs are = record {
    each = λ job has. waiting_if job.number job (staying job.number) refl (are.each job has);
    all = λ number is. are.all number (waits_alike number ∙ is);
    rise = are.rise;
  }

  all_after : (jobs : List NotedJob) → AreAwaitingNotice notes jobs → AreAwaitingNotice (trimmed table notes) jobs
  all_after jobs are = record {
    each = λ job has. waiting_after job.number job (are.each job has);
    all = λ number is. are.all number (sym (waits_alike number) ∙ is);
    rise = are.rise;
  }

  -- Jobs that are new.
  module _ (later : JobTable) (again : NoJobLivesAgain table later) where
    named_if : (number : ℕ) → is_live_in later number ≡ true → (stay : Bool) → staying number ≡ stay
        → has_note_of number (trimmed table notes) ≡ has_note_of number notes
    named_if number lives true stay = named_stays number stay
    named_if number lives false gone =
        let over = and_parts (nat_le number table.last) (not (is_live_in table number)) (gone_over number gone) in
        elim (again number lives) [
          | inl lived ↦ absurd (not_live (is_live_in table number) over.1 lived)
          | inr new ↦ absurd (drawn number table.last over.0 new)
        ]

    live_number : (number : ℕ) → Has (map (λ (row : Row). row.number) (live_rows later)) number → is_live_in later number ≡ true
    live_number number has =
        let row = made_has (λ (row : Row). row.number) (live_rows later) number has in
        ap (is_live_in later) (sym row.2) ∙ ap is_of_live (row_held later row.0 row.1).1

    new_alike : new_numbers later (trimmed table notes) ≡ new_numbers later notes
    new_alike =
        filter_alike (is_new (trimmed table notes)) (is_new notes) (map (λ (row : Row). row.number) (live_rows later))
        (λ number has. ap not (named_if number (live_number number has) (staying number) refl))

    steps_before : (steps : List Note) (files : Files) → AreMailSteps files later (trimmed table notes) steps
        → AreMailSteps files later notes steps
    steps_before steps files are = record {
      new_jobs = are.new_jobs;
      due_notices = are.due_notices;
      numbers = are.numbers ∙ new_alike;
      each = are.each;
      due = record { jobs = are.due.jobs; waiting = all_before are.due.jobs are.due.waiting; dues_are = are.due.dues_are };
      all = are.all;
    }

    steps_after : (steps : List Note) (files : Files) → AreMailSteps files later notes steps
        → AreMailSteps files later (trimmed table notes) steps
    steps_after steps files are = record {
      new_jobs = are.new_jobs;
      due_notices = are.due_notices;
      numbers = are.numbers ∙ sym new_alike;
      each = are.each;
      due = record { jobs = are.due.jobs; waiting = all_after are.due.jobs are.due.waiting; dues_are = are.due.dues_are };
      all = are.all;
    }

pub trims_change_no_session : TrimsChangeNoSession
trims_change_no_session table later notes steps files again =
    (steps_before table notes later again steps files, steps_after table notes later again steps files)

-- What stays by what a store keeps stays by the table itself.

same_live : (entry : Option JobEntry) → is_of_live (option_map entry_without_script entry) ≡ is_of_live entry
same_live None = refl
same_live (Some (Live job state)) = refl
same_live (Some (Done fate)) = refl

live_alike : (kept table : JobTable) (number : ℕ) → kept ≡ without_scripts table → is_live_in kept number ≡ is_live_in table number
live_alike kept table number is =
    ap (λ (of : JobTable). is_live_in of number) is ∙ ap is_of_live (entries_are_without_scripts table number)
    ∙ same_live (entry_at table number)

last_alike : (table : JobTable) → (without_scripts table).last ≡ table.last
unfolding without_scripts
last_alike table = refl

over_alike : (kept table : JobTable) (number : ℕ) → kept ≡ without_scripts table → is_over kept number ≡ is_over table number
over_alike kept table number is =
    ap (λ last. nat_le number last && not (is_live_in kept number)) (ap (λ (of : JobTable). of.last) is ∙ last_alike table)
    ∙ ap (λ live. nat_le number table.last && not live) (live_alike kept table number is)

pub trimmed_alike : (kept table : JobTable) (notes : List Note) → kept ≡ without_scripts table → trimmed kept notes ≡ trimmed table notes
trimmed_alike kept table notes is =
    filter_alike (stays kept notes) (stays table notes) notes
    (λ note has.
    ap (λ over. not (has_closing_note (number_of_note note) notes) || not over) (over_alike kept table (number_of_note note) is))
