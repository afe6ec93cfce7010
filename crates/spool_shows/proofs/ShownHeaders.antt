-- The scripts of shown jobs begin with headers, and without a sequence file no entry is shown.
use Rattle.std.proofs.Common.{◌≡◌, ℕ, Bool, true, false, List, Option, Some, None, subst, refl, inl, inr, arith}
use Rattle.std.specs.Prelude.{IsSome, Result, Ok, Err}
use Rattle.host_calls.specs.declared.damage.Damage.{Damage}
use Rattle.job_script.specs.HeaderIn.{header_in}
use Rattle.sequence_file.specs.Sequence.{GivesNumber}
use Rattle.spool_model.specs.JobTable.{IsDrawn, JobEntry, JobTable, entry_at}
use Rattle.spool_shows.specs.ByName.{ShowsByName, ShowsEntry}
use Rattle.spool_shows.specs.Laws.{DirectoriesWithoutSequenceShowNoEntry, HasItsHeader, ShownJobsHaveHeaders, ShowsNoEntry}
use Rattle.spool_shows.specs.Shown.{shown_by, user_of}
use Rattle.spool_shows.proofs.ByNameLemmas.{directories_are_shown_by_name}
use Rattle.spool_shows.proofs.ShownStates.{IsLiveBy, live_known}
use Rattle.spool_shows.proofs.SoundTables.{shown_tables_are_sound}

-- a header that exists has a user, and a flag of mail
its_header : (bytes : List ℕ) → IsSome (header_in bytes) → (mail : Bool) × (header_in bytes ≡ Some (user_of (header_in bytes), mail))
its_header bytes some = by_header (header_in bytes) some where
  by_header : (found : Option (List ℕ × Bool)) → IsSome found → (mail : Bool) × (found ≡ Some (user_of found, mail))
  by_header None none = let impossible : false ≡ true = none in cc
  by_header (Some header) there = (header.1, refl)

pub shown_jobs_have_headers : ShownJobsHaveHeaders
shown_jobs_have_headers files table number job state shows lives =
    let is : ShowsByName files table = (directories_are_shown_by_name files table).by_name shows in
    let live : IsLiveBy is.read.marks files number job state =
    live_known is.read.marks files number job state (subst (ShowsEntry is.read.marks files number) lives (is.entries number)) in
    subst HasItsHeader live.job_is (its_header live.file.bytes (is.sound.each live.file live.is).header)

-- where none was drawn, no number has an entry
no_entry : (table : JobTable) → table.last ≡ 0 → ((number : ℕ) → IsSome (entry_at table number) → IsDrawn table number) → (number : ℕ)
    → entry_at table number ≡ None
no_entry table none drawn number = by_entry (entry_at table number) (drawn number) where
  by_entry : (found : Option JobEntry) → (IsSome found → IsDrawn table number) → found ≡ None
  by_entry None is = refl
  by_entry (Some entry) is = let at : IsDrawn table number = is refl in absurd (omega (arith, at.some, at.drawn, none))

pub directories_without_sequence_show_no_entry : DirectoriesWithoutSequenceShowNoEntry
directories_without_sequence_show_no_entry files absent = by_shown (shown_by files) refl where
  by_shown : (shown : Result JobTable Damage) → shown_by files ≡ shown → ShowsNoEntry files
  by_shown (Err damage) is = inl (damage, is)
  by_shown (Ok table) is =
      let shows : ShowsByName files table = (directories_are_shown_by_name files table).by_name is in
      let none : table.last ≡ 0 = subst (λ content. GivesNumber content table.last) absent shows.last in
      inr (table, is, no_entry table none (shown_tables_are_sound files table is).each)
