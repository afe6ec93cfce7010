-- The table that a directory shows is sound.
use Rattle.std.proofs.Common.{◌≡◌, ◌≤◌, ◌<◌, ◌^◌, ℕ, Bool, true, false, List, [], ◌∷◌, length, take, sym, ap, subst, ◌∙◌, inl, inr, arith}
use Rattle.std.specs.Prelude.{◌==◌, Option, Some, None, IsSome, MatchBool, nat_le}
use Rattle.std.specs.List.{list_all}
use Rattle.std.specs.FinMap as map
use Rattle.std.proofs.lemmas.Bool.{and_parts}
use Rattle.std.proofs.lemmas.List.{length-take-le}
use Rattle.std.proofs.lemmas.Bool.Decides.{nat_tests}
use Rattle.host_calls.specs.Directory.{Files}
use Rattle.job_name.proofs.NamedJobs.{name_spelled}
use Rattle.sequence_file.specs.Sequence.{GivesNumber, SpellsIn, sequence_file}
use Rattle.spool_model.specs.declared.number.TheConstants.{LAST_NUMBER}
use Rattle.spool_model.specs.Numbers.{number_digits}
use Rattle.spool_model.specs.JobTable.{JobEntry, JobTable, entry_at}
use Rattle.start_journal.specs.declared.mark.Mark.{Mark}
use Rattle.start_journal.specs.declared.mark.Mark.TheVariants.{Removed, Started, Ended, Interrupted, Forgotten, Batch}
use Rattle.start_journal.specs.Journals.{AreWritable, are_drawn, is_drawn, journal_file}
use Rattle.start_journal.specs.Marks.{is_decided, is_mark_of}
use Rattle.start_journal.specs.Slots.{IsWritable}
use Rattle.start_journal.proofs.JournalReads.{journal_drawn, journal_writable}
use Rattle.start_journal.proofs.MarkLemmas.{decides_names}
use Rattle.spool_shows.specs.ByName.{ShowsByName, ShowsDone, ShowsEntry, ShowsLive}
use Rattle.spool_shows.specs.Laws.{ShownTablesAreSound}
use Rattle.spool_shows.proofs.ByNameReads.{journal_read}
use Rattle.spool_shows.proofs.ByNameLemmas.{directories_are_shown_by_name}
use Rattle.spool_shows.proofs.EntryLemmas.{done_decides}
use Rattle.spool_shows.proofs.Membership.{Has, has_contained}

-- the digits of either form spell a number of a job
few_digits : (new_form : Bool) (number : ℕ) → number < 16 ^ number_digits new_form → number ≤ LAST_NUMBER
few_digits true number fits = omega arith
few_digits false number fits = omega arith

few_in : (new_form : Bool) (bytes : List ℕ) (number : ℕ) → SpellsIn new_form bytes number → number ≤ LAST_NUMBER
few_in new_form bytes number spelled =
    let counted : length (take (number_digits new_form) bytes) ≡ number_digits new_form =
    length-take-le (number_digits new_form) bytes (omega (arith, spelled.counted)) in
    few_digits new_form number (subst (λ count. number < 16 ^ count) counted spelled.digits.fits)

-- and so is the number that a content gives
pub few_of : (content : Option (List ℕ)) (number : ℕ) → GivesNumber content number → number ≤ LAST_NUMBER
few_of None number is = omega (arith, is)
few_of (Some bytes) number spelled = few_in spelled.0 bytes number spelled.1

-- a mark's number lies within those that were drawn
in_range : (last number other : ℕ) → 1 ≤ other → nat_le other last ≡ true → (other == number) ≡ true → (1 ≤ number) × (number ≤ last)
in_range last number other some drawn same = (grind (arith, nat_tests), grind (arith, nat_tests))

named_drawn : (last number : ℕ) (mark : Mark) → IsWritable mark → is_drawn last mark ≡ true → is_mark_of number mark ≡ true
    → (1 ≤ number) × (number ≤ last)
named_drawn last number (Removed other) writable drawn named = in_range last number other writable drawn named
named_drawn last number (Started other queue second) writable drawn named = in_range last number other writable.drawn drawn named
named_drawn last number (Ended other ending) writable drawn named = in_range last number other writable drawn named
named_drawn last number (Interrupted other) writable drawn named = in_range last number other writable drawn named
named_drawn last number (Forgotten other) writable drawn named = in_range last number other writable drawn named
named_drawn last number (Batch second) writable drawn named = let impossible : false ≡ true = named in cc

-- a test that all pass, one of them passes
one_of_all : (test : Mark → Bool) (marks : List Mark) (mark : Mark) → list_all test marks ≡ true → Has marks mark → test mark ≡ true
one_of_all test [] mark all has = absurd has
one_of_all test (first ∷ later) mark all (inl same) = ap test (sym same) ∙ (and_parts (test first) (list_all test later) all).0
one_of_all test (first ∷ later) mark all (inr has) = one_of_all test later mark (and_parts (test first) (list_all test later) all).1 has

-- a number that has an entry was drawn
entry_drawn : (files : Files) (table : JobTable) (is : ShowsByName files table) (number : ℕ) → IsSome (entry_at table number)
    → (1 ≤ number) × (number ≤ table.last)
entry_drawn files table is number some = by_entry (entry_at table number) some (is.entries number) where
  by_done : (entry : JobEntry) → ShowsDone is.read.marks number (Some entry) → (1 ≤ number) × (number ≤ table.last)
  by_done entry done =
      let writable : AreWritable is.read.marks =
      journal_writable table.last (map.get files journal_file) is.read (journal_read files table is) in
      let drawn : are_drawn table.last is.read.marks ≡ true =
      journal_drawn table.last (map.get files journal_file) is.read (journal_read files table is) in
      named_drawn table.last number done.0 (subst IsWritable done.1.2 (writable done.1.0 done.0 done.1.1))
      (one_of_all (is_drawn table.last) is.read.marks done.0 drawn (has_contained is.read.marks done.0 done.1))
      (decides_names number done.0 (done_decides is.read.marks done.0 number entry done.2).0)

  by_live : (entry : JobEntry) → ShowsLive is.read.marks files number (Some entry) → (1 ≤ number) × (number ≤ table.last)
  by_live entry live =
      let same : live.0.job.number ≡ number = ap (λ (pair : ℕ × JobEntry). pair.0) live.2 in
      subst (λ at. (1 ≤ at) × (at ≤ table.last)) same
      ((name_spelled live.0.name live.0.job live.1.named).in_range.drawn, (is.sound.each live.0 live.1).drawn)

  by_entry : (found : Option JobEntry) → IsSome found → ShowsEntry is.read.marks files number found → (1 ≤ number) × (number ≤ table.last)
  by_entry None none shows = let impossible : false ≡ true = none in cc
  by_entry (Some entry) there shows = by_test (is_decided number is.read.marks) shows where
    by_test : (decided : Bool) → MatchBool decided (ShowsDone is.read.marks number (Some entry))
        (ShowsLive is.read.marks files number (Some entry)) → (1 ≤ number) × (number ≤ table.last)
    by_test true done = by_done entry done
    by_test false live = by_live entry live

pub shown_tables_are_sound : ShownTablesAreSound
shown_tables_are_sound files table shows =
    let is : ShowsByName files table = (directories_are_shown_by_name files table).by_name shows in
    record {
      few = few_of (map.get files sequence_file) table.last is.last;
      each = λ number some. let drawn : (1 ≤ number) × (number ≤ table.last) = entry_drawn files table is number some in
          record { some = drawn.0; drawn = drawn.1 };
    }
