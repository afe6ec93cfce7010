-- Files next to the store's, of any names: what a change of them alone leaves.
use Rattle.std.proofs.Common.{◌≡◌, ℕ, true, false, List, Option, Some, None, [], sym, subst, ◌∙◌, refl, inl, inr}
use Rattle.std.specs.Prelude.{Contains, IsSome, is_some}
use Rattle.std.specs.Str.{bytes_eq}
use Rattle.std.specs.FinMap as finite
use Rattle.host_calls.specs.Directory.{Files, Directory, IsImage, reading_of}
use Rattle.job_name.specs.JobName.{NamedJob, job_named}
use Rattle.sequence_file.specs.Sequence.{sequence_file}
use Rattle.spool_model.specs.JobTable.{JobTable}
use Rattle.spool_shows.specs.JobFiles.{counts_as}
use Rattle.spool_shows.specs.Shown.{shown_by}
use Rattle.spool_shows.proofs.NameLemmas.{differ_by}
use Rattle.spool_shows.proofs.OtherLemmas.{other_files_count_for_nothing}
use Rattle.start_journal.specs.declared.mark.Mark.{Mark}
use Rattle.start_journal.specs.JournalChange.{GivesReadJournal}
use Rattle.start_journal.specs.Journals.{journal_file}
use Rattle.whole_file.specs.Others.{IsEither, LeavesOthers}
use Rattle.whole_file.specs.Temporary.{temporary_file}
use Rattle.whole_file.proofs.ChangesJoined.{changes_end, clears_alone, left_alone}
use Rattle.step_runs.specs.Current.{IsCurrent, IsSpoolName, Kept}
use Rattle.spool_store.specs.Beside.{ClearingsBesideShowTheSame, IsNoSpoolName, PlacingsBesideShowTheSame, StoresStayCurrentAfterClearings, StoresStayCurrentAfterPlacings}

-- none of the names that may change is one of the store's
abbrev pub AreBeside : (List ℕ → Type 0) → Type 0
AreBeside may_change = (name : List ℕ) → may_change name → IsNoSpoolName name

-- a name that tests distinguish from each of the store's
pub beside_by : (name : List ℕ) → bytes_eq name sequence_file ≡ false → bytes_eq name journal_file ≡ false
    → bytes_eq name temporary_file ≡ false
    → is_some (job_named name) ≡ false → IsNoSpoolName name
beside_by name sequence journal temporary none (inl is) = differ_by name sequence_file sequence is
beside_by name sequence journal temporary none (inr (inl is)) = differ_by name journal_file journal is
beside_by name sequence journal temporary none (inr (inr (inl is))) = differ_by name temporary_file temporary is
beside_by name sequence journal temporary none (inr (inr (inr named))) = let impossible : true ≡ false = sym named ∙ none in cc

-- the file of a name that counts is one of the store's
counted_is_spool : (marks : List Mark) (name : List ℕ) (named : Option NamedJob) → job_named name ≡ named
    → counts_as marks named ≡ true → IsSpoolName name
counted_is_spool marks name (Some job) is counted = inr (inr (inr (subst IsSome (sym is) refl)))
counted_is_spool marks name None is counted = let impossible : false ≡ true = counted in cc

module _ (may_change : List ℕ → Type 0) (beside : AreBeside may_change) where
  -- a name of the store's may not change
  kept_name : (name : List ℕ) → IsSpoolName name → ¬ (may_change name)
  kept_name name is may = beside name may is

  -- so an image shows what the one shows that it comes of
  pub shows_the_same : (start : Directory) (image : Files) (alone : LeavesOthers may_change start image)
      → shown_by image ≡ shown_by alone.from
  shows_the_same start image alone = other_files_count_for_nothing alone.from image (record {
    sequence = alone.others sequence_file (kept_name sequence_file (inl refl));
    journal = alone.others journal_file (kept_name journal_file (inr (inl refl)));
    jobs = λ marks has name counted. alone.others name (kept_name name (counted_is_spool marks name (job_named name) refl counted));
  })

  -- Files under these names alone have changed, and that is durable.
  pub record IsChangedAt (old new : Directory) : Type 0 where
    pub images : (image : Files) → IsImage new image → LeavesOthers may_change old image
    pub durable : new.pending ≡ []
    pub others : (name : List ℕ) → ¬ (may_change name) → finite.get (reading_of new) name ≡ finite.get (reading_of old) name

  module _ (kept : Kept) (table : JobTable) (old new : Directory) (current : IsCurrent kept old table) (changed : IsChangedAt old new) where
    -- what a name of the store's has in an image is what the one of the start has there
    from_start : (name : List ℕ) → IsSpoolName name → (image : Files) → (is : IsImage new image)
        → finite.get image name ≡ finite.get (changed.images image is).from name
    from_start name spool image is = (changed.images image is).others name (kept_name name spool)

    reads_on : (name : List ℕ) → IsSpoolName name → finite.get (reading_of new) name ≡ finite.get (reading_of old) name
    reads_on name spool = changed.others name (kept_name name spool)

    pub stays_current : IsCurrent kept new table
    stays_current = record {
      shows = λ image is. shows_the_same old image (changed.images image is)
          ∙ current.shows (changed.images image is).from (changed.images image is).was;
      without_scripts_is = current.without_scripts_is;
      journal = record {
        durable = changed.durable;
        same = λ image is. from_start journal_file (inr (inl refl)) image is
            ∙ current.journal.same (changed.images image is).from (changed.images image is).was
            ∙ sym (reads_on journal_file (inr (inl refl)));
        gives =
            subst (λ content. GivesReadJournal content kept.journal) (sym (reads_on journal_file (inr (inl refl)))) current.journal.gives;
        no_temp = λ image is. from_start temporary_file (inr (inr (inl refl))) image is
            ∙ current.journal.no_temp (changed.images image is).from (changed.images image is).was;
      };
      sequence = λ image is. from_start sequence_file (inl refl) image is
          ∙ current.sequence (changed.images image is).from (changed.images image is).was ∙ sym (reads_on sequence_file (inl refl));
      decided = λ name job named decided. reads_on name (named_spool name job named) ∙ current.decided name job named decided;
      forms = record {
        each = λ name job named some. current.forms.each name job named (subst IsSome (reads_on name (named_spool name job named)) some);
        drawn = current.forms.drawn;
      };
    } where
      named_spool : (name : List ℕ) (job : NamedJob) → job_named name ≡ Some job → IsSpoolName name
      named_spool name job named = inr (inr (inr (subst IsSome (sym named) refl)))

-- two names
pub two_beside : (temp target : List ℕ) → IsNoSpoolName temp → IsNoSpoolName target → AreBeside (IsEither temp target)
two_beside temp target of_temp of_target name (inl is) spool = of_temp (subst IsSpoolName is spool)
two_beside temp target of_temp of_target name (inr is) spool = of_target (subst IsSpoolName is spool)

pub placings_beside_show_the_same : PlacingsBesideShowTheSame
placings_beside_show_the_same temp target bytes start image of_temp of_target is =
    shows_the_same (IsEither temp target) (two_beside temp target of_temp of_target) start image is.alone

pub clearings_beside_show_the_same : ClearingsBesideShowTheSame
clearings_beside_show_the_same names start image beside is = shows_the_same (Contains names) beside start image is.alone

pub stores_stay_current_after_placings : StoresStayCurrentAfterPlacings
stores_stay_current_after_placings kept table temp target bytes old new of_temp of_target current changes placed =
    stays_current (IsEither temp target) (two_beside temp target of_temp of_target) kept table old.now.directory
    new.now.directory current (record {
      images = λ image is. (changes_end _ old new changes
          (λ one was. record { alone = left_alone (IsEither temp target) old.now.directory one was; placed = inl refl }) image is).alone;
      durable = placed.durable;
      others = placed.others;
    })

pub stores_stay_current_after_clearings : StoresStayCurrentAfterClearings
stores_stay_current_after_clearings kept table names old new beside current changes cleared =
    stays_current (Contains names) beside kept table old.now.directory new.now.directory current (record {
      images = changes_end (LeavesOthers (Contains names) old.now.directory) old new (clears_alone names old.now.directory old new changes)
          (left_alone (Contains names) old.now.directory);
      durable = cleared.durable;
      others = cleared.others;
    })
