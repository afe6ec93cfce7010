-- What a crash leaves of a directory while it is filled.
use Rattle.std.proofs.Common.{◌≡◌, ◌⊎◌, ℕ, true, false, List, [], sym, ap, subst, ◌∙◌, refl, inl, inr}
use Rattle.std.specs.Prelude.{Some, None, Result, Ok, Err, OnOk, is_some}
use Rattle.std.specs.FinMap as map
use Rattle.host_calls.specs.Directory.{Files, Directory, IsImage, reading_of}
use Rattle.host_calls.specs.World.{World, reading}
use Rattle.host_calls.proofs.DirectoryLemmas.{reading_is_image}
use Rattle.job_name.specs.JobName.{job_named}
use Rattle.sequence_file.specs.Sequence.{sequence_file}
use Rattle.spool_faults.specs.Listed.{LeavesDirectory}
use Rattle.spool_faults.specs.Plan.{IsPlanOf}
use Rattle.spool_faults.specs.Salvaged.{salvaged}
use Rattle.spool_check.specs.inside.CopiedFiles.{EachHasFile, EachHasCopies, IsBare, HasOneImage, IsCopyName}
use Rattle.spool_check.specs.SalvageOutcome.{EachShowsSalvaged, HasSalvage, IsSalvaging, IsUnfinished, is_of_spool, is_spool}
use Rattle.spool_check.specs.declared.fault.SalvageFault.{SalvageFault}
use Rattle.spool_shows.specs.Shown.{Shows}
use Rattle.spool_shows.proofs.NameLemmas.{job_name_apart, journal_apart, journal_no_job, sequence_apart, sequence_no_job, temporary_no_job, differ_by}
use Rattle.spool_shows.proofs.ShownHeaders.{directories_without_sequence_show_no_entry}
use Rattle.start_journal.specs.Journals.{journal_file}
use Rattle.whole_file.specs.Others.{ChangesFiles, IsEither, LeavesOthers}
use Rattle.whole_file.specs.Placement.{IsPlaced, IsPlacing}
use Rattle.whole_file.specs.Temporary.{temporary_file}
use Rattle.whole_file.proofs.ChangesJoined.{changes_end, changes_on, changes_weaker, left_alone}
use Rattle.whole_file.proofs.OthersLemmas.{changes_none}
use Rattle.spool_check.proofs.BareDirectories.{bare_each, copy_of_spool, either_of_spool, job_of_spool, journal_of_spool, sequence_of_spool, temp_of_spool}
use Rattle.spool_check.proofs.CopyLemmas.{alone_end, alone_on, kept_each}
use Rattle.spool_check.proofs.PlanLemmas.{is_salvage, salvages_show}

-- The table, or no sequence file and no entry.
abbrev ShowsPart : Files → Files → Type 0
ShowsPart files image = IsUnfinished image ⊎ Shows image (salvaged files)

-- Whole calls.

-- a call that places a file leaves the others alone
pub placing_alone : (temp target bytes : List ℕ) (old new : World) → ChangesFiles (IsPlacing temp target bytes old.now.directory) old new
    → ChangesFiles (LeavesOthers (IsEither temp target) old.now.directory) old new
placing_alone temp target bytes old new changes = changes_weaker _ _ old new (λ image placing. placing.alone) changes

start_salvaging : (files : Files) (start : Directory) (image : Files) → IsImage start image → IsSalvaging files start image
start_salvaging files start image is = record { alone = left_alone (λ name. is_of_spool name ≡ true) start image is; shows = inl is }

-- a call after others, which leaves what shows no entry, or the table
pub salvaging_then : (files : Files) (may_change : List ℕ → Type 0) (Q : Files → Type 0) (start middle new : World) → ((name : List ℕ)
    → may_change name → is_of_spool name ≡ true) → ((image : Files) → Q image → LeavesOthers may_change middle.now.directory image)
    → ((image : Files) → Q image → ShowsPart files image) → ChangesFiles (IsSalvaging files start.now.directory) start middle
    → ChangesFiles Q middle new → ChangesFiles (IsSalvaging files start.now.directory) start new
salvaging_then files may_change Q start middle new of alone shows before after =
    let spool : List ℕ → Type 0 = λ name. is_of_spool name ≡ true in
    changes_on (IsSalvaging files start.now.directory) Q (IsSalvaging files start.now.directory) start middle new
    (λ image is. is)
    (λ image is. record {
      alone = alone_on spool may_change start.now.directory middle.now.directory image of
          (λ other was. (changes_end (IsSalvaging files start.now.directory) start middle before
          (start_salvaging files start.now.directory) other was).alone)
          (alone image is);
      shows = inr (shows image is);
    })
    before after

-- a directory without a sequence file shows no entry, whatever else it has
unfinished : (image : Files) → map.get image sequence_file ≡ None → IsUnfinished image
unfinished image none = record { no_sequence = none; shows = directories_without_sequence_show_no_entry image none }

-- what is left alone and had no sequence file has none, and shows no entry
no_entry_left : (may_change : List ℕ → Type 0) (directory : Directory) (image : Files) → ¬ (may_change sequence_file)
    → EachHasFile sequence_file None directory → LeavesOthers may_change directory image → IsUnfinished image
no_entry_left may_change directory image other none left =
    unfinished image (left.others sequence_file other ∙ none left.from left.was)

no_copy : (name : List ℕ) → ¬ (name ≡ temporary_file) → job_named name ≡ None → ¬ (IsCopyName name)
no_copy name not_temp none copy = elim copy [
  | inl is ↦ not_temp is
  | inr job ↦ let impossible : false ≡ true = sym (ap is_some none) ∙ job in cc
]

sequence_no_copy : ¬ (IsCopyName sequence_file)
sequence_no_copy = no_copy sequence_file (differ_by sequence_file temporary_file refl) sequence_no_job

journal_no_copy : ¬ (IsCopyName journal_file)
journal_no_copy = no_copy journal_file (differ_by journal_file temporary_file refl) journal_no_job

-- The journal is placed.

-- the name was given these bytes
pub record HasPut (name bytes : List ℕ) (old new : World) : Type 0 where
  pub changes : ChangesFiles (IsPlacing temporary_file name bytes old.now.directory) old new
  pub placed : IsPlaced temporary_file name bytes old.now.directory new.now.directory

pub has_put : (target name bytes : List ℕ) (old new : World) → target ≡ name
    → ChangesFiles (IsPlacing temporary_file target bytes old.now.directory) old new
    → IsPlaced temporary_file target bytes old.now.directory new.now.directory → HasPut name bytes old new
has_put target name bytes old new is changes placed = record {
  changes = subst (λ (n : List ℕ). ChangesFiles (IsPlacing temporary_file n bytes old.now.directory) old new) is changes;
  placed = subst (λ (n : List ℕ). IsPlaced temporary_file n bytes old.now.directory new.now.directory) is placed;
}

pub journal_leaves : (files : Files) (target bytes : List ℕ) (start new : World) → target ≡ journal_file
    → IsBare start.now.directory → ChangesFiles (IsPlacing temporary_file target bytes start.now.directory) start new
    → ChangesFiles (IsSalvaging files start.now.directory) start new
journal_leaves files target bytes start new is bare changes =
    salvaging_then files (IsEither temporary_file journal_file)
    (LeavesOthers (IsEither temporary_file journal_file) start.now.directory) start start new
    (λ name either. either_of_spool temporary_file journal_file name temp_of_spool journal_of_spool either)
    (λ image left. left)
    (λ image left. inl (no_entry_left (IsEither temporary_file journal_file) start.now.directory image sequence_apart
    (bare_each start.now.directory bare sequence_file sequence_of_spool) left))
    (changes_none (IsSalvaging files start.now.directory) start)
    (placing_alone temporary_file journal_file bytes start new
    (subst (λ (n : List ℕ). ChangesFiles (IsPlacing temporary_file n bytes start.now.directory) start new) is changes))

pub record HasJournal (bytes : List ℕ) (directory : Directory) : Type 0 where
  pub no_sequence : EachHasFile sequence_file None directory
  pub journal : EachHasFile journal_file (Some bytes) directory

journal_holds : (bytes : List ℕ) (start new : World) → IsBare start.now.directory → HasPut journal_file bytes start new
    → HasJournal bytes new.now.directory
journal_holds bytes start new bare put = record {
  no_sequence = kept_each (IsEither temporary_file journal_file) start new sequence_file None sequence_apart (placing_alone temporary_file
      journal_file bytes start new put.changes) (bare_each start.now.directory bare sequence_file sequence_of_spool);
  journal = put.placed.placed;
}

no_copies : (files : Files) (bytes : List ℕ) (start new : World) → IsBare start.now.directory → HasPut journal_file bytes start new
    → EachHasCopies files [] new.now.directory
no_copies files bytes start new bare put = λ image is name job named.
    kept_each (IsEither temporary_file journal_file) start new name None
    (job_name_apart temporary_file journal_file name job temporary_no_job journal_no_job named)
    (placing_alone temporary_file journal_file bytes start new put.changes)
    (bare_each start.now.directory bare name (job_of_spool name (ap is_some named))) image is

-- The files of jobs are copied.

copies_leave : (files : Files) (bytes : List ℕ) (start middle new : World) → HasJournal bytes middle.now.directory
    → ChangesFiles (IsSalvaging files start.now.directory) start middle → ChangesFiles (LeavesOthers IsCopyName middle.now.directory) middle
    new → ChangesFiles (IsSalvaging files start.now.directory) start new
copies_leave files bytes start middle new has before changes =
    salvaging_then files IsCopyName (LeavesOthers IsCopyName middle.now.directory) start middle new
    copy_of_spool
    (λ image is. is)
    (λ image is. inl (no_entry_left IsCopyName middle.now.directory image sequence_no_copy has.no_sequence is))
    before changes

pub copying_leaves : (files : Files) (bytes : List ℕ) (start middle new : World) → IsBare start.now.directory
    → HasPut journal_file bytes start middle → ChangesFiles (LeavesOthers IsCopyName middle.now.directory) middle new
    → ChangesFiles (IsSalvaging files start.now.directory) start new
copying_leaves files bytes start middle new bare put changes =
    copies_leave files bytes start middle new (journal_holds bytes start middle bare put)
    (journal_leaves files journal_file bytes start middle refl bare put.changes) changes

-- a directory that has the journal and the copies of these names
pub record IsFilled (files : Files) (names : List (List ℕ)) (bytes : List ℕ) (start now : World) : Type 0 where
  pub has : HasJournal bytes now.now.directory
  pub copies : EachHasCopies files names now.now.directory
  pub before : ChangesFiles (IsSalvaging files start.now.directory) start now

pub is_filled : (files : Files) (names : List (List ℕ)) (bytes : List ℕ) (start middle new : World) → IsBare start.now.directory
    → HasPut journal_file bytes start middle → ChangesFiles (LeavesOthers IsCopyName middle.now.directory) middle new
    → (EachHasCopies files [] middle.now.directory → EachHasCopies files names new.now.directory) → IsFilled files names bytes start new
is_filled files names bytes start middle new bare put changes copies =
    let has : HasJournal bytes middle.now.directory = journal_holds bytes start middle bare put in
    record {
      has = record {
        no_sequence = kept_each IsCopyName middle new sequence_file None sequence_no_copy changes has.no_sequence;
        journal = kept_each IsCopyName middle new journal_file (Some bytes) journal_no_copy changes has.journal;
      };
      copies = copies (no_copies files bytes start middle bare put);
      before = copying_leaves files bytes start middle new bare put changes;
    }

-- The sequence file is placed.

-- an image with the sequence file, else like one of a directory that was filled, shows the table
filled_shows : (files : Files) (names : List (List ℕ)) (journal sequence : List ℕ) (directory : Directory) (image : Files)
    → IsPlanOf files names journal sequence → HasJournal journal directory → EachHasCopies files names directory → LeavesOthers
    (IsEither temporary_file sequence_file) directory image → map.get image sequence_file ≡ Some sequence → Shows image (salvaged files)
filled_shows files names journal sequence directory image plan has copies left placed =
    salvages_show files image (is_salvage files names journal sequence image plan placed
    (left.others journal_file journal_apart ∙ has.journal left.from left.was)
    (λ name job named. left.others name (job_name_apart temporary_file sequence_file name job temporary_no_job sequence_no_job named)
    ∙ copies left.from left.was name job named))

sequence_shows : (files : Files) (names : List (List ℕ)) (journal sequence : List ℕ) (directory : Directory) (image : Files)
    → IsPlanOf files names journal sequence → HasJournal journal directory → EachHasCopies files names directory
    → IsPlacing temporary_file sequence_file sequence directory image → ShowsPart files image
sequence_shows files names journal sequence directory image plan has copies placing = elim placing.placed [
  | inl same ↦ inl (unfinished image (same ∙ has.no_sequence placing.alone.from placing.alone.was))
  | inr new ↦ inr (filled_shows files names journal sequence directory image plan has copies placing.alone new)
]

pub sequence_leaves : (files : Files) (names : List (List ℕ)) (journal sequence target : List ℕ) (start middle new : World)
    → target ≡ sequence_file → IsPlanOf files names journal sequence → IsFilled files names journal start middle
    → ChangesFiles (IsPlacing temporary_file target sequence middle.now.directory) middle new
    → ChangesFiles (IsSalvaging files start.now.directory) start new
sequence_leaves files names journal sequence target start middle new is plan filled changes =
    salvaging_then files (IsEither temporary_file sequence_file)
    (IsPlacing temporary_file sequence_file sequence middle.now.directory) start middle new
    (λ name either. either_of_spool temporary_file sequence_file name temp_of_spool sequence_of_spool either)
    (λ image placing. placing.alone)
    (λ image placing. sequence_shows files names journal sequence middle.now.directory image plan filled.has filled.copies placing)
    filled.before
    (subst (λ (n : List ℕ). ChangesFiles (IsPlacing temporary_file n sequence middle.now.directory) middle new) is changes)

-- files that are not the spool's read as they did in a directory that was settled
others_read : (files : Files) (start new : World) → IsBare start.now.directory
    → ChangesFiles (IsSalvaging files start.now.directory) start new → (name : List ℕ) → is_of_spool name ≡ false
    → map.get (reading_of new.now.directory) name ≡ map.get (reading_of start.now.directory) name
others_read files start new bare changes name other =
    let is : IsSalvaging files start.now.directory (reading_of new.now.directory) = changes_end (IsSalvaging files start.now.directory)
    start new changes (start_salvaging files start.now.directory) (reading_of new.now.directory) (reading_is_image new.now.directory) in
    is.alone.others name (λ of. let impossible : false ≡ true = sym other ∙ of in cc)
    ∙ ap (λ image. map.get image name) (bare.durable is.alone.from is.alone.was)

all_show : (files : Files) (names : List (List ℕ)) (journal sequence : List ℕ) (start middle new : World)
    → IsPlanOf files names journal sequence → IsFilled files names journal start middle → HasPut sequence_file sequence middle new
    → EachShowsSalvaged files new.now.directory
all_show files names journal sequence start middle new plan filled put = λ image is.
    filled_shows files names journal sequence middle.now.directory image plan filled.has filled.copies
    (alone_end (IsEither temporary_file sequence_file) middle new
    (placing_alone temporary_file sequence_file sequence middle new put.changes) image is) (put.placed.placed image is)

pub sequence_holds : {T : Type 0} (files : Files) (names : List (List ℕ)) (journal sequence target : List ℕ) (start middle new : World)
    (result : Result T SalvageFault) → target ≡ sequence_file → IsBare start.now.directory → IsPlanOf files names journal sequence
    → IsFilled files names journal start middle → ChangesFiles (IsPlacing temporary_file target sequence middle.now.directory) middle new
    → OnOk result (IsPlaced temporary_file target sequence middle.now.directory new.now.directory)
    → OnOk result (HasSalvage files start.now.directory new.now.directory)
sequence_holds files names journal sequence target start middle new (Ok value) is bare plan filled changes placed = record {
  shows = all_show files names journal sequence start middle new plan filled
      (has_put target sequence_file sequence middle new is changes placed);
  no_temp = placed.no_temp;
  others = others_read files start new bare (sequence_leaves files names journal sequence target start middle new is plan filled changes);
}
sequence_holds files names journal sequence target start middle new (Err fault) is bare plan filled changes placed = tt

-- The directory is settled first.

pub opened_leaves : (files : Files) (old new : World) → LeavesDirectory old new → ChangesFiles (IsSalvaging files old.now.directory) old new
opened_leaves files old new leaves = changes_weaker _ _ old new (start_salvaging files old.now.directory) leaves.files

pub opened_then : (files : Files) (old middle new : World) → LeavesDirectory old middle
    → ChangesFiles (IsSalvaging files middle.now.directory) middle new → ChangesFiles (IsSalvaging files old.now.directory) old new
opened_then files old middle new leaves after =
    let spool : List ℕ → Type 0 = λ name. is_of_spool name ≡ true in
    let was : (image : Files) → IsImage middle.now.directory image
    → IsImage old.now.directory image = changes_end (IsImage old.now.directory) old middle leaves.files (λ image is. is) in
    changes_on (IsImage old.now.directory) (IsSalvaging files middle.now.directory) (IsSalvaging files old.now.directory) old middle new
    (start_salvaging files old.now.directory)
    (λ image is. record {
      alone = alone_on spool spool old.now.directory middle.now.directory image (λ name of. of)
          (λ other at. left_alone spool old.now.directory other (was other at)) is.alone;
      shows = elim is.shows [
        | inl at ↦ inl (was image at)
        | inr shows ↦ inr shows
      ];
    })
    leaves.files after

-- what was filled, since the directory was settled
pub salvaged_since : {T : Type 0} (result : Result T SalvageFault) (files : Files) (old middle new : World)
    → LeavesDirectory old middle → OnOk result (HasSalvage files middle.now.directory new.now.directory)
    → OnOk result (HasSalvage files old.now.directory new.now.directory)
salvaged_since (Ok value) files old middle new leaves has = record {
  shows = has.shows;
  no_temp = has.no_temp;
  others = λ name other. has.others name other ∙ ap (λ image. map.get image name) leaves.same;
}
salvaged_since (Err fault) files old middle new leaves has = tt

-- a directory that is settled and has no file of a spool
pub bare_by : {T : Type 0} (result : Result T SalvageFault) (settled new : World) → new ≡ settled → HasOneImage settled.now.directory
    → OnOk result (is_spool (reading settled) ≡ false) → OnOk result (IsBare new.now.directory)
bare_by (Ok value) settled new same durable empty =
    subst (λ (world : World). IsBare world.now.directory) (sym same) (record { durable = durable; bare = empty })
bare_by (Err fault) settled new same durable empty = tt
