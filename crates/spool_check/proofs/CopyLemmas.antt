-- Files of jobs that are copied, one after another.
use Rattle.std.proofs.Common.{◌≡◌, ◌⊎◌, ℕ, ◌+◌, ◌<◌, ◌≤◌, Bool, true, false, List, [], ◌∷◌, ◌++◌, length, get_or, take, sym, ap, subst, ◌∙◌, refl, inl, inr}
use Rattle.std.specs.Prelude.{◌||◌, Option, Some, None, IsSome, if◌then◌else◌}
use Rattle.std.specs.FinMap as map
use Rattle.std.specs.List.{list_any}
use Rattle.std.specs.Str.{bytes_eq}
use Rattle.std.proofs.lemmas.Bool.{false_from_ne_true}
use Rattle.std.proofs.lemmas.List.{take_all, take_more}
use Rattle.std.proofs.lemmas.List.Elements.{All-get_or}
use Rattle.std.proofs.lemmas.List.Folds.{list_any-append}
use Rattle.std.proofs.lemmas.Slice.Eq.{bytes_eq-Decides}
use Rattle.host_calls.specs.Directory.{Files, Directory, IsImage}
use Rattle.host_calls.specs.World.{World}
use Rattle.job_name.specs.JobName.{NamedJob, job_named}
use Rattle.spool_check.specs.inside.CopiedFiles.{AreJobNames, EachHasFile, EachHasCopies, IsCopied, IsCopyName, copied}
use Rattle.spool_shows.proofs.NameLemmas.{job_name_differs, temporary_no_job}
use Rattle.whole_file.specs.Others.{ChangesFiles, IsEither, LeavesOthers}
use Rattle.whole_file.specs.Temporary.{temporary_file}
use Rattle.whole_file.proofs.ChangesJoined.{changes_end, changes_on, changes_weaker, left_alone}
use Rattle.whole_file.proofs.OthersLemmas.{neither, one_or_other}

-- Files that are left alone.

-- the images of a call's end leave the other files alone
pub alone_end : (may_change : List ℕ → Type 0) (old new : World) → ChangesFiles (LeavesOthers may_change old.now.directory) old new
    → (image : Files) → IsImage new.now.directory image → LeavesOthers may_change old.now.directory image
alone_end may_change old new changes =
    changes_end (LeavesOthers may_change old.now.directory) old new changes (λ image is. left_alone may_change old.now.directory image is)

-- what a later call leaves alone of what an earlier one left
pub alone_on : (first second : List ℕ → Type 0) (start middle : Directory) (image : Files) → ((name : List ℕ) → second name → first name)
    → ((image : Files) → IsImage middle image → LeavesOthers first start image) → LeavesOthers second middle image
    → LeavesOthers first start image
alone_on first second start middle image narrower before left =
    let earlier : LeavesOthers first start left.from = before left.from left.was in
    record {
      from = earlier.from;
      was = earlier.was;
      others = λ name other. left.others name (λ is. other (narrower name is)) ∙ earlier.others name other;
    }

-- a name that is left alone has in each image what it had in each
pub kept_each : (may_change : List ℕ → Type 0) (old new : World) (name : List ℕ) (held : Option (List ℕ)) → ¬ (may_change name)
    → ChangesFiles (LeavesOthers may_change old.now.directory) old new → EachHasFile name held old.now.directory
    → EachHasFile name held new.now.directory
kept_each may_change old new name held other changes each = λ image is.
    let left : LeavesOthers may_change old.now.directory image = alone_end may_change old new changes image is in
    left.others name other ∙ each left.from left.was

-- One copy.

one_copied : (name other : List ℕ) → IsCopied name other → IsCopyName other
one_copied name other copied = elim copied.1 [
  | inl is ↦ inl is
  | inr is ↦ inr (subst (λ (n : List ℕ). IsSome (job_named n)) (sym is) copied.0)
]

pub copying_one : (start middle new : World) (name : List ℕ) → ChangesFiles (LeavesOthers IsCopyName start.now.directory) start middle
    → ChangesFiles (LeavesOthers (IsCopied name) middle.now.directory) middle new
    → ChangesFiles (LeavesOthers IsCopyName start.now.directory) start new
copying_one start middle new name before after =
    changes_on (LeavesOthers IsCopyName start.now.directory) (LeavesOthers (IsCopied name) middle.now.directory)
    (LeavesOthers IsCopyName start.now.directory) start middle new
    (λ image is. is)
    (λ image is. alone_on IsCopyName (IsCopied name) start.now.directory middle.now.directory image (one_copied name)
    (alone_end IsCopyName start middle before) is)
    before after

-- a job's file that is copied
pub copied_one : (old new : World) (name : List ℕ) → IsSome (job_named name)
    → ChangesFiles (LeavesOthers (IsEither temporary_file name) old.now.directory) old new
    → ChangesFiles (LeavesOthers (IsCopied name) old.now.directory) old new
copied_one old new name job changes = changes_weaker _ _ old new (λ image left. record {
  from = left.from;
  was = left.was;
  others = λ other not. left.others other (λ either. not (job, either));
}) changes

-- whether a name is among names with one more
any_more : (name one : List ℕ) (names : List (List ℕ)) → list_any (λ other. bytes_eq other name) (names ++ one ∷ [])
    ≡ (list_any (λ other. bytes_eq other name) names || (bytes_eq one name || false))
any_more name one names = list_any-append (λ other. bytes_eq other name) names (one ∷ [])

or_true : (a b : Bool) → b ≡ true → (a || (b || false)) ≡ true
or_true true b is = refl
or_true false b is = ap (λ c. c || false) is

or_false : (a b : Bool) → b ≡ false → (a || (b || false)) ≡ a
or_false true b is = refl
or_false false b is = ap (λ c. c || false) is

pub copied_same : (name : List ℕ) (names : List (List ℕ)) (files : Files) → copied (names ++ name ∷ []) files name ≡ map.get files name
copied_same name names files =
    ap (λ b. if b then map.get files name else None) (any_more name name names
    ∙ or_true (list_any (λ other. bytes_eq other name) names) (bytes_eq name name) ((bytes_eq-Decides name name).1 refl))

pub copied_other : (name one : List ℕ) (names : List (List ℕ)) (files : Files) → ¬ (one ≡ name)
    → copied (names ++ one ∷ []) files name ≡ copied names files name
copied_other name one names files differ =
    ap (λ b. if b then map.get files name else None) (any_more name one names ∙ or_false (list_any (λ other. bytes_eq other name) names)
    (bytes_eq one name) (false_from_ne_true _ (λ same. differ ((bytes_eq-Decides one name).0 same))))

-- one copy more
pub one_copy : (files : Files) (names : List (List ℕ)) (name : List ℕ) (old new : World) → EachHasCopies files names old.now.directory
    → ChangesFiles (LeavesOthers (IsCopied name) old.now.directory) old new → EachHasFile name (map.get files name) new.now.directory
    → EachHasCopies files (names ++ name ∷ []) new.now.directory
one_copy files names name old new before changes holds =
    λ image is other job named. by_name image is other job named (one_or_other other name)
  where
    by_name : (image : Files) → IsImage new.now.directory image → (other : List ℕ) (job : NamedJob) → job_named other ≡ Some job
        → (other ≡ name) ⊎ (¬ (other ≡ name)) → map.get image other ≡ copied (names ++ name ∷ []) files other
    by_name image is other job named (inl same) =
        subst (λ (n : List ℕ). map.get image n ≡ copied (names ++ name ∷ []) files n) (sym same) (holds image is
        ∙ sym (copied_same name names files))
    by_name image is other job named (inr differ) =
        let left : LeavesOthers (IsCopied name) old.now.directory image = alone_end (IsCopied name) old new changes image is in
        left.others other
        (λ copied. neither temporary_file name other (job_name_differs other temporary_file job named temporary_no_job) differ copied.1)
        ∙ before left.from left.was other job named
        ∙ sym (copied_other other name names files (λ same. differ (sym same)))

-- The copies so far.

pub more_copies : (files : Files) (names : List (List ℕ)) (place : ℕ) (name : List ℕ) (directory : Directory)
    → place < length names → name ≡ get_or names place name → EachHasCopies files (take place names ++ name ∷ []) directory
    → EachHasCopies files (take (place + 1) names) directory
more_copies files names place name directory inside at has =
    subst (λ (list : List (List ℕ)). EachHasCopies files list directory) (ap (λ (n : List ℕ). take place names ++ n ∷ []) at
    ∙ sym (take_more names place name inside)) has

pub all_copies : (files : Files) (names : List (List ℕ)) (place : ℕ) (directory : Directory) → length names ≤ place
    → EachHasCopies files (take place names) directory → EachHasCopies files names directory
all_copies files names place directory past has =
    subst (λ (list : List (List ℕ)). EachHasCopies files list directory) (take_all place names past) has

-- the name at a place is that of a job
pub named_at : (names : List (List ℕ)) (place : ℕ) (name : List ℕ) → place < length names → name ≡ get_or names place name
    → AreJobNames names → IsSome (job_named name)
named_at names place name inside at are =
    subst (λ (n : List ℕ). IsSome (job_named n)) (sym at) (All-get_or (λ (n : List ℕ). IsSome (job_named n)) names place name inside are)

-- the copy of the file of that name
pub copied_at : (files here : Files) (names : List (List ℕ)) (place : ℕ) (name : List ℕ) (old new : World) → here ≡ files
    → place < length names → name ≡ get_or names place name → EachHasCopies files (take place names) old.now.directory
    → ChangesFiles (LeavesOthers (IsCopied name) old.now.directory) old new → EachHasFile name (map.get here name) new.now.directory
    → EachHasCopies files (take (place + 1) names) new.now.directory
copied_at files here names place name old new same inside at before changes holds =
    more_copies files names place name new.now.directory inside at
    (one_copy files (take place names) name old new before changes
    (subst (λ (fs : Files). EachHasFile name (map.get fs name) new.now.directory) same holds))
