-- Files of mail that are left over.
use Rattle.std.proofs.Common.{◌≡◌, ◌≢◌, ◌∙◌, ℕ, true, false, List, Option, Some, None, refl, sym, ap, inl, inr}
use Rattle.std.specs.Prelude.{Contains, IsSome, nat_eq, not}
use Rattle.std.specs.Cmp.Lexicographic.{bytes_decides, pointwise}
use Rattle.std.specs.FinMap as finite
use Rattle.std.proofs.lemmas.Bool.{or_cases}
use Rattle.host_calls.specs.Directory.{Files}
use Rattle.spool_shows.proofs.PickedNames.{picked_among, picked_are_files, picked_there}
use Rattle.whole_file.specs.Removal.{AreFiles}
use Rattle.daemon_turn.specs.declared.kid.Kid.{Kid}
use Rattle.daemon_turn.specs.Decisions.{has_kid}
use Rattle.mail_notes.specs.Lines.{Fits}
use Rattle.mail_notes.specs.Names.{IsMailName, mail_file, mail_temp, notice_file, notice_number}
use Rattle.mail_notes.proofs.NameLemmas.{notice_numbers_are_read}
use Rattle.mail_session.specs.Laws.{StaleFilesAreOfMail}
use Rattle.mail_session.specs.Stale.{is_stale, is_notice_without_kid, stale_names}

-- the notes are not left over
pub notes_stay : (kids : List Kid) → is_stale kids mail_file ≡ false
notes_stay kids = refl

-- a file that is being made is
pub temp_is_stale : (kids : List Kid) → is_stale kids mail_temp ≡ true
temp_is_stale kids = refl

-- and so is a notice that belongs to no child
pub notice_is_stale : (kids : List Kid) (number : ℕ) → Fits number → is_stale kids (notice_file number) ≡ not (has_kid kids number)
notice_is_stale kids number fits = ap (is_notice_without_kid kids) ((notice_numbers_are_read (notice_file number) number).1 (fits, refl))

of_number : (kids : List Kid) (name : List ℕ) (read : Option ℕ) → notice_number name ≡ read → is_notice_without_kid kids read ≡ true →
    (number : ℕ) × (name ≡ notice_file number)
of_number kids name None is bad = absurd (let impossible : false ≡ true = bad in cc)
of_number kids name (Some number) is without = (number, ((notice_numbers_are_read name number).0 is).1)

-- what is left over is of the mail
pub stale_is_mail : (kids : List Kid) (name : List ℕ) → is_stale kids name ≡ true → IsMailName name
stale_is_mail kids name is = elim (or_cases (pointwise nat_eq name mail_temp) (is_notice_without_kid kids (notice_number name)) is) [
  | inl same ↦ inr (inl ((bytes_decides name mail_temp).0 same))
  | inr without ↦ inr (inr (of_number kids name (notice_number name) refl without))
]

-- The files that are left over.
module _ (kids : List Kid) (files : Files) where
  -- each is a file, and left over
  pub stale_there : (name : List ℕ) → Contains (stale_names kids files) name → IsSome (finite.get files name) × (is_stale kids name ≡ true)
  stale_there name among = picked_there (is_stale kids) files name among

  -- and each file that is left over is among them
  pub stale_among : (name : List ℕ) → IsSome (finite.get files name) → is_stale kids name ≡ true → Contains (stale_names kids files) name
  stale_among name some stale = picked_among (is_stale kids) files name some stale

  pub stale_are_files : AreFiles (stale_names kids files) files
  stale_are_files = picked_are_files (is_stale kids) files

  not_notes : (name : List ℕ) → is_stale kids name ≡ true → name ≡ mail_file → ⊥
  not_notes name stale same = let impossible : true ≡ false = sym stale ∙ ap (is_stale kids) same ∙ notes_stay kids in cc

  -- each is of the mail, and none is the file of notes
  pub stale_of_mail : (name : List ℕ) → Contains (stale_names kids files) name → IsMailName name × (name ≢ mail_file)
  stale_of_mail name among =
      let stale = (stale_there name among).1 in
      (stale_is_mail kids name stale, not_notes name stale)

  -- one that is being made is among them
  pub temp_among : IsSome (finite.get files mail_temp) → Contains (stale_names kids files) mail_temp
  temp_among some = stale_among mail_temp some (temp_is_stale kids)

pub stale_files_are_of_mail : StaleFilesAreOfMail
stale_files_are_of_mail kids files =
    record { are_files = stale_are_files kids files; of_mail = stale_of_mail kids files; temp = temp_among kids files }
