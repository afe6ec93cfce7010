-- What a directory that was just settled has in its images.
use Rattle.std.proofs.Common.{◌≡◌, ℕ, List, sym, ap, subst, ◌∙◌}
use Rattle.std.specs.Prelude.{None, Result, Ok}
use Rattle.std.specs.FinMap as finite
use Rattle.host_calls.specs.declared.fault.HostFault.{HostFault}
use Rattle.host_calls.specs.Directory.{Files, Directory, IsImage, IsInNoImage, IsSettled, IsSyncedInPart, reading_of}
use Rattle.host_calls.specs.World.{FileCall, World, reading}
use Rattle.host_calls.proofs.DirectoryLemmas.{settled_image, reading_of-settled}
use Rattle.sequence_file.specs.Draw.{EachGivesNumber}
use Rattle.sequence_file.specs.Sequence.{GivesNumber, sequence_file}
use Rattle.start_journal.specs.JournalChange.{HoldsJournal}
use Rattle.start_journal.specs.Journals.{JournalRead, journal_file, journal_in}
use Rattle.whole_file.specs.Temporary.{temporary_file}
use Rattle.start_journal.proofs.GivesLemmas.{recalled_gives}

abbrev pub done_ok : Result Unit HostFault
done_ok = Ok tt

-- each image of a directory that was settled is its reading
only_reading : (old new : World) → FileCall IsSettled IsSyncedInPart old new done_ok → (image : Files)
    → IsImage new.now.directory image → image ≡ reading new
only_reading old new call image is =
    settled_image old.now.directory image (subst (λ directory. IsImage directory image) call.outcome is)
    ∙ sym (ap reading_of call.outcome ∙ reading_of-settled old.now.directory)

-- a name that does not read as a file is in no image
pub absent : (old settled_world new : World) (name : List ℕ) → FileCall IsSettled IsSyncedInPart old settled_world done_ok
    → new ≡ settled_world → None ≡ finite.get (reading settled_world) name → IsInNoImage new.now.directory name
absent old settled_world new name call same none = subst (λ world. IsInNoImage world.now.directory name) (sym same)
    (λ image is. ap (λ files. finite.get files name) (only_reading old settled_world call image is) ∙ sym none)

-- the number that the sequence file reads as is that of every image
pub each_gives : (old settled_world new : World) (number : ℕ) → FileCall IsSettled IsSyncedInPart old settled_world done_ok
    → new ≡ settled_world → GivesNumber (finite.get (reading settled_world) sequence_file) number → EachGivesNumber number new.now.directory
each_gives old settled_world new number call same gives = subst (λ world. EachGivesNumber number world.now.directory) (sym same)
    (λ image is.
    subst (λ files. GivesNumber (finite.get files sequence_file) number) (sym (only_reading old settled_world call image is)) gives)

-- the journal that was recalled is the one that the directory holds
pub holds_journal : (old settled_world new : World) (last : ℕ) (journal : JournalRead) → FileCall IsSettled IsSyncedInPart
    old settled_world done_ok → new ≡ settled_world → None ≡ finite.get (reading settled_world) temporary_file
    → journal_in last (finite.get (reading settled_world) journal_file) ≡ Ok journal → HoldsJournal journal new.now.directory
holds_journal old settled_world new last journal call same none answer =
    subst (λ world. HoldsJournal journal world.now.directory) (sym same) (record {
      durable = ap (λ (directory : Directory). directory.pending) call.outcome;
      same = λ image is. ap (λ files. finite.get files journal_file) (only_reading old settled_world call image is);
      gives = recalled_gives last (finite.get (reading settled_world) journal_file) journal answer;
      no_temp = λ image is. ap (λ files. finite.get files temporary_file) (only_reading old settled_world call image is) ∙ sym none;
    })
