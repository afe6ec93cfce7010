-- What a crash leaves of the journal while it changes.
use Rattle.std.proofs.Common.{◌≡◌, ℕ, List, Some, sym, subst, ◌∙◌, inl, inr, true, Result, Ok, Err}
use Rattle.std.specs.Prelude.{OnOk}
use Rattle.std.specs.FinMap as map
use Rattle.host_calls.specs.declared.fault.HostFault.{HostFault}
use Rattle.host_calls.specs.Directory.{Files, Directory, reading_of}
use Rattle.host_calls.specs.World.{World}
use Rattle.host_calls.proofs.DirectoryLemmas.{reading_is_image}
use Rattle.whole_file.specs.Others.{ChangesFiles}
use Rattle.whole_file.specs.Placement.{IsPlaced, IsPlacing}
use Rattle.whole_file.proofs.ChangesJoined.{changes_weaker}
use Rattle.start_journal.specs.declared.mark.Mark.{Mark}
use Rattle.start_journal.specs.JournalChange.{GivesReadJournal, HoldsJournal, IsChanged, IsChanging, IsReplacing}
use Rattle.start_journal.specs.Journals.{JournalRead, SpellsJournal, are_sound, journal_file}
use Rattle.whole_file.specs.Temporary.{temporary_file}
use Rattle.start_journal.proofs.JournalLemmas.{journals_read_back}
use Rattle.start_journal.proofs.ReadLemmas.{sound_legal}

-- a journal that is written whole gives its marks
pub text_gives : (text : List ℕ) (journal : JournalRead) → SpellsJournal text journal.marks journal.free → are_sound journal.marks ≡ true
    → GivesReadJournal (Some text) journal
text_gives text journal spelled sound =
    λ last drawn. journals_read_back last text journal.marks journal.free spelled (sound_legal journal.marks sound) drawn

-- while the text is placed
placing_replaces : (text : List ℕ) (journal : JournalRead) (start : Directory) (image : Files) → GivesReadJournal (Some text) journal
    → IsPlacing temporary_file journal_file text start image → IsReplacing journal start image
placing_replaces text journal start image gives placing = record {
  alone = placing.alone;
  gives = elim placing.placed [
    | inl same ↦ inl same
    | inr new ↦ inr (subst (λ content. GivesReadJournal content journal) (sym new) gives)
  ];
}

pub replacing : (temp target text : List ℕ) (journal : JournalRead) (old new : World) → temp ≡ temporary_file → target ≡ journal_file
    → GivesReadJournal (Some text) journal → ChangesFiles (IsPlacing temp target text old.now.directory) old new
    → ChangesFiles (IsReplacing journal old.now.directory) old new
replacing temp target text journal old new is_temp is_target gives changes =
    let start : Directory = old.now.directory in
    let named : (image : Files) → IsPlacing temp target text start image → IsPlacing temporary_file journal_file text start image =
    λ image placing. subst (λ name. IsPlacing temporary_file name text start image) is_target
    (subst (λ name. IsPlacing name target text start image) is_temp placing) in
    changes_weaker _ _ old new (λ image placing. placing_replaces text journal start image gives (named image placing)) changes

-- once the text is placed
placed_holds : (text : List ℕ) (journal : JournalRead) (old new : Directory) → GivesReadJournal (Some text) journal
    → IsPlaced temporary_file journal_file text old new → IsChanged journal old new
placed_holds text journal old new gives placed =
    let reads : map.get (reading_of new) journal_file ≡ Some text = placed.placed (reading_of new) (reading_is_image new) in
    record {
      holds = record {
        durable = placed.durable;
        same = λ image is. placed.placed image is ∙ sym reads;
        gives = subst (λ content. GivesReadJournal content journal) (sym reads) gives;
        no_temp = placed.no_temp;
      };
      others = placed.others;
    }

pub replaced : {T : Type 0} (temp target text : List ℕ) (journal : JournalRead) (old new : Directory) (result : Result T HostFault)
    → temp ≡ temporary_file → target ≡ journal_file → GivesReadJournal (Some text) journal → OnOk result (IsPlaced temp target text old new)
    → OnOk result (IsChanged journal old new)
replaced temp target text journal old new (Ok value) is_temp is_target gives placed =
    placed_holds text journal old new gives
    (subst (λ name. IsPlaced temporary_file name text old new) is_target (subst (λ name. IsPlaced name target text old new) is_temp placed))
replaced temp target text journal old new (Err fault) is_temp is_target gives placed = tt

-- a journal that is put in place of the one that the directory holds
replacing_changes : (before after : JournalRead) (start : Directory) (image : Files) → HoldsJournal before start
    → IsReplacing after start image → IsChanging before after start image
replacing_changes before after start image holds replacing = record {
  alone = replacing.alone;
  gives = elim replacing.gives [
    | inl same ↦ inl
        (subst (λ content. GivesReadJournal content before) (sym (same ∙ holds.same replacing.alone.from replacing.alone.was)) holds.gives)
    | inr new ↦ inr new
  ];
}

pub changing : (before after journal : JournalRead) (old new : World) → journal ≡ after → HoldsJournal before old.now.directory
    → ChangesFiles (IsReplacing journal old.now.directory) old new → ChangesFiles (IsChanging before after old.now.directory) old new
changing before after journal old new is holds changes =
    let replaces : ChangesFiles (IsReplacing after old.now.directory) old new =
    subst (λ read. ChangesFiles (IsReplacing read old.now.directory) old new) is changes in
    changes_weaker _ _ old new (λ image replacing. replacing_changes before after old.now.directory image holds replacing) replaces

-- the text that was made of a journal gives it
pub made_gives : (text bytes : List ℕ) (marks : List Mark) (inside journal : JournalRead) → bytes ≡ text → marks ≡ inside.marks
    → SpellsJournal text marks inside.free → are_sound inside.marks ≡ true → inside ≡ journal → GivesReadJournal (Some bytes) journal
made_gives text bytes marks inside journal is same spelled sound seen =
    let of_inside : SpellsJournal text inside.marks inside.free = subst (λ list. SpellsJournal text list inside.free) same spelled in
    subst (λ read. GivesReadJournal (Some bytes) read) seen
    (subst (λ list. GivesReadJournal (Some list) inside) (sym is) (text_gives text inside of_inside sound))
