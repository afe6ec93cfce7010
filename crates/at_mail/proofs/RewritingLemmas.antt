-- What is left where the notes are written anew.
use Rattle.std.proofs.Common.{◌≡◌, ◌∙◌, ℕ, true, List, inl, inr, refl, sym, ap, subst, arith}
use Rattle.std.specs.Prelude.{Option, Some, Result, Ok, Err, IfErr, IfOk}
use Rattle.std.specs.Fn.{CalledAtMut}
use Rattle.std.specs.FinMap as finite
use Rattle.host_calls.specs.declared.child.Handed.{Handed}
use Rattle.host_calls.specs.declared.fault.EnterFault.{EnterFault}
use Rattle.host_calls.specs.declared.fault.EnterFault.TheVariants as entry
use Rattle.host_calls.specs.declared.host.Host.{Ghosts}
use Rattle.host_calls.specs.declared.store_fault.StoreFault.{StoreFault}
use Rattle.host_calls.specs.declared.store_fault.StoreFault.TheVariants as fault
use Rattle.host_calls.specs.Damages.{IfDamaged}
use Rattle.host_calls.specs.Directory.{Files, IsImage}
use Rattle.host_calls.specs.Session.{CallsInside}
use Rattle.host_calls.specs.StoreFaults.{IsReadingFault}
use Rattle.host_calls.specs.World.{World, reading}
use Rattle.host_calls.proofs.DirectoryLemmas.{reading_is_image}
use Rattle.host_calls.proofs.WorldLemmas.{leaves_weaker}
use Rattle.host_calls.specs.declared.turn_end.TurnEnd.TheVariants.{Busy, FileFault, Memory}
use Rattle.host_calls.specs.SessionEnds.{end_after, end_of_session}
use Rattle.host_calls.specs.SessionWork.{Calls, EndsSession}
use Rattle.host_calls.proofs.SessionEndLemmas.{is_fault, not_busy}
use Rattle.host_calls.proofs.SessionLemmas.{counts_on}
use Rattle.spool_shows.specs.Shown.{shown_by}
use Rattle.spool_store.specs.Recovery.{IsRecovered, Recovered, ShowsTheSame}
use Rattle.spool_store.proofs.BesideLemmas.{shows_the_same}
use Rattle.step_runs.specs.Calls.{ShowsAsBefore}
use Rattle.step_runs.specs.Current.{IsSpoolName, Kept}
use Rattle.whole_file.specs.Others.{ChangesFiles, IsEither}
use Rattle.whole_file.specs.Placement.{IsPlaced, IsPlacing}
use Rattle.whole_file.proofs.ChangesJoined.{changes_end, left_alone}
use Rattle.whole_file.proofs.OthersLemmas.{changes_none}
use Rattle.mail_notes.specs.declared.note.Note.{Note}
use Rattle.mail_notes.specs.Lines.{HoldsNotes, notes_text}
use Rattle.mail_notes.specs.Names.{mail_file, mail_temp}
use Rattle.mail_notes.proofs.NameLemmas.{mail_is_none_of_the_stores}
use Rattle.mail_session.specs.SessionOutcome.{GivesNotes}
use Rattle.mail_session.specs.ReadNotes.{IsDamageOf}
use Rattle.mail_session.specs.Sessions.{AreNotesOpened}
use Rattle.mail_session.proofs.PlanLemmas.{holds_notes, notes_as_before}
use Rattle.mail_session.proofs.SessionLemmas.{recoveries_open, recovery_leaves, recovery_now}
use Rattle.at_mail.specs.Rewriting.{HoldsEither, IsRewriting, IsRewritten, AreNotesKept, RewriteLeaves, RewritesTo}

-- neither name is one of the store's
both_beside : (name : List ℕ) → IsEither mail_temp mail_file name → ¬ (IsSpoolName name)
both_beside name (inl is) = mail_is_none_of_the_stores name (inr (inl is))
both_beside name (inr is) = mail_is_none_of_the_stores name (inl is)

-- Nothing was written.

unwritten : (old new : World) → ChangesFiles (ShowsAsBefore old.now.directory) old new
    → ShowsTheSame old.now.directory new.now.directory → AreNotesKept old new
unwritten old new changes shown = record {
  leaves = recovery_leaves old new changes;
  now = recovery_now old new changes;
  shown = shown;
  asked = changes.asked;
}

-- the store could not be recovered
pub leaves_unrecovered : (Whole Part : World → World → Type 0) (of : StoreFault) (old new : World) → IsReadingFault of → ChangesFiles (ShowsAsBefore old.now.directory) old new
    → Recovered old.now.directory new.now.directory (Err of) →
    IfDamaged {T = Kept} fault.Damaged (λ damage. reading new ≡ reading old) (Err of) → RewriteLeaves Whole Part old new (end_after (Err of))
leaves_unrecovered Whole Part fault.FileFault old new reads changes recovered untouched = inl (unwritten old new changes recovered)
leaves_unrecovered Whole Part fault.Memory old new reads changes recovered untouched = inl (unwritten old new changes recovered)
leaves_unrecovered Whole Part (fault.Damaged damage) old new reads changes recovered untouched =
    (unwritten old new changes (ap shown_by (untouched damage refl)), inl recovered)
leaves_unrecovered Whole Part _ old new reads changes recovered untouched = absurd reads

-- the notes could not be read
still : (kept : Kept) (old opened : World) → ChangesFiles (ShowsAsBefore old.now.directory) old opened
    → IsRecovered old.now.directory opened.now.directory kept → AreNotesKept old opened
still kept old opened changes is =
    unwritten old opened changes (is.current.shows (reading opened) (reading_is_image opened.now.directory) ∙ sym is.shown)

module _ {T : Type 0} (Whole Part : World → World → Type 0) (kept : Kept) (old opened : World) (changes : ChangesFiles (ShowsAsBefore old.now.directory) old opened)
    (is : IsRecovered old.now.directory opened.now.directory kept) where
  unread : (of : StoreFault) → IsReadingFault of → IfDamaged {T = T} fault.Damaged (IsDamageOf (finite.get (reading opened) mail_file))
      (Err of) → RewriteLeaves Whole Part old opened (end_after (Err of))
  unread fault.FileFault reads damaged = inl (still kept old opened changes is)
  unread fault.Memory reads damaged = inl (still kept old opened changes is)
  unread (fault.Damaged damage) reads damaged = (
    still kept old opened changes is,
    inr (is.table, is.shown, subst (λ held. IsDamageOf held damage) (notes_as_before kept old opened is) (damaged damage refl)),
  )
  unread _ reads damaged = absurd reads

  pub leaves_unread : (of : StoreFault) (read : World) → read ≡ opened → IsReadingFault of
      → IfDamaged {T = T} fault.Damaged (IsDamageOf (finite.get (reading opened) mail_file)) (Err of) →
      RewriteLeaves Whole Part old read (end_after (Err of))
  leaves_unread of read looks reads damaged =
      subst (λ (world : World). RewriteLeaves Whole Part old world (end_after (Err of))) (sym looks) (unread of reads damaged)

-- The store was recovered, and the notes were read.
module _ (kept : Kept) (old opened : World) (changes : ChangesFiles (ShowsAsBefore old.now.directory) old opened)
    (is : IsRecovered old.now.directory opened.now.directory kept) (notes : List Note)
    (gives : GivesNotes (finite.get (reading opened) mail_file) notes) where
  pub opens : AreNotesOpened notes is.table old opened
  opens = recoveries_open kept notes old opened changes is (holds_notes (finite.get (reading opened) mail_file) notes gives)

  pub gave : GivesNotes (finite.get (reading old) mail_file) notes
  gave = subst (λ held. GivesNotes held notes) (notes_as_before kept old opened is) gives

  pub held_first : (image : Files) → IsImage opened.now.directory image → HoldsNotes (finite.get image mail_file) notes
  held_first image of_it = subst (λ held. HoldsNotes held notes) (sym (opens.durable image of_it mail_file (inl refl))) opens.holds

  -- the text of the next notes is placed
  module _ (next : List Note) (text : List ℕ) (text_is : text ≡ notes_text next) where
    pub holds_next : (held : Option (List ℕ)) → held ≡ Some text → HoldsNotes held next
    holds_next held put = subst (λ of. HoldsNotes of next) (sym put) text_is

    module _ (new : World) (places : ChangesFiles (IsPlacing mail_temp mail_file text opened.now.directory) opened new) where
      abbrev Placing : Files → Type 0
      Placing = IsPlacing mail_temp mail_file text opened.now.directory

      pub either : (image : Files) (handed : List Handed) → Placing image × (handed ≡ opened.now.handed)
          → HoldsEither is.table notes next opened.now image handed
      either image handed placing = record {
        alone = placing.0.alone;
        shows = shows_the_same (IsEither mail_temp mail_file) both_beside opened.now.directory image placing.0.alone
            ∙ is.current.shows placing.0.alone.from placing.0.alone.was;
        holds = elim placing.0.placed [
          | inl same ↦ inl (subst (λ held. HoldsNotes held notes) (sym same) (held_first placing.0.alone.from placing.0.alone.was))
          | inr put ↦ inr (holds_next (finite.get image mail_file) put)
        ];
        as_many = placing.1;
      }

      unfoldable pub rewriting : IsRewriting is.table notes next old new
      rewriting = record {
        shown = is.shown;
        gives = gave;
        opened = opened;
        is_opened = opens;
        leaves = leaves_weaker (λ image handed. Placing image × (handed ≡ opened.now.handed))
            (HoldsEither is.table notes next opened.now) opened new either places.leaves;
        now = λ image of_it. either image new.now.handed (
          changes_end Placing opened new places
              (λ one was. record { alone = left_alone (IsEither mail_temp mail_file) opened.now.directory one was; placed = inl refl }) image
              of_it,
          places.handed,
        );
        asked = places.asked ∙ changes.asked;
      }

      unfoldable pub rewritten : IsPlaced mail_temp mail_file text opened.now.directory new.now.directory → IsRewritten is.table notes next old new
      rewritten placed = record {
        writing = rewriting;
        stand = λ image of_it. holds_next (finite.get image mail_file) (placed.placed image of_it);
        others = λ name spool other. placed.others name other ∙ is.others name spool;
      }

    -- the next notes are those that were there, and nothing was placed
    unfoldable pub unchanged : notes ≡ next → IsRewritten is.table notes next old opened
    unchanged all = record {
      writing = rewriting opened (changes_none _ opened);
      stand = λ image of_it. subst (HoldsNotes (finite.get image mail_file)) all (held_first image of_it);
      others = λ name spool other. is.others name spool;
    }

-- The work within a session of the host.

unwritten_same : (old new : World) → new ≡ old → AreNotesKept old new
unwritten_same old new same = record {
  leaves = recovery_leaves old new as_it_was;
  now = recovery_now old new as_it_was;
  shown = ap (λ (world : World). shown_by (reading world)) same;
  asked = ap (λ (world : World). world.asked) same;
} where
  as_it_was : ChangesFiles (ShowsAsBefore old.now.directory) old new
  as_it_was = subst (ChangesFiles (ShowsAsBefore old.now.directory) old) (sym same) (changes_none (ShowsAsBefore old.now.directory) old)

-- what one call of the work does
pub record Rewrites {H : Type 0} (Whole Part : World → World → Type 0) (g : Ghosts H) (first last : H) (done : Result (Unit {0}) StoreFault) : Type 0 where
  pub inside : CallsInside fault.FileFault (g.session first) (g.session last) done
  pub reads : IfErr done IsReadingFault
  pub leaves : g.tells ≡ true → RewriteLeaves Whole Part (g.world first) (g.world last) (end_after done)

module _ {H F : Type 0} (Whole Part : World → World → Type 0) (g : Ghosts H) (calls : Calls H F (Result (Unit {0}) StoreFault)) (work left : F) (old new : H)
    (within : (first last : H) (done : Result (Unit {0}) StoreFault) → CalledAtMut calls work first done left last
    → Rewrites Whole Part g first last done) where
  pub reads_of_session : (result : Result (Result (Unit {0}) StoreFault) EnterFault) → EndsSession g calls work left old new result →
      IfOk result (λ done. IfErr done IsReadingFault)
  reads_of_session (Ok done) ends = (within ends.first ends.last done ends.did).reads
  reads_of_session (Err of) ends = tt

  pub rewrites_of_session : (result : Result (Result (Unit {0}) StoreFault) EnterFault) → EndsSession g calls work left old new result →
      RewritesTo Whole Part g.tells g.alone (g.session old) (g.session new) (g.world old) (g.world new) (end_of_session result)
  rewrites_of_session (Ok done) ends =
      let is = within ends.first ends.last done ends.did in
      record {
        left = record {
          outside = ends.over.outside;
          children = ends.over.children ∙ is.inside.stays.children ∙ ends.begun.children;
          counts = counts_on (g.session old) (g.session ends.first) (g.session new) ends.begun.counts
              (counts_on (g.session ends.first) (g.session ends.last) (g.session new) is.inside.stays.counts ends.over.counts);
        };
        busy = λ bad. absurd (not_busy done bad);
        fault = λ bad. omega (arith, ends.begun.counts.file_faults, is.inside.cause.rose (is_fault done bad), ends.over.counts.file_faults);
        leaves = λ known alone.
            subst (λ (world : World). RewriteLeaves Whole Part world (g.world new) (end_after done)) (ends.begun.quiet.alone known alone)
            (subst (λ (world : World). RewriteLeaves Whole Part (g.world ends.first) world (end_after done))
            (sym (ends.quiet.alone known alone)) (is.leaves known));
      }
  rewrites_of_session (Err entry.Taken) ends = record {
    left = ends.refused.left;
    busy = λ bad. ends.refused.taken refl;
    fault = λ bad. absurd (let impossible : Busy ≡ FileFault = bad in cc);
    leaves = λ known alone. ends.refused.quiet.alone known alone;
  }
  rewrites_of_session (Err entry.Failed) ends = record {
    left = ends.refused.left;
    busy = λ bad. absurd (let impossible : FileFault ≡ Busy = bad in cc);
    fault = λ bad. ends.refused.failed refl;
    leaves = λ known alone. inl (unwritten_same (g.world old) (g.world new) (ends.refused.quiet.alone known alone));
  }
  rewrites_of_session (Err entry.Memory) ends = record {
    left = ends.refused.left;
    busy = λ bad. absurd (let impossible : Memory ≡ Busy = bad in cc);
    fault = λ bad. absurd (let impossible : Memory ≡ FileFault = bad in cc);
    leaves = λ known alone. inl (unwritten_same (g.world old) (g.world new) (ends.refused.quiet.alone known alone));
  }
