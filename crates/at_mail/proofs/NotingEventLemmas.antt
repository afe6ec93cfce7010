-- Where the new jobs are noted no notice is sent, and those that were sent stay closed: used by OnceLemmas.
use Rattle.std.proofs.Common.{◌≡◌, ◌∙◌, ◌++◌, ℕ, true, false, List, subst, inl, inr}
use Rattle.std.specs.FinMap as finite
use Rattle.host_calls.specs.declared.child.Handed.{Handed}
use Rattle.host_calls.specs.Directory.{Files}
use Rattle.host_calls.specs.World.{HasEachImage, World, reading}
use Rattle.host_calls.proofs.DirectoryLemmas.{reading_is_image}
use Rattle.host_calls.proofs.WorldLemmas.{leaves_then, leaves_weaker}
use Rattle.mail_notes.specs.declared.note.Note.{Note}
use Rattle.mail_notes.specs.Names.{mail_file}
use Rattle.mail_notes.specs.Notes.{has_note_of}
use Rattle.mail_session.specs.News.{noting_of}
use Rattle.mail_session.specs.Sessions.{IsMailUntouched}
use Rattle.at_mail.specs.NotingOutcome.{IsNoting}
use Rattle.at_mail.specs.Once.{notice_numbers}
use Rattle.at_mail.specs.Rewriting.{HoldsEither}
use Rattle.at_mail.proofs.OnceBase.{IsOnce, IsShut, KeepsOnce, untouched}
use Rattle.at_mail.proofs.SentLemmas.{AreNotes, closed_more, given_notes, gives_spelled, has, holds_spelled, notes_both, noting_are, one_reading, unnamed_both}

module _ (retired : ℕ → Type 0) (opening : List Handed) (old new : World) (inv : HasEachImage (IsOnce retired opening) old.now)
    (is : IsNoting old new)
    (apart : (number : ℕ) → retired number → has_note_of number is.notes ≡ false → has_note_of number (noting_of is.new_jobs) ≡ false) where
  base : IsOnce retired opening (reading old) old.now.handed
  base = inv (reading old) (reading_is_image old.now.directory)

  same_notes : base.notes ≡ is.notes
  same_notes = one_reading (finite.get (reading old) mail_file) base.notes is.notes base.gives
      (gives_spelled (finite.get (reading old) mail_file) is.notes is.writing.gives)

  are : AreNotes is.notes
  are = subst AreNotes same_notes (given_notes (finite.get (reading old) mail_file) base.notes base.gives)

  shut_before : (number : ℕ) → has number (notice_numbers base.given) ≡ true → IsShut retired is.notes number
  shut_before number has_it = subst (λ (list : List Note). IsShut retired list number) same_notes (base.shut number has_it)

  still_shut : (number : ℕ) → IsShut retired is.notes number → IsShut retired (is.notes ++ noting_of is.new_jobs) number
  still_shut number (inl closed) = inl (closed_more number is.notes (noting_of is.new_jobs) closed)
  still_shut number (inr gone) =
      inr (unnamed_both number is.notes (noting_of is.new_jobs) gone.0 (apart number gone.1 gone.0), gone.1)

  noted_once : (image : Files) (handed : List Handed)
      → HoldsEither is.table is.notes (is.notes ++ noting_of is.new_jobs) is.writing.opened.now image handed
      → IsOnce retired opening image handed
  noted_once image handed holds = elim holds.holds [
    | inl all ↦ record {
      given = base.given;
      grown = holds.as_many ∙ is.writing.is_opened.handed ∙ base.grown;
      notes = is.notes;
      gives = holds_spelled (finite.get image mail_file) is.notes are all;
      shut = shut_before;
      once = base.once;
    }
    | inr more ↦ record {
      given = base.given;
      grown = holds.as_many ∙ is.writing.is_opened.handed ∙ base.grown;
      notes = is.notes ++ noting_of is.new_jobs;
      gives = holds_spelled (finite.get image mail_file) (is.notes ++ noting_of is.new_jobs)
          (notes_both is.notes (noting_of is.new_jobs) are
          (noting_are (reading is.writing.opened) is.table is.new_jobs is.are_new.each)) more;
      shut = λ number has_it. still_shut number (shut_before number has_it);
      once = base.once;
    }
  ]

  pub noting_keeps : KeepsOnce retired opening old new
  noting_keeps = record {
    leaves = leaves_then (IsOnce retired opening) old is.writing.opened new
        (leaves_weaker (IsMailUntouched old.now) (IsOnce retired opening) old is.writing.opened
        (untouched retired opening old is.writing.opened inv) is.writing.is_opened.leaves)
        (leaves_weaker (HoldsEither is.table is.notes (is.notes ++ noting_of is.new_jobs) is.writing.opened.now)
        (IsOnce retired opening) is.writing.opened new noted_once is.writing.leaves);
    now = λ image of. noted_once image new.now.handed (is.writing.now image of);
  }
