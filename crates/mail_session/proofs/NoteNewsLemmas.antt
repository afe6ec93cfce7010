-- The new jobs are noted.
use Rattle.std.proofs.Common.{◌≡◌, ◌∙◌, ◌++◌, ◌+◌, ◌<◌, ℕ, Bool, true, List, [], ◌∷◌, append_assoc, get_or, length, take, refl, sym, ap, subst, inl, arith}
use Rattle.std.specs.Prelude.{◌==◌, Contains, IfOk, Result, Ok, Err}
use Rattle.std.specs.List.{All}
use Rattle.std.proofs.lemmas.Bool.Decides.{nat_tests}
use Rattle.std.proofs.lemmas.List.{map-append, take_more}
use Rattle.std.proofs.lemmas.List.Elements.{Contains-get_or}
use Rattle.spool_shows.proofs.Membership.{has_contained}
use Rattle.step_runs.proofs.ApartLemmas.{all_each}
use Rattle.mail_notes.specs.declared.note.Note.TheVariants.{Noted}
use Rattle.mail_notes.proofs.TextLemmas.{notes_text-push}
use Rattle.host_calls.specs.declared.fault.HostFault.{HostFault}
use Rattle.host_calls.specs.declared.fault.HostFault.TheVariants.{Failed}
use Rattle.host_calls.specs.Directory.{IsInNoImage}
use Rattle.host_calls.specs.Session.{CallsInside, IsInside, Session}
use Rattle.host_calls.specs.World.{World}
use Rattle.host_calls.proofs.SessionLemmas.{stays_inside}
use Rattle.mail_notes.specs.declared.note.Note.{Note}
use Rattle.mail_notes.specs.declared.note.NotedJob.{NotedJob}
use Rattle.mail_notes.specs.Hands.{SendsNotices, Mailing}
use Rattle.mail_notes.specs.Lines.{note_line, notes_text}
use Rattle.mail_notes.specs.Names.{mail_file, mail_temp}
use Rattle.mail_notes.specs.Runs.{AreNotesMade, HoldsNotesAlone}
use Rattle.mail_notes.proofs.RunLemmas.{no_notes_are_made}
use Rattle.mail_session.specs.News.{noting_of}
use Rattle.mail_session.specs.NewNotes.{Notes, NotingEnds}
use Rattle.mail_session.specs.NoticeFiles.{ReadsBeside}
use Rattle.mail_session.specs.inside.SentNotice.{Places}
use Rattle.mail_session.proofs.ReadLemmas.{reads_none, reads_placed}
use Rattle.mail_session.proofs.NotingLemmas.{notes_made, notes_stopped}
use Rattle.mail_session.proofs.SendLemmas.{no_fault}

-- that jobs were seen starts nothing
pub noting_hands_nothing : (of : Mailing) (new_jobs : List NotedJob) → SendsNotices of (noting_of new_jobs) []
noting_hands_nothing of [] = refl
noting_hands_nothing of (job ∷ new_jobs) = ([], [], refl, noting_hands_nothing of new_jobs, refl)

-- where there are none, nothing is noted
pub noted_none : (tells : Bool) (session : Session) (world : World) (new_jobs : List NotedJob) (text : List ℕ)
    → new_jobs ≡ [] → IsInside session →
    (tells ≡ true → IsInNoImage world.now.directory mail_temp) → Notes tells session session world world new_jobs text (Ok tt)
noted_none tells session world new_jobs text none inside no_temp = record {
  inside =
      record { stays = stays_inside session inside; cause = record { later = omega arith; rose = λ bad. absurd (no_fault tt Failed bad) } };
  no_temp = no_temp;
  reads = λ known. reads_none world;
  files = λ known of notes ready text_is.
      subst (λ (of_none : List NotedJob). AreNotesMade of notes (noting_of of_none) [] [] world world) (sym none)
      (no_notes_are_made of notes world ready);
}

-- else the file of notes is placed
module _ (tells : Bool) (before after : Session) (old new : World) (new_jobs : List NotedJob) (text : List ℕ) where
  noting_ends : (of : Mailing) (notes : List Note) → HoldsNotesAlone notes old.now.directory
      → text ≡ notes_text (notes ++ noting_of new_jobs) →
      (result : Result (Unit {0}) HostFault) → Places mail_file text old new result
      → NotingEnds of notes (noting_of new_jobs) old new result
  noting_ends of notes ready text_is (Ok done) places =
      notes_made of notes (noting_of new_jobs) text old new ready text_is (λ image is. inl (noting_hands_nothing of new_jobs))
      places.changes places.placed (noting_hands_nothing of new_jobs)
  noting_ends of notes ready text_is (Err fault) places =
      notes_stopped of notes (noting_of new_jobs) text old new ready text_is
      (λ image is. inl (noting_hands_nothing of new_jobs)) places.changes

  none_made : (result : Result (Unit {0}) HostFault) → Places mail_file text old new result
      → IfOk result (λ done. IsInNoImage new.now.directory mail_temp)
  none_made (Ok done) places = places.placed.no_temp
  none_made (Err fault) places = tt

  none_read : (result : Result (Unit {0}) HostFault) → Places mail_file text old new result → IfOk result (λ done. ReadsBeside [] old new)
  none_read (Ok done) places = reads_placed text old new places.placed
  none_read (Err fault) places = tt

  pub noted_placed : (result : Result (Unit {0}) HostFault) → CallsInside Failed before after result
      → (tells ≡ true → Places mail_file text old new result) →
      Notes tells before after old new new_jobs text result
  noted_placed result inside places = record {
    inside = inside;
    no_temp = λ known. none_made result (places known);
    reads = λ known. none_read result (places known);
    files = λ known of notes ready text_is. noting_ends of notes ready text_is result (places known);
  }

-- Lines that are added one after another.

pub line_more : (new_jobs : List NotedJob) (place : ℕ) (job : NotedJob) (was now is : List ℕ) → place < length new_jobs
    → job ≡ get_or new_jobs place job →
    now ≡ was ++ notes_text (noting_of (take place new_jobs)) → is ≡ now ++ note_line (Noted job)
    → is ≡ was ++ notes_text (noting_of (take (place + 1) new_jobs))
line_more new_jobs place job was now is inside at so_far added =
    let more : noting_of (take (place + 1) new_jobs) ≡ noting_of (take place new_jobs) ++ Noted job ∷ [] =
    ap noting_of (take_more new_jobs place job inside ∙ ap (λ (one : NotedJob). take place new_jobs ++ one ∷ []) (sym at))
    ∙ map-append Noted (take place new_jobs) (job ∷ []) in
    added ∙ ap (λ (t : List ℕ). t ++ note_line (Noted job)) so_far
    ∙ append_assoc was (notes_text (noting_of (take place new_jobs))) (note_line (Noted job))
    ∙ ap (λ (t : List ℕ). was ++ t) (sym (notes_text-push (noting_of (take place new_jobs)) (Noted job)) ∙ ap notes_text (sym more))

-- what holds of all of a list holds of the one at a place
pub at_place : {X : Type 0} (P : X → Type 0) (list : List X) (place : ℕ) (one : X) → place < length list
    → one ≡ get_or list place one → All P list → P one
at_place P list place one inside at all =
    all_each P list all one (has_contained list one (subst (Contains list) (sym at) (Contains-get_or list place one inside)))

-- a list of no length has nothing
pub none_by : (new_jobs : List NotedJob) → (length new_jobs == 0) ≡ true → new_jobs ≡ []
none_by [] is = refl
none_by (job ∷ new_jobs) is = absurd (let none : length (job ∷ new_jobs) ≡ 0 = grind (arith, nat_tests) in omega arith)
