-- What noting the new jobs leaves: used by noting.
use Rattle.std.proofs.Common.{◌≡◌, ◌∙◌, ◌++◌, List, ℕ, true, inl, inr, sym, ap, subst, append-nil, refl}
use Rattle.std.specs.Prelude.{Err}
use Rattle.host_calls.specs.declared.fault.HostFault.{HostFault}
use Rattle.host_calls.specs.declared.fault.HostFault.TheVariants as host
use Rattle.host_calls.specs.StoreFaults.{store_fault_of}
use Rattle.host_calls.specs.SessionEnds.{end_after}
use Rattle.host_calls.specs.World.{World, reading}
use Rattle.spool_store.specs.Recovery.{IsRecovered}
use Rattle.step_runs.specs.Calls.{ShowsAsBefore}
use Rattle.step_runs.specs.Current.{Kept}
use Rattle.whole_file.specs.Others.{ChangesFiles}
use Rattle.whole_file.specs.Placement.{IsPlacing}
use Rattle.mail_notes.specs.declared.note.NotedJob.{NotedJob}
use Rattle.mail_notes.specs.Names.{mail_file, mail_temp}
use Rattle.mail_session.specs.News.{noting_of}
use Rattle.mail_session.proofs.PlanLemmas.{new_on_the_table}
use Rattle.at_mail.specs.NotingOutcome.{AreNewJobs, IsNoted, IsNoting, NotingLeaves}
use Rattle.at_mail.specs.inside.FoundNews.{AreNewsOn, IsNewsWritten}
use Rattle.at_mail.proofs.RewritingLemmas.{rewriting, rewritten, unchanged}

module _ (kept : Kept) (old opened : World) (changes : ChangesFiles (ShowsAsBefore old.now.directory) old opened)
    (is : IsRecovered old.now.directory opened.now.directory kept) (new_jobs : List NotedJob) (text : List ℕ)
    (news : AreNewsOn true opened kept new_jobs text) where
  are_new : AreNewJobs (reading opened) is.table news.notes new_jobs
  are_new = record {
    numbers = news.numbers ∙ new_on_the_table kept.table is.table news.notes is.current.without_scripts_is;
    each = news.noted refl is.table is.current;
  }

  module _ (read new : World) (looks : read ≡ opened)
      (places : ChangesFiles (IsPlacing mail_temp mail_file text read.now.directory) read new) where
    placed_on : ChangesFiles (IsPlacing mail_temp mail_file text opened.now.directory) opened new
    placed_on = subst (λ (from : World). ChangesFiles (IsPlacing mail_temp mail_file text from.now.directory) from new) looks places

    noting : IsNoting old new
    unfolding rewriting
    noting = record {
      table = is.table;
      notes = news.notes;
      new_jobs = new_jobs;
      writing = rewriting kept old opened changes is news.notes (news.gives refl) (news.notes ++ noting_of new_jobs) text news.text_is
          new placed_on;
      are_new = are_new;
    }

    -- the replacement was stopped
    pub noting_stopped : (of : HostFault) → NotingLeaves old new (end_after (Err (store_fault_of of)))
    noting_stopped host.Failed = inr noting
    noting_stopped host.Memory = inr noting

    -- or done
    pub noted : IsNewsWritten new_jobs text read new → IsNoted old new
    unfolding rewriting rewritten unchanged
    noted written = elim (subst (λ (from : World). IsNewsWritten new_jobs text from new) looks written) [
      | inl placed ↦ record {
        table = is.table;
        notes = news.notes;
        new_jobs = new_jobs;
        written = rewritten kept old opened changes is news.notes (news.gives refl) (news.notes ++ noting_of new_jobs) text news.text_is
            new placed_on placed;
        are_new = are_new;
      }
      | inr none ↦ subst (IsNoted old) (sym none.0) (record {
        table = is.table;
        notes = news.notes;
        new_jobs = new_jobs;
        written = unchanged kept old opened changes is news.notes (news.gives refl) (news.notes ++ noting_of new_jobs) text news.text_is
            (sym (append-nil news.notes) ∙ ap (λ (jobs : List NotedJob). news.notes ++ noting_of jobs) (sym none.1));
        are_new = are_new;
      })
    ]
