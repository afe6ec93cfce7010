-- The children of a daemon and of a post stay children of their host.
use Rattle.std.proofs.Common.{◌≡◌, ◌∙◌, ℕ, List, [], append-nil, sym, ap, subst}
use Rattle.std.proofs.lemmas.List.Elements.{Contains-append_left}
use Rattle.at_day.proofs.OutcomeLemmas.{no_kids, ready_after}
use Rattle.at_day.specs.Days.{IsMachineReady}
use Rattle.at_day.specs.EventEffects.{Happens}
use Rattle.at_day.specs.Machines.{machine_session}
use Rattle.daemon_turn.specs.declared.kid.Kid.{Kid}
use Rattle.daemon_turn.specs.Daemons.{DaemonState}
use Rattle.daemon_turn.specs.Kids.{AreChildren, KeepsChildren}
use Rattle.at_day.specs.declared.event.Event.{Event}
use Rattle.at_day.specs.declared.event.Event.TheVariants.{Command, Turn, Reboot}
use Rattle.at_day.specs.declared.events_report.EventReport.{EventReport}
use Rattle.at_day.specs.declared.events_report.EventReport.TheVariants as reports
use Rattle.host_calls.specs.declared.child.Child.{Child}
use Rattle.host_calls.specs.Session.{IsOutside}
use Rattle.mail_session.specs.PostState.{PostState}
use Rattle.later_day.specs.declared.entry.LaterEntry.{LaterEntry}
use Rattle.later_day.specs.declared.entry.LaterEntry.TheVariants as known
use Rattle.later_day.specs.declared.later.Later.{Later}
use Rattle.later_day.specs.declared.later.Later.TheVariants.{Day, Post, Cron}
use Rattle.later_day.specs.LaterEventEffects.{IsPostAfter, LaterHappens}
use Rattle.later_day.specs.LaterMachines.{LaterMachine}

-- No session is on, each child of the daemon and of the post is a child of the host, and the post has this mail
-- program.
pub record IsLaterReady (program : List ℕ) (old : LaterMachine) : Type 0 where
  pub day : IsMachineReady old.at
  pub notices : AreChildren (machine_session old.at).children old.post.kids
  pub of_program : old.post.program ≡ program

-- children that stay

more_children : (old new : List Child) (kids : List Kid) → KeepsChildren old new → AreChildren old kids → AreChildren new kids
more_children old new kids keeps are =
    subst (λ (children : List Child). AreChildren children kids) (sym keeps.1)
    (record { each = λ kid has. Contains-append_left old keeps.0 kid.child (are.each kid has) })

-- after each kind of event

module _ (program : List ℕ) (old new : LaterMachine) (ready : IsLaterReady program old) where
  -- what the post keeps where it stays
  post_stays : KeepsChildren (machine_session old.at).children (machine_session new.at).children → new.post ≡ old.post →
      AreChildren (machine_session new.at).children new.post.kids × (new.post.program ≡ program)
  post_stays keeps same = (
    more_children (machine_session old.at).children (machine_session new.at).children new.post.kids keeps
        (subst (λ (post : PostState). AreChildren (machine_session old.at).children post.kids) (sym same) ready.notices),
    ap (λ (post : PostState). post.program) same ∙ ready.of_program,
  )

  -- as many children as before
  children_stay : (machine_session new.at).children ≡ (machine_session old.at).children →
      KeepsChildren (machine_session old.at).children (machine_session new.at).children
  children_stay same = ([], same ∙ sym (append-nil (machine_session old.at).children))

  post_after_day : (event : Event) (report : EventReport) → Happens event report old.at new.at → IsPostAfter event old.post new.post →
      AreChildren (machine_session new.at).children new.post.kids × (new.post.program ≡ program)
  post_after_day (Command words caller input now) (reports.Command status out err) given post =
      post_stays (children_stay given.host.left.children) post
  post_after_day (Turn now load) (reports.Turn turned) turns post = post_stays turns.kept post
  post_after_day (Reboot pick fuse) reports.Rebooted up post = (
    subst (λ (after : PostState). AreChildren (machine_session new.at).children after.kids) (sym post)
        (no_kids (machine_session new.at).children),
    ap (λ (after : PostState). after.program) post ∙ ready.of_program,
  )
  post_after_day (Command words caller input now) (reports.Turn turned) happens post = absurd happens
  post_after_day (Command words caller input now) reports.Rebooted happens post = absurd happens
  post_after_day (Turn now load) (reports.Command status out err) happens post = absurd happens
  post_after_day (Turn now load) reports.Rebooted happens post = absurd happens
  post_after_day (Reboot pick fuse) (reports.Command status out err) happens post = absurd happens
  post_after_day (Reboot pick fuse) (reports.Turn turned) happens post = absurd happens

  -- what the daemon keeps where it stays
  day_stays : IsOutside (machine_session new.at) → KeepsChildren (machine_session old.at).children (machine_session new.at).children →
      new.at.daemon ≡ old.at.daemon → IsMachineReady new.at
  day_stays outside keeps same = record {
    outside = outside;
    children = more_children (machine_session old.at).children (machine_session new.at).children new.at.daemon.kids keeps
        (subst (λ (daemon : DaemonState). AreChildren (machine_session old.at).children daemon.kids) (sym same) ready.day.children);
  }

  pub later_ready_after : (event : Later) (entry : LaterEntry) → LaterHappens event entry old new → IsLaterReady program new
  later_ready_after (Day event) (known.Day report) happened =
      let post = post_after_day event report happened.happens happened.post in
      record {
        day = ready_after event report old.at new.at happened.happens ready.day;
        notices = post.0;
        of_program = post.1;
      }
  later_ready_after Post (known.Post report) posted = record {
    day = day_stays posted.posts.outside posted.posts.kept posted.daemon;
    notices = posted.posts.children;
    of_program = posted.posts.program ∙ ready.of_program;
  }
  later_ready_after (Cron context zone entries now) (known.Cron report) submitted =
      let post = post_stays (children_stay submitted.crons.left.children) submitted.post in
      record {
        day = day_stays submitted.crons.left.outside (children_stay submitted.crons.left.children) submitted.daemon;
        notices = post.0;
        of_program = post.1;
      }
  later_ready_after (Day event) (known.Post report) happened = absurd happened
  later_ready_after (Day event) (known.Cron report) happened = absurd happened
  later_ready_after Post (known.Day report) happened = absurd happened
  later_ready_after Post (known.Cron report) happened = absurd happened
  later_ready_after (Cron context zone entries now) (known.Day report) happened = absurd happened
  later_ready_after (Cron context zone entries now) (known.Post report) happened = absurd happened
