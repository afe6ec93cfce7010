-- The host of a simulated run: none of its calls fails, and its directory is never damaged.
use Rattle.std.proofs.Common.{◌≡◌, ◌++◌, [], ◌∷◌, ℕ, List, sym, ap, subst, ◌∙◌, refl, inl, inr, arith, length, append-nil}
use Rattle.std.specs.Prelude.{Option, Result, Ok, Err, false, option_to_list}
use Rattle.std.specs.List.{list_any}
use Rattle.std.specs.Cmp.Lexicographic.{nat_list_cmp_total}
use Rattle.std.specs.FinMap.{empty, entries, entries-insert, len-empty, len-entries}
use Rattle.command_rules.specs.Found.{deny_file}
use Rattle.at_day.specs.declared.event.Event.{Event}
use Rattle.at_day.specs.declared.event.Event.TheVariants.{Command, Turn, Reboot}
use Rattle.at_day.specs.declared.events_report.EventReport.{EventReport}
use Rattle.at_day.specs.declared.events_report.EventReport.TheVariants as known
use Rattle.headline.specs.Effects.{world_after}
use Rattle.host_calls.specs.Causes.{Rose}
use Rattle.host_calls.specs.Directory.{Files, IsImage, name_cmp}
use Rattle.host_calls.specs.Session.{Session}
use Rattle.host_calls.specs.World.{World, reading}
use Rattle.host_calls.proofs.DirectoryLemmas.{reading_is_image}
use Rattle.step_runs.specs.Current.{EachShows}
use Rattle.at_day.specs.Made.{made_events}
use Rattle.at_day.specs.Plans.{made_plan}
use Rattle.memory_host.specs.Host.{IsNew, memory_session, memory_world}
use Rattle.memory_host.specs.Laws.{HasNoFault}
use Rattle.memory_host.specs.Spelling.{spelled}
use Rattle.memory_host.specs.declared.memory_host.MemoryHost.{MemoryHost}
use Rattle.memory_host.proofs.LawLemmas.{quiet_hosts_have_no_fault}
use Rattle.spool_model.specs.JobTable.{JobTable}
use Rattle.start_journal.specs.Journals.{journal_in}
use Rattle.spool_shows.specs.Examples.{without_jobs}
use Rattle.spool_shows.specs.Shown.{Shows, shown, shown_by}
use Rattle.host_calls.specs.declared.store_fault.StoreFault.{StoreFault}
use Rattle.host_calls.specs.declared.store_fault.StoreFault.TheVariants as fault
use Rattle.at_day.specs.declared.counts.Counts.{Counts}
use Rattle.at_day.specs.declared.report.DayReport.{DayReport}
use Rattle.at_day.specs.JobCounts.{CountsBy, IsTableCounted}
use Rattle.at_day.specs.Days.{IsDay, IsDayOf, first_machine}
use Rattle.at_day.specs.EventOutcomes.{AreDoneOn, EventOutcome, events_of, machine_after, passed_events}
use Rattle.at_day.specs.EventEffects.{Happens}
use Rattle.at_day.specs.Machines.{Machine, machine_session, spool_of}
use Rattle.at_day.specs.MadeDays.{ComesTo, deny_alone, lacks_memory}
use Rattle.at_day.specs.inside.DayParts.{IsCountedOrMemory}
use Rattle.at_day.proofs.MadeLemmas.{LightNoFuse, LightsNoFuse, made_events_light_none}

-- What the directory shows at first.

no_length : (files : List (List ℕ × List ℕ)) → length files ≡ 0 → files ≡ []
no_length [] none = refl
no_length (file ∷ later) none = absurd (omega arith)

none_at_first : entries (empty {X = List ℕ} {R = name_cmp}) ≡ []
none_at_first = no_length _ (sym (len-entries (empty {X = List ℕ} {R = name_cmp})) ∙ len-empty name_cmp (List ℕ))

one_file : entries deny_alone ≡ (deny_file, []) ∷ []
one_file =
    entries-insert nat_list_cmp_total (empty {X = List ℕ} {R = name_cmp}) deny_file []
    ∙ rw none_at_first refl

no_jobs : Shows deny_alone (without_jobs 0)
unfolding shown_by journal_in
no_jobs = ap shown one_file

pub shows_at_first : (count : ℕ) (host : MemoryHost) → IsNew deny_alone (made_plan count) host →
    EachShows (memory_world host).now.directory (without_jobs 0)
shows_at_first count host new image is =
    subst (λ (files : Files). Shows files (without_jobs 0)) (sym (new.settled image is)) no_jobs

-- What it shows after the events.

world_left : (first : Machine) (outcomes : List EventOutcome)
    → world_after (spool_of first) (passed_events outcomes) ≡ spool_of (machine_after first outcomes)
world_left first [] = refl
world_left first (outcome ∷ later) = world_left outcome.left later

pub table_after : (events : List Event) (reports : List EventReport) (first left : MemoryHost) →
    IsDayOf events reports (first_machine first) left → (opening : JobTable) → EachShows (memory_world first).now.directory opening →
    (table : JobTable) × Shows (reading (memory_world left)) table
table_after events reports first left day opening shows =
    let after : world_after (memory_world first) (passed_events day.outcomes) ≡ memory_world left =
    world_left (first_machine first) day.outcomes ∙ ap memory_world day.last_is in
    let shown_so = (day.keeps opening shows).shows (reading (memory_world left))
    (subst (λ (world : World). IsImage world.now.directory (reading (memory_world left))) (sym after)
    (reading_is_image (memory_world left).now.directory)) in
    (shown_so.0, shown_so.1)

-- What it was made as stays.

as_made_event : (event : Event) (answer : EventReport) (old new : Machine) → Happens event answer old new → LightsNoFuse event →
    (machine_session new).made_as ≡ (machine_session old).made_as
as_made_event (Command words caller input now) (known.Command status out err) old new given none = given.host.left.counts.made_as
as_made_event (Turn now load) (known.Turn turned) old new turns none = turns.counts.made_as
as_made_event (Reboot pick fuse) known.Rebooted old new up none =
    up.host.made_as
    ∙ (ap (λ (lit : Option ℕ). spelled old.host.plan (old.host.fuses.items ++ option_to_list lit)) none
    ∙ ap (λ (fuses : List ℕ). spelled old.host.plan fuses) (append-nil old.host.fuses.items))
as_made_event (Command words caller input now) (known.Turn turned) old new happens none = absurd happens
as_made_event (Command words caller input now) known.Rebooted old new happens none = absurd happens
as_made_event (Turn now load) (known.Command status out err) old new happens none = absurd happens
as_made_event (Turn now load) known.Rebooted old new happens none = absurd happens
as_made_event (Reboot pick fuse) (known.Command status out err) old new happens none = absurd happens
as_made_event (Reboot pick fuse) (known.Turn turned) old new happens none = absurd happens

as_made : (first : Machine) (outcomes : List EventOutcome) → AreDoneOn first outcomes → LightNoFuse (events_of outcomes) →
    (machine_session (machine_after first outcomes)).made_as ≡ (machine_session first).made_as
as_made first [] done none = refl
as_made first (outcome ∷ later) done none =
    as_made outcome.left later done.1 none.1
    ∙ as_made_event outcome.event outcome.report first outcome.left done.0.happens none.0

pub as_made_after : (events : List Event) (reports : List EventReport) (first left : MemoryHost) →
    IsDayOf events reports (first_machine first) left → LightNoFuse events →
    (memory_session left).made_as ≡ (memory_session first).made_as
as_made_after events reports first left day none =
    sym (ap (λ (host : MemoryHost). (memory_session host).made_as) day.last_is)
    ∙ as_made (first_machine first) day.outcomes day.done (subst LightNoFuse (sym day.events_are) none)

-- So nothing but an out-of-memory error is in the way of its counts.

no_rise : (before now : ℕ) → now ≡ 0 → Rose before now → ⊥
no_rise before now none rose = omega arith

sound_of : (between last : MemoryHost) (counts : Result Counts StoreFault) → HasNoFault (memory_session last) →
    (table : JobTable) → Shows (reading (memory_world between)) table →
    CountsBy (memory_session between) (memory_session last) (memory_world between) counts → IsCountedOrMemory counts
sound_of between last (Ok counts) quiet table shows by = tt
sound_of between last (Err fault.Memory) quiet table shows by = refl
sound_of between last (Err fault.FileFault) quiet table shows (inl rose) =
    absurd (no_rise (memory_session between).file_faults (memory_session last).file_faults quiet.file_faults rose)
sound_of between last (Err fault.FileFault) quiet table shows (inr rose) =
    absurd (no_rise (memory_session between).taken (memory_session last).taken quiet.taken rose)
sound_of between last (Err (fault.Damaged damage)) quiet table shows by = absurd (let both = sym shows ∙ by in cc)
sound_of between last _ quiet table shows by = absurd by

pub counts_are_sound : (count : ℕ) (first last : MemoryHost) (report : DayReport) → IsNew deny_alone (made_plan count) first →
    IsDay (made_events count) first last report → IsCountedOrMemory report.counts
counts_are_sound count first last report new day =
    let table = table_after (made_events count) report.events first day.between day.day (without_jobs 0) (shows_at_first count first new) in
    let made = day.counted.left.counts.made_as
    ∙ (as_made_after (made_events count) report.events first day.between day.day (made_events_light_none count)
    ∙ ap (λ (session : Session). session.made_as) new.session) in
    sound_of day.between last report.counts
    (quiet_hosts_have_no_fault last (made_plan count) made (record { failing = refl; taken = refl; failing_starts = refl; fuse = refl }))
    table.0 table.1 day.counted.counts

-- What the day comes to.

pub comes_to : (count : ℕ) (first last : MemoryHost) (report : DayReport) (counts : Counts) → IsNew deny_alone (made_plan count) first →
    IsDay (made_events count) first last report → report.counts ≡ Ok counts → list_any lacks_memory report.events ≡ false →
    ComesTo count counts
comes_to count first last report counts new day is found = record {
  first = first;
  is_new = new;
  last = last;
  reports = report.events;
  day = record {
    between = day.between;
    day = day.day;
    counted = subst (λ (of : Result Counts StoreFault). IsTableCounted day.between last of) is day.counted;
  };
  found_memory = found;
}
