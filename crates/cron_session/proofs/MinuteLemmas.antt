-- No minute comes twice.
use Rattle.std.proofs.Common.{◌≡◌, ◌≢◌, ◌⊎◌, ◌≤◌, ◌<◌, ◌≤ℤ◌, ◌++◌, ◌+◌, ℕ, true, false, List, [], ◌∷◌, sym, ap, subst, ◌∙◌, refl, inl, inr, arith, le_refl, ℤ, pos, negsuc, length}
use Rattle.std.specs.Prelude.{◌^◌, Option, Some, None, take}
use Rattle.std.proofs.lemmas.Int.{ints}
use Rattle.std.specs.FinMap as finite
use Rattle.host_calls.specs.declared.clock_seconds.TheConstants.{LAST_SECOND}
use Rattle.host_calls.specs.ClockRange.{IsClockMinute, IsClockSecond, minute_at}
use Rattle.text_reader.specs.HexDigits.{SpellsNumber, digits_of}
use Rattle.text_reader.proofs.DigitLemmas.{one_number}
use Rattle.text_reader.proofs.EightDigits.{digits_spelled}
use Rattle.host_calls.specs.Directory.{Files, Directory, IsImage}
use Rattle.host_calls.specs.World.{World, reading}
use Rattle.host_calls.proofs.DirectoryLemmas.{reading_is_image}
use Rattle.whole_file.proofs.ChangesJoined.{changes_end, left_alone}
use Rattle.spool_model.specs.declared.job.Job.{Job}
use Rattle.spool_model.specs.declared.step.Step.{Step}
use Rattle.spool_model.specs.JobTable.{JobTable}
use Rattle.spool_model.specs.Steps.{IsPrefix, after_steps}
use Rattle.spool_shows.specs.Shown.{Shows}
use Rattle.step_runs.specs.Made.{ShowsAfterPrefix}
use Rattle.cron_session.specs.Mark.{IsMark, IsMarkText, cron_mark_text}
use Rattle.cron_session.specs.MarkNames.{mark_file}
use Rattle.cron_session.proofs.NameLemmas.{file_beside, temp_apart}
use Rattle.cron_session.specs.declared.report.CronEnd.{CronEnd}
use Rattle.cron_session.specs.declared.report.CronEnd.TheVariants.{Done, Busy, FileFault, Damaged, QueueFull, NumbersUsedUp, Memory}
use Rattle.cron_session.specs.SessionOutcome.{CronLeaves, IsCronIdle, IsSpoolOrTemp, IsCronStopped, IsUnmarked, IsCronDone}
use Rattle.cron_session.specs.Minutes.{Beside, CronEvent, CronPassFrom, CronPassed, CutOff, Ended, HasNothingNew, KeepsMark, MayAcceptAt, NoMinuteComesTwice, NoneAcceptsAt, PassesAs, SetsMark, ShowsAStep, SubmitsNothing}
use Rattle.cron_session.specs.Steps.{AreToSubmit, Cron, IsMarkedBefore, minute_of, next_numbers, submissions}

-- each image of the directory has the mark of this minute or of a later one
record HasMarkFrom (minute : ℕ) (directory : Directory) : Type 0 where
  marked_in : (image : Files) → IsImage directory image
      → (marked : ℕ) × (minute ≤ marked) × IsMark (finite.get image mark_file) (Some marked)

-- A mark is of one minute.

clock_minutes_fit : (minute : ℕ) → IsClockMinute minute → minute < 16 ^ 8
clock_minutes_fit minute is = omega arith

one_minute : (text : List ℕ) (first second : ℕ) → IsMarkText text first → IsMarkText text second → first ≡ second
one_minute text first second of_first of_second =
    let texts : cron_mark_text first ≡ cron_mark_text second = sym of_first.text_is ∙ of_second.text_is in
    let digits : digits_of first ≡ digits_of second = ap (take 8) texts in
    one_number (digits_of second) first second
    (subst (λ bytes. SpellsNumber bytes first) digits (digits_spelled first (clock_minutes_fit first of_first.minute_is)))
    (digits_spelled second (clock_minutes_fit second of_second.minute_is))

-- where a file has the mark of a minute, the mark is of no other, and there is one
one_mark : (content : Option (List ℕ)) (minute : ℕ) (marked : Option ℕ) → IsMark content (Some minute) → IsMark content marked →
    marked ≡ Some minute
one_mark None minute marked is other = absurd (let none : Some minute ≡ None = is in cc)
one_mark (Some text) minute None is other = absurd other
one_mark (Some text) minute (Some another) is other = ap Some (one_minute text another minute other is)

mark_of : (content : Option (List ℕ)) (minute : ℕ) → IsClockMinute minute → content ≡ Some (cron_mark_text minute)
    → IsMark content (Some minute)
mark_of content minute clock is = subst (λ at. IsMark at (Some minute)) (sym is) (record { minute_is = clock; text_is = refl })

-- the minute of a second of the clock is one of its minutes
minute_in_range : (second : ℤ) → IsClockSecond second → IsClockMinute (minute_at second)
minute_in_range (pos second) clock = let high : pos second ≤ℤ LAST_SECOND = clock.high in grind (arith, ints)
minute_in_range (negsuc second) clock = omega arith

minute_of_clock : (cron : Cron) → IsClockSecond cron.now → IsClockMinute (minute_of cron)
minute_of_clock cron second = minute_in_range cron.now second

-- What a session leaves of the mark.

-- an image has nothing new, or jobs were to be submitted and it has the mark of the minute
abbrev pub IsMarkedSo : Cron → World → Files → Type 0
IsMarkedSo cron old image =
    HasNothingNew old.now.directory image
    ⊎ ((table : JobTable) × (jobs : List Job) × AreToSubmit cron (reading old) table jobs
    × (finite.get image mark_file ≡ Some (cron_mark_text (minute_of cron))))

-- the name of the mark is none that a session changes before it sets the mark
mark_is_beside : ¬ (IsSpoolOrTemp mark_file)
mark_is_beside (inl spool) = file_beside spool
mark_is_beside (inr temp) = temp_apart (sym temp)

pub unmarked_has_nothing_new : (old : World) (image : Files) → IsUnmarked old.now.directory image → HasNothingNew old.now.directory image
unmarked_has_nothing_new old image is =
    record { from = is.alone.from; was = is.alone.was; mark = is.alone.others mark_file mark_is_beside; shows = is.same }

idle_submits_nothing : (numbers : List ℕ) (old new : World) → IsCronIdle numbers old new
    → SubmitsNothing old.now.directory new.now.directory
idle_submits_nothing numbers old new idle image is =
    unmarked_has_nothing_new old image (changes_end (IsUnmarked old.now.directory) old new idle.unmarked
    (λ files was. record { alone = left_alone IsSpoolOrTemp old.now.directory files was; same = refl }) image is)

-- What it leaves of the table.

-- it reports a number, or some image shows a step of it
abbrev Accepts : List ℕ → World → World → Type 0
Accepts numbers old new = (numbers ≢ []) ⊎ ShowsAStep old.now.directory new.now.directory

shows_no_step : (old new : Directory) → SubmitsNothing old new → ShowsAStep old new → ⊥
shows_no_step old new nothing step =
    let here : HasNothingNew old step.image = nothing step.image step.is in
    step.unseen here.from here.was here.shows

idle_accepts_nothing : (numbers : List ℕ) (old new : World) → IsCronIdle numbers old new → Accepts numbers old new → ⊥
idle_accepts_nothing numbers old new idle accepts = elim accepts [
  | inl some ↦ some idle.none
  | inr step ↦ shows_no_step old.now.directory new.now.directory (idle_submits_nothing numbers old new idle) step
]

-- after a prefix of no steps an image shows the table itself
shows_still : (table : JobTable) (prefix : List Step) (image : Files) → IsPrefix prefix [] → Shows image (after_steps table prefix) →
    Shows image table
shows_still table [] image is shows = shows
shows_still table (step ∷ later) image is shows = let impossible : ◌≡◌ {A = List Step} [] (step ∷ later ++ is.0) = is.1 in cc

-- and so where no job was begun
shows_unbegun : (table : JobTable) (made next : List Job) (image : Files) → made ++ next ≡ [] →
    ShowsAfterPrefix table (submissions table.last made) (submissions (table.last + length made) next) image → Shows image table
shows_unbegun table [] [] image none shows = shows_still table shows.prefix image shows.is_prefix shows.shows
shows_unbegun table [] (job ∷ later) image none shows = let impossible : ◌≡◌ {A = List Job} (job ∷ later) [] = none in cc
shows_unbegun table (job ∷ made) next image none shows = let impossible : ◌≡◌ {A = List Job} (job ∷ made ++ next) [] = none in cc

none_made : (made next : List Job) → made ++ next ≡ [] → made ≡ []
none_made [] next none = refl
none_made (job ∷ made) next none = let impossible : ◌≡◌ {A = List Job} (job ∷ made ++ next) [] = none in cc

-- where no job was begun, it accepted none
unbegun_accepts_nothing : (cron : Cron) (numbers : List ℕ) (old new : World) (stopped : IsCronStopped cron numbers old new) →
    stopped.made ++ stopped.next ≡ [] → Accepts numbers old new → ⊥
unbegun_accepts_nothing cron numbers old new stopped none accepts = elim accepts [
  | inl some ↦ some (stopped.numbers_are
      ∙ ap (λ (made : List Job). next_numbers stopped.table.last (length made)) (none_made stopped.made stopped.next none))
  | inr step ↦ elim (stopped.ends step.image step.is) [
    | inl before ↦ step.unseen before.1.alone.from before.1.alone.was before.1.same
    | inr come ↦
        let shows : Shows step.image stopped.table =
        shows_unbegun stopped.table stopped.made stopped.next step.image none come.shows in
        step.unseen (reading old) (reading_is_image old.now.directory) (shows ∙ sym stopped.submits.are.shown)
  ]
]

whole_sets : (cron : Cron) (numbers : List ℕ) (old new : World) → IsCronDone cron numbers old new → SetsMark cron old new
whole_sets cron numbers old new whole = record {
  table = whole.table;
  jobs = whole.jobs;
  are = whole.submits.are;
  marked = λ image is. (whole.holds image is).0;
}

stopped_marks : (cron : Cron) (numbers : List ℕ) (old new : World) → IsCronStopped cron numbers old new → (image : Files) →
    IsImage new.now.directory image → IsMarkedSo cron old image
stopped_marks cron numbers old new stopped image is = elim (stopped.ends image is) [
  | inl before ↦ inl (unmarked_has_nothing_new old image before.1)
  | inr come ↦ inr (stopped.table, stopped.made ++ (stopped.next ++ stopped.later), stopped.submits.are, come.marked)
]

-- where a job was accepted, it was stopped after the mark
stopped_sets : (cron : Cron) (numbers : List ℕ) (old new : World) → Accepts numbers old new → IsCronStopped cron numbers old new →
    SetsMark cron old new
stopped_sets cron numbers old new accepts stopped = record {
  table = stopped.table;
  jobs = stopped.made ++ (stopped.next ++ stopped.later);
  are = stopped.submits.are;
  marked = λ image is. elim (stopped.ends image is) [
    | inl before ↦ absurd (unbegun_accepts_nothing cron numbers old new stopped before.0 accepts)
    | inr come ↦ come.marked
  ];
}

either_marks : (cron : Cron) (numbers : List ℕ) (old new : World) → IsCronIdle numbers old new ⊎ IsCronStopped cron numbers old new →
    (image : Files) → IsImage new.now.directory image → IsMarkedSo cron old image
either_marks cron numbers old new leaves image is = elim leaves [
  | inl idle ↦ inl (idle_submits_nothing numbers old new idle image is)
  | inr stopped ↦ stopped_marks cron numbers old new stopped image is
]

either_sets : (cron : Cron) (numbers : List ℕ) (old new : World) → Accepts numbers old new →
    IsCronIdle numbers old new ⊎ IsCronStopped cron numbers old new → SetsMark cron old new
either_sets cron numbers old new accepts leaves = elim leaves [
  | inl idle ↦ absurd (idle_accepts_nothing numbers old new idle accepts)
  | inr stopped ↦ stopped_sets cron numbers old new accepts stopped
]

-- each image of a session's end is marked so
session_marks : (cron : Cron) (numbers : List ℕ) (old new : World) (end : CronEnd) → CronLeaves cron numbers old new end →
    (image : Files) → IsImage new.now.directory image → IsMarkedSo cron old image
session_marks cron numbers old new Done leaves image is = elim leaves [
  | inl quiet ↦ inl (idle_submits_nothing numbers old new quiet.idle image is)
  | inr whole ↦ inr (whole.table, whole.jobs, whole.submits.are, (whole.holds image is).0)
]
session_marks cron numbers old new Busy leaves image is =
    inl (record { from = image; was = subst (λ (world : World). IsImage world.now.directory image) leaves.1 is; mark = refl; shows = refl })
session_marks cron numbers old new (Damaged damage) leaves image is = inl (idle_submits_nothing numbers old new leaves.1 image is)
session_marks cron numbers old new QueueFull leaves image is = inl (idle_submits_nothing numbers old new leaves.1 image is)
session_marks cron numbers old new NumbersUsedUp leaves image is = inl (idle_submits_nothing numbers old new leaves.1 image is)
session_marks cron numbers old new FileFault leaves image is = either_marks cron numbers old new leaves image is
session_marks cron numbers old new Memory leaves image is = either_marks cron numbers old new leaves image is

-- where nothing was changed at all, it accepted none
still_accepts_nothing : (numbers : List ℕ) (old new : World) → numbers ≡ [] → new ≡ old → Accepts numbers old new → ⊥
still_accepts_nothing numbers old new none same accepts = elim accepts [
  | inl some ↦ some none
  | inr step ↦ step.unseen step.image (subst (λ (world : World). IsImage world.now.directory step.image) same step.is) refl
]

-- a session that accepted a job has set the mark
session_sets : (cron : Cron) (numbers : List ℕ) (old new : World) (end : CronEnd) → Accepts numbers old new →
    CronLeaves cron numbers old new end → SetsMark cron old new
session_sets cron numbers old new Done accepts leaves = elim leaves [
  | inl quiet ↦ absurd (idle_accepts_nothing numbers old new quiet.idle accepts)
  | inr whole ↦ whole_sets cron numbers old new whole
]
session_sets cron numbers old new Busy accepts leaves = absurd (still_accepts_nothing numbers old new leaves.0 leaves.1 accepts)
session_sets cron numbers old new (Damaged damage) accepts leaves = absurd (idle_accepts_nothing numbers old new leaves.1 accepts)
session_sets cron numbers old new QueueFull accepts leaves = absurd (idle_accepts_nothing numbers old new leaves.1 accepts)
session_sets cron numbers old new NumbersUsedUp accepts leaves = absurd (idle_accepts_nothing numbers old new leaves.1 accepts)
session_sets cron numbers old new FileFault accepts leaves = either_sets cron numbers old new accepts leaves
session_sets cron numbers old new Memory accepts leaves = either_sets cron numbers old new accepts leaves

-- Over events.

-- jobs are to be submitted at a later minute than that of each mark
later_than : (minute : ℕ) (cron : Cron) (old : World) (table : JobTable) (jobs : List Job) → HasMarkFrom minute old.now.directory →
    AreToSubmit cron (reading old) table jobs → minute < minute_of cron
later_than minute cron old table jobs from are =
    let here = from.marked_in (reading old) (reading_is_image old.now.directory) in
    let marked : are.marked ≡ Some here.0 = one_mark (finite.get (reading old) mark_file) here.0 are.marked here.2 are.mark in
    let before : here.0 < minute_of cron = subst (IsMarkedBefore (minute_of cron)) marked are.before in
    let least : minute ≤ here.0 = here.1 in
    omega arith

keeps_from : (minute : ℕ) (old new : Directory) → HasMarkFrom minute old → KeepsMark old new → HasMarkFrom minute new
keeps_from minute old new from keeps = record {
  marked_in = λ image is.
      let before = keeps image is in
      let here = from.marked_in before.0 before.1 in
      (here.0, here.1, subst (λ content. IsMark content (Some here.0)) (sym before.2) here.2);
}

-- where nothing was submitted, the mark stays
nothing_keeps : (old new : Directory) → SubmitsNothing old new → KeepsMark old new
nothing_keeps old new nothing image is =
    let before : HasNothingNew old image = nothing image is in
    (before.from, before.was, before.mark)

-- where it was set, each image has the mark of its minute
sets_from : (cron : Cron) (old new : World) → IsClockSecond cron.now → SetsMark cron old new
    → HasMarkFrom (minute_of cron) new.now.directory
sets_from cron old new second sets = record {
  marked_in = λ image is. (
    minute_of cron,
    le_refl (minute_of cron),
    mark_of (finite.get image mark_file) (minute_of cron) (minute_of_clock cron second) (sets.marked image is),
  );
}

lower_from : (low high : ℕ) (directory : Directory) → low ≤ high → HasMarkFrom high directory → HasMarkFrom low directory
lower_from low high directory less from = record {
  marked_in = λ image is.
      let here = from.marked_in image is in
      let least : low ≤ here.0 = let most : high ≤ here.0 = here.1 in omega arith in
      (here.0, least, here.2);
}

-- an event keeps marks from a minute on
event_from : (minute : ℕ) (event : CronEvent) (old new : World) → HasMarkFrom minute old.now.directory → PassesAs event old new →
    HasMarkFrom minute new.now.directory
event_from minute (Ended cron end numbers) old new from passes = record {
  marked_in = λ image is. elim (session_marks cron numbers old new end passes.1 image is) [
    | inl before ↦
        let here = from.marked_in before.from before.was in
        (here.0, here.1, subst (λ content. IsMark content (Some here.0)) (sym before.mark) here.2)
    | inr come ↦
        let later : minute < minute_of cron = later_than minute cron old come.0 come.1 from come.2 in
        let least : minute ≤ minute_of cron = omega arith in
        (minute_of cron, least, mark_of (finite.get image mark_file) (minute_of cron) (minute_of_clock cron passes.0) come.3)
  ];
}
event_from minute (CutOff cron true) old new from passes =
    let later : minute < minute_of cron = later_than minute cron old passes.1.table passes.1.jobs from passes.1.are in
    let least : minute ≤ minute_of cron = omega arith in
    lower_from minute (minute_of cron) new.now.directory least (sets_from cron old new passes.0 passes.1)
event_from minute (CutOff cron false) old new from passes =
    keeps_from minute old.now.directory new.now.directory from (nothing_keeps old.now.directory new.now.directory passes)
event_from minute Beside old new from passes = keeps_from minute old.now.directory new.now.directory from passes

-- an event that may accept at a minute has set its mark
accepts_sets : (minute : ℕ) (event : CronEvent) (old new : World) → MayAcceptAt minute event old new → PassesAs event old new →
    (cron : Cron) × (minute_of cron ≡ minute) × IsClockSecond cron.now × SetsMark cron old new
accepts_sets minute (Ended cron end numbers) old new accepts passes =
    (cron, accepts.0, passes.0, session_sets cron numbers old new end accepts.1 passes.1)
accepts_sets minute (CutOff cron true) old new accepts passes = (cron, accepts.0, passes.0, passes.1)
accepts_sets minute (CutOff cron false) old new accepts passes = elim accepts.1 [
  | inl marked ↦ absurd (let impossible : false ≡ true = marked in cc)
  | inr step ↦ absurd (shows_no_step old.now.directory new.now.directory passes step)
]
accepts_sets minute Beside old new accepts passes = absurd accepts

-- and none does where each image has a mark from the minute on
none_accepts : (minute : ℕ) (events : List CronPassed) (old : World) → HasMarkFrom minute old.now.directory → CronPassFrom old events →
    NoneAcceptsAt minute old events
none_accepts minute [] old from pass = tt
none_accepts minute (passed ∷ later) old from pass = (
  λ accepts.
      let set = accepts_sets minute passed.event old passed.left accepts pass.0 in
      let after : minute < minute_of set.0 = later_than minute set.0 old set.3.table set.3.jobs from set.3.are in
      let same : minute_of set.0 ≡ minute = set.1 in
      omega arith,
  none_accepts minute later passed.left (event_from minute passed.event old passed.left from pass.0) pass.1,
)

pub no_minute_comes_twice : NoMinuteComesTwice
no_minute_comes_twice [] old pass = tt
no_minute_comes_twice (passed ∷ later) old pass = (
  λ minute accepts.
      let set = accepts_sets minute passed.event old passed.left accepts pass.0 in
      let from : HasMarkFrom minute passed.left.now.directory =
      subst (λ least. HasMarkFrom least passed.left.now.directory) set.1 (sets_from set.0 old passed.left set.2 set.3) in
      none_accepts minute later passed.left from pass.1,
  no_minute_comes_twice later passed.left pass.1,
)
