-- The lines of a listing, one after another.
use Rattle.std.proofs.Common.{◌≡◌, ◌∙◌, ◌≤◌, ◌<◌, ◌+◌, ◌*◌, ◌==◌, ◌++◌, [], ◌∷◌, ℕ, pos, true, false, List, All, length, take, get_or, refl, sym, ap, subst, arith, append_assoc, append-nil}
use Rattle.std.proofs.lemmas.Bool.Decides.{nat_tests}
use Rattle.std.proofs.lemmas.List.{take_more}
use Rattle.civil_minute.specs.Civil.{IsCivilTime}
use Rattle.civil_minute.specs.declared.civil.CivilMinute.{CivilMinute}
use Rattle.listing_text.specs.Date.{date_text_of}
use Rattle.host_calls.specs.ClockRange.{IsClockMinute}
use Rattle.host_calls.specs.declared.clock_seconds.TheConstants.{LAST_MINUTE}
use Rattle.civil_minute.specs.declared.zone.Zone.{Zone}
use Rattle.cron_text.specs.declared.entry.CronEntry.{CronEntry}
use Rattle.cron_turn.specs.Schedule.{AreNextDue, end_of_search}
use Rattle.cron_turn.specs.Listing.{AreMinuteLines, IsCronListing, ListsEntry, ShowsMinute, ShowsMinutes, entry_more, line_more, never, no_entry, no_line, dated_line}
use Rattle.cron_turn.specs.inside.AddedLines.{Adds}

-- nothing was added yet
pub no_lines : (zone : Zone) (command text : List ℕ) → Adds (AreMinuteLines zone command []) text text
no_lines zone command text = ([], no_line, sym (append-nil text))

-- the line of one minute more
pub lines_more : (zone : Zone) (command start text after : List ℕ) (minutes : List ℕ) (index minute : ℕ) → index < length minutes
    → minute ≡ get_or minutes index 0
    → Adds (AreMinuteLines zone command (take index minutes)) start text → Adds (ShowsMinute zone command minute) text after
    → Adds (AreMinuteLines zone command (take (index + 1) minutes)) start after
lines_more zone command start text after minutes index minute within is so_far next = (
  so_far.0 ++ next.0,
  subst (λ list. AreMinuteLines zone command list (so_far.0 ++ next.0))
      (sym (take_more minutes index 0 within ∙ ap (λ m. take index minutes ++ m ∷ []) (sym is)))
      (line_more (take index minutes) so_far.0 next.0 minute so_far.1 next.1),
  next.2 ∙ ap (λ before. before ++ next.0) so_far.2 ∙ append_assoc start so_far.0 next.0,
)

-- the lines of one more entry
pub entries_more : (zone : Zone) (from count : ℕ) (text after : List ℕ) (entries : List CronEntry) (index : ℕ) (entry : CronEntry)
    → index < length entries
    → entry ≡ get_or entries index entry → IsCronListing zone from count (take index entries) text
    → Adds (ListsEntry zone from count entry) text after
    → IsCronListing zone from count (take (index + 1) entries) after
entries_more zone from count text after entries index entry within is so_far next =
    rw (next.2)
    (subst (λ list. IsCronListing zone from count list (text ++ next.0))
    (sym (take_more entries index entry within ∙ ap (λ e. take index entries ++ e ∷ []) (sym is)))
    (entry_more (take index entries) entry text next.0 so_far next.1))

-- the minutes that were found are of the clock
in_range : (from : ℕ) → from ≤ LAST_MINUTE + 1 → end_of_search from ≤ LAST_MINUTE + 1
in_range from few = grind (arith, nat_tests)

pub minutes_in_range : (zone : Zone) (entry : CronEntry) (from count : ℕ) (minutes : List ℕ) → from ≤ LAST_MINUTE + 1
    → AreNextDue zone entry from count minutes → All IsClockMinute minutes
minutes_in_range zone entry from count minutes few are k d lt = omega (arith, in_range from few, are.within, (are.are.due k d lt).early)

-- the lines of the minutes that were found, or the line that there is none
shows_some : (zone : Zone) (command : List ℕ) (minutes text : List ℕ) → (length minutes == 0) ≡ false
    → AreMinuteLines zone command minutes text → ShowsMinutes zone command minutes text
shows_some zone command [] text some lines = cc
shows_some zone command (minute ∷ later) text some lines = lines

pub some_found : (zone : Zone) (command minutes old new : List ℕ) → (length minutes == 0) ≡ false
    → Adds (AreMinuteLines zone command minutes) old new → Adds (ShowsMinutes zone command minutes) old new
some_found zone command minutes old new some adds = (adds.0, shows_some zone command minutes adds.0 some adds.1, adds.2)

shows_none : (zone : Zone) (command : List ℕ) (minutes : List ℕ) → (length minutes == 0) ≡ true
    → ShowsMinutes zone command minutes (dated_line never command)
shows_none zone command [] none = refl
shows_none zone command (minute ∷ later) none = absurd (grind (arith, nat_tests))

pub none_found : (zone : Zone) (command minutes old new : List ℕ) → (length minutes == 0) ≡ true → new ≡ old ++ dated_line never command
    → Adds (ShowsMinutes zone command minutes) old new
none_found zone command minutes old new none is = (dated_line never command, shows_none zone command minutes none, is)

-- the line of one minute
pub minute_line : (zone : Zone) (command old new date : List ℕ) (minute : ℕ) (civil : CivilMinute)
    → IsCivilTime zone (pos (60 * minute)) civil → date ≡ date_text_of civil
    → new ≡ old ++ dated_line date command → Adds (ShowsMinute zone command minute) old new
minute_line zone command old new date minute civil shown is added =
    (dated_line date command, record { civil = civil; shown = shown; line_is = ap (λ when. dated_line when command) is }, added)

-- the lines of an entry
pub entry_lines : (zone : Zone) (entry : CronEntry) (from count : ℕ) (minutes found command old new : List ℕ)
    → AreNextDue zone entry from count minutes → found ≡ minutes → command ≡ entry.command
    → Adds (ShowsMinutes zone command found) old new → Adds (ListsEntry zone from count entry) old new
entry_lines zone entry from count minutes found command old new are same is adds = (
  adds.0,
  record {
    minutes = minutes;
    are = are;
    shows = subst (λ (of : List ℕ). ShowsMinutes zone of minutes adds.0) is
        (subst (λ (list : List ℕ). ShowsMinutes zone command list adds.0) same adds.1);
  },
  adds.2,
)
