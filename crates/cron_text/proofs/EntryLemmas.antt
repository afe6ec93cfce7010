-- The reader of an entry reads its spelling, and nothing else.
use Rattle.std.proofs.Common.{◌≡◌, ◌∙◌, ℕ, ◌==◌, ◌⊎◌, inl, inr, Bool, true, false, cond, List, [], ◌∷◌, ◌++◌, Option, Some, None, option_map, refl, sym, ap, subst, eqb-true}
use Rattle.std.proofs.lemmas.Option.{none-some, same_Some}
use Rattle.std.specs.List.{onto_first}
use Rattle.text_reader.specs.Blanks.{after_blanks, is_blank}
use Rattle.cron_text.specs.Entry.{BeginsWithField, IsBadLine, SpellsEntry, is_command, is_empty_or_comment, is_ignored}
use Rattle.cron_text.specs.declared.entry.CronEntry.{CronEntry}
use Rattle.cron_text.specs.declared.entry.Schedule.{Schedule}
use Rattle.cron_text.specs.declared.field.Field.{Field}
use Rattle.cron_text.specs.inside.Reader.{number_before, digit_before, span_in, element_in, elements_in, field_in, first_in, schedule_in, line_in, entry_in_line, cron_entry, with_line}
use Rattle.text_reader.specs.ReadResult.{two_digits_in}
use Rattle.text_reader.proofs.OptionLemmas.{and_then_some, cond_some}
use Rattle.cron_text.proofs.OptionLemmas.{cond_either, map_some}
use Rattle.cron_text.proofs.FieldLemmas.{field_complete}
use Rattle.cron_text.proofs.FirstLemmas.{first_sound, first_complete}

pub entry_complete : (line : List ℕ) (entry : CronEntry) → SpellsEntry line entry → entry_in_line line ≡ Some entry
unfolding line_in schedule_in
entry_complete line entry spelled =
    rw (
      first_complete 0 59 (after_blanks line) entry.minute spelled.after_minute spelled.minute,
      first_complete 0 23 spelled.after_minute entry.hour spelled.after_hour spelled.hour,
      first_complete 1 31 spelled.after_hour entry.day spelled.after_day spelled.day,
      first_complete 1 12 spelled.after_day entry.month spelled.after_month spelled.month,
      first_complete 0 6 spelled.after_month entry.weekday entry.command spelled.weekday,
      spelled.command,
    )

pub entry_sound : (line : List ℕ) (entry : CronEntry) → entry_in_line line ≡ Some entry → SpellsEntry line entry
unfolding line_in schedule_in
entry_sound line entry e =
    let (found, got, made) = map_some (λ (found : Schedule × List ℕ). cron_entry found.0 found.1) (line_in line) entry e in
    and_then_some _ (schedule_in line) found got λ scheduled got_schedule e₁.
    let (command, kept) = cond_some (is_command scheduled.1) scheduled found e₁ in
    and_then_some _ (first_in 0 59 (after_blanks line)) scheduled got_schedule λ minute got_minute e₂.
    and_then_some _ (first_in 0 23 minute.1) scheduled e₂ λ hour got_hour e₃.
    and_then_some _ (first_in 1 31 hour.1) scheduled e₃ λ day got_day e₄.
    and_then_some _ (first_in 1 12 day.1) scheduled e₄ λ month got_month e₅.
    and_then_some _ (first_in 0 6 month.1) scheduled e₅ λ weekday got_weekday e₆.
    let schedule : Schedule = record { minute = minute.0; hour = hour.0; day = day.0; month = month.0; weekday = weekday.0 } in
    let same = same_Some (schedule, weekday.1) scheduled e₆ in
    let shown : SpellsEntry line (cron_entry schedule weekday.1) = record {
      after_minute = minute.1;
      after_hour = hour.1;
      after_day = day.1;
      after_month = month.1;
      minute = first_sound 0 59 (after_blanks line) minute.0 minute.1 got_minute;
      hour = first_sound 0 23 minute.1 hour.0 hour.1 got_hour;
      day = first_sound 1 31 hour.1 day.0 day.1 got_day;
      month = first_sound 1 12 day.1 month.0 month.1 got_month;
      weekday = first_sound 0 6 month.1 weekday.0 weekday.1 got_weekday;
      command = ap (λ (s : Schedule × List ℕ). is_command s.1) same ∙ command;
    } in
    subst (SpellsEntry line) (ap (λ (s : Schedule × List ℕ). cron_entry s.0 s.1) (same ∙ kept) ∙ made) shown

-- a number sign begins no number, and so no pattern
number_none : (rest : List ℕ) → number_before (35 ∷ rest) ≡ None
unfolding number_before digit_before two_digits_in
number_none [] = refl
number_none (byte ∷ rest) = refl

elements_none : (low high : ℕ) (parts : List (List ℕ)) → elements_in low high 0 (onto_first 35 parts) ≡ None
unfolding elements_in element_in span_in
elements_none low high [] = rw (number_none []) refl
elements_none low high (part ∷ parts) = rw (number_none part) refl

field_none : (low high : ℕ) (rest : List ℕ) → field_in low high (35 ∷ rest) ≡ None
unfolding field_in
field_none low high rest = rw (elements_none low high _) refl

-- a pattern is neither in no bytes nor at a number sign
begins_none : (low high : ℕ) (field : Field) (rest : List ℕ) → ¬ BeginsWithField low high [] field rest
begins_none low high field rest begins = go begins.pattern begins.spelled
  where
    go : (pattern : List ℕ) → ◌≡◌ {A = List ℕ} [] (pattern ++ begins.blank ∷ begins.others) → ⊥
    go [] e = cc
    go (byte ∷ pattern) e = cc

begins_comment : (low high : ℕ) (text : List ℕ) (field : Field) (rest : List ℕ) → ¬ BeginsWithField low high (35 ∷ text) field rest
begins_comment low high text field rest begins =
    go begins.pattern begins.spelled (field_complete low high begins.pattern field begins.field_spelled)
  where
    go : (pattern : List ℕ) → 35 ∷ text ≡ pattern ++ begins.blank ∷ begins.others → field_in low high pattern ≡ Some field → ⊥
    go [] e read =
        let at : 35 ≡ begins.blank = cc in
        let blank : is_blank 35 ≡ true = subst (λ (b : ℕ). is_blank b ≡ true) (sym at) begins.parted in
        cc
    go (byte ∷ pattern) e read =
        let at : byte ≡ 35 = cc in
        let read_here : field_in low high (35 ∷ pattern) ≡ Some field =
        subst (λ (b : ℕ). field_in low high (b ∷ pattern) ≡ Some field) at read in
        none-some field (sym (field_none low high pattern) ∙ read_here)

begins_counts : (low high : ℕ) (text : List ℕ) (field : Field) (rest : List ℕ) → BeginsWithField low high text field rest
    → is_empty_or_comment text ≡ false
begins_counts low high [] field rest begins = absurd (begins_none low high field rest begins)
begins_counts low high (byte ∷ text) field rest begins = go (byte == 35) refl
  where
    go : (test : Bool) → (byte == 35) ≡ test → (byte == 35) ≡ false
    go true e = absurd (begins_comment low high text field rest
        (subst (λ (b : ℕ). BeginsWithField low high (b ∷ text) field rest) (eqb-true _ _ e) begins))
    go false e = e

-- an entry is not ignored
pub entry_counts : (line : List ℕ) (entry : CronEntry) → SpellsEntry line entry → is_ignored line ≡ false
entry_counts line entry spelled = begins_counts 0 59 (after_blanks line) entry.minute spelled.after_minute spelled.minute

-- what a good line is
abbrev pub IsGoodLine : List CronEntry → List ℕ → List CronEntry → Type 0
IsGoodLine entries line more =
    ((is_ignored line ≡ true) × (entries ≡ more)) ⊎ ((entry : CronEntry) × SpellsEntry line entry × (entries ++ entry ∷ [] ≡ more))

pub good_line : (entries : List CronEntry) (line : List ℕ) (more : List CronEntry) → with_line entries line ≡ Some more
    → IsGoodLine entries line more
unfolding with_line
good_line entries line more e = go (cond_either _ _ _ _ e)
  where
    go : ((is_ignored line ≡ true) × (entries ≡ more))
        ⊎ ((is_ignored line ≡ false) × (option_map (λ (entry : CronEntry). entries ++ entry ∷ []) (entry_in_line line) ≡ Some more))
        → IsGoodLine entries line more
    go (inl ignored) = inl ignored
    go (inr (counts, read)) =
        let (entry, got, same) = map_some (λ (entry : CronEntry). entries ++ entry ∷ []) (entry_in_line line) more read in
        inr (entry, entry_sound line entry got, same)

pub ignored_line : (entries : List CronEntry) (line : List ℕ) → is_ignored line ≡ true → with_line entries line ≡ Some entries
unfolding with_line
ignored_line entries line ignored = rw ignored refl

pub entry_line : (entries : List CronEntry) (line : List ℕ) (entry : CronEntry) → SpellsEntry line entry
    → with_line entries line ≡ Some (entries ++ entry ∷ [])
unfolding with_line
entry_line entries line entry spelled = rw (entry_counts line entry spelled, entry_complete line entry spelled) refl

pub bad_line_is : (entries : List CronEntry) (line : List ℕ) → IsBadLine line → with_line entries line ≡ None
unfolding with_line
bad_line_is entries line bad = go (is_ignored line) refl (entry_in_line line) refl
  where
    go : (test : Bool) → is_ignored line ≡ test → (o : Option CronEntry) → entry_in_line line ≡ o
        → cond (is_ignored line) (Some entries) (option_map (λ (entry : CronEntry). entries ++ entry ∷ []) (entry_in_line line)) ≡ None
    go true e o _ = absurd (bad.counts e)
    go false e (Some entry) read = absurd (bad.no_entry entry (entry_sound line entry read))
    go false e None read = rw (e, read) refl

pub bad_line : (entries : List CronEntry) (line : List ℕ) → with_line entries line ≡ None → IsBadLine line
bad_line entries line e = record {
  counts = λ ignored. none-some entries (sym e ∙ ignored_line entries line ignored);
  no_entry = λ entry spelled. none-some (entries ++ entry ∷ []) (sym e ∙ entry_line entries line entry spelled);
}
