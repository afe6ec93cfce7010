-- The reader reads the spelling, and nothing else.
use Rattle.std.proofs.Common.{◌≡◌, ◌∙◌, ◌⊎◌, inl, inr, ℕ, List, ◌++◌, length, Some, subst, arith, lit≤, append_assoc}
use Rattle.touch_time.specs.inside.Reader.{read_touch, read_year, read_within, is_seconds}
use Rattle.touch_time.specs.Touch.{SpellsTouch, two_digits}
use Rattle.touch_time.specs.declared.touch.TouchTime.{TouchTime}
use Rattle.text_reader.proofs.OptionLemmas.{cond_some, and_then_some}
use Rattle.touch_time.proofs.ReaderLemmas.{HasRest, read_within_complete, read_within_sound, read_year_complete, read_year_sound, is_seconds_complete, is_seconds_sound, seconds_length}

-- the spelling as it is read, part by part
abbrev in_parts : TouchTime → List ℕ → List ℕ
in_parts time seconds = two_digits time.month ++ (two_digits time.day ++ (two_digits time.hour ++ (two_digits time.minute ++ seconds)))

has_rest : (time : TouchTime) (seconds : List ℕ) → (length seconds ≡ 0) ⊎ (length seconds ≡ 3) → HasRest (in_parts time seconds)
has_rest time seconds (inl e) = inl (rw e)
has_rest time seconds (inr e) = inr (rw e)

pub read_touch_complete : (text : List ℕ) (time : TouchTime) → SpellsTouch text time → read_touch text ≡ Some time
unfolding read_touch
read_touch_complete text time s =
    let parts : text ≡ s.year ++ in_parts time s.seconds = s.spelled ∙ simp append_assoc in
    rw (
      parts,
      read_year_complete s.year time.year (in_parts time s.seconds) s.year_spelled
          (has_rest time s.seconds (seconds_length s.seconds s.seconds_spelled)),
      read_within_complete 1 12 time.month _ s.month (lit≤ tt),
      read_within_complete 1 31 time.day _ s.day (lit≤ tt),
      read_within_complete 0 23 time.hour _ (omega arith, s.hour) (lit≤ tt),
      read_within_complete 0 59 time.minute s.seconds (omega arith, s.minute) (lit≤ tt),
      is_seconds_complete s.seconds s.seconds_spelled,
    )

pub read_touch_sound : (text : List ℕ) (time : TouchTime) → read_touch text ≡ Some time → SpellsTouch text time
unfolding read_touch
read_touch_sound text time e =
    and_then_some _ (read_year text) _ e λ year got_year e₁.
    and_then_some _ (read_within 1 12 year.1) _ e₁ λ month got_month e₂.
    and_then_some _ (read_within 1 31 month.1) _ e₂ λ day got_day e₃.
    and_then_some _ (read_within 0 23 day.1) _ e₃ λ hour got_hour e₄.
    and_then_some _ (read_within 0 59 hour.1) _ e₄ λ minute got_minute e₅.
    let read : TouchTime = record { year = year.0; month = month.0; day = day.0; hour = hour.0; minute = minute.0 } in
    let (seconds, same) = cond_some (is_seconds minute.1) read time e₅ in
    let (spelled, is_year, at_year) = read_year_sound text year.0 year.1 got_year in
    let m = read_within_sound 1 12 year.1 month.1 month.0 got_month in
    let d = read_within_sound 1 31 month.1 day.1 day.0 got_day in
    let h = read_within_sound 0 23 day.1 hour.1 hour.0 got_hour in
    let n = read_within_sound 0 59 hour.1 minute.1 minute.0 got_minute in
    let parts : text ≡ spelled ++ in_parts read minute.1 = cc (at_year, m.2, d.2, h.2, n.2) in
    let shown : SpellsTouch text read = record {
      year = spelled;
      seconds = minute.1;
      spelled = parts ∙ simp append_assoc;
      year_spelled = is_year;
      seconds_spelled = is_seconds_sound minute.1 seconds;
      month = m.0;
      day = d.0;
      hour = h.0.1;
      minute = n.0.1;
    } in
    subst (SpellsTouch text) same shown
