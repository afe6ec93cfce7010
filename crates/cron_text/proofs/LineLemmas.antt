-- The reader of a crontab reads its lines, one after another.
use Rattle.std.proofs.Common.{◌≡◌, ◌∙◌, ℕ, ◌+◌, ◌≤◌, inl, inr, List, [], ◌∷◌, ◌++◌, length, drop, Option, Some, None, Result, Ok, Err, refl, sym, ap, subst, arith, append_assoc, append-nil}
use Rattle.std.proofs.lemmas.List.{at_drop_all}
use Rattle.text_reader.specs.Lines.{lines_of}
use Rattle.cron_text.specs.Crontab.{AreCrontabLines, no_line, ignored, an_entry, SpellsCrontab, IsFirstBad}
use Rattle.cron_text.specs.Entry.{IsBadLine, is_ignored}
use Rattle.cron_text.specs.declared.entry.CronEntry.{CronEntry}
use Rattle.cron_text.specs.inside.Reader.{lines_in, with_line}
use Rattle.cron_text.proofs.ElementLemmas.{IsNextOf, at_next}
use Rattle.cron_text.proofs.EntryLemmas.{IsGoodLine, good_line, bad_line, bad_line_is, ignored_line, entry_line}

-- what lines were read as
abbrev pub Lines : Type 0
Lines = Result (List CronEntry) ℕ

lines_in-good : (entries : List CronEntry) (count : ℕ) (line : List ℕ) (lines : List (List ℕ)) (more : List CronEntry)
    → with_line entries line ≡ Some more
    → lines_in entries count (line ∷ lines) ≡ lines_in more (count + 1) lines
unfolding lines_in
lines_in-good entries count line lines more e = rw (e, lines_in) refl

lines_in-bad : (entries : List CronEntry) (count : ℕ) (line : List ℕ) (lines : List (List ℕ)) → with_line entries line ≡ None
    → lines_in entries count (line ∷ lines) ≡ Err (count + 1)
unfolding lines_in
lines_in-bad entries count line lines e = rw (e, lines_in) refl

-- one more line
pub lines-more : (entries : List CronEntry) (count : ℕ) (lines : List (List ℕ)) (place : ℕ) (line : List ℕ) (more : List CronEntry)
    → IsNextOf lines place line → with_line entries line ≡ Some more
    → lines_in entries count (drop place lines) ≡ lines_in more (count + 1) (drop (place + 1) lines)
lines-more entries count lines place line more next e =
    at_next (lines_in entries count) lines place line next ∙ lines_in-good entries count line _ more e

pub lines-bad : (entries : List CronEntry) (count : ℕ) (lines : List (List ℕ)) (place : ℕ) (line : List ℕ)
    → IsNextOf lines place line → with_line entries line ≡ None
    → lines_in entries count (drop place lines) ≡ Err (count + 1)
lines-bad entries count lines place line next e =
    at_next (lines_in entries count) lines place line next ∙ lines_in-bad entries count line _ e

pub lines-end : {P : Type 0} (entries : List CronEntry) (count : ℕ) (lines : List (List ℕ)) (place : ℕ) → P × (place ≡ length lines)
    → lines_in entries count (drop place lines) ≡ Ok entries
unfolding lines_in
lines-end entries count lines place ended =
    let all : length lines ≤ place = omega (arith, ended.1) in at_drop_all (lines_in entries count) lines place all

same_Ok : (one two : List CronEntry) → ◌≡◌ {A = Lines} (Ok one) (Ok two) → one ≡ two
same_Ok one two e = cc

same_Err : (one two : ℕ) → ◌≡◌ {A = Lines} (Err one) (Err two) → one ≡ two
same_Err one two e = cc

no_Ok : (entries : List CronEntry) (number : ℕ) → ¬ (◌≡◌ {A = Lines} (Ok entries) (Err number))
no_Ok entries number e = cc

-- the lines spell what was read of them
abbrev Reads : List CronEntry → List (List ℕ) → List CronEntry → Type 0
Reads entries lines all = (more : List CronEntry) × AreCrontabLines lines more × (all ≡ entries ++ more)

lines_sound : (entries : List CronEntry) (count : ℕ) (lines : List (List ℕ)) (all : List CronEntry) → lines_in entries count lines ≡ Ok all
    → Reads entries lines all
unfolding lines_in
lines_sound entries count [] all e = ([], no_line, sym (same_Ok _ _ e) ∙ sym (append-nil entries))
lines_sound entries count (line ∷ lines) all e = go (λ more. lines_sound more (count + 1) lines all) (with_line entries line) refl
  where
    next : (more : List CronEntry) → IsGoodLine entries line more → Reads more lines all → Reads entries (line ∷ lines) all
    next more (inl (is_ignored, same)) (rest, are, reads) = (rest, ignored line is_ignored are, reads ∙ ap (λ es. es ++ rest) (sym same))
    next more (inr (entry, spelled, same)) (rest, are, reads) =
        (entry ∷ rest, an_entry line entry spelled are, reads ∙ ap (λ es. es ++ rest) (sym same) ∙ append_assoc entries (entry ∷ []) rest)

    go : ((more : List CronEntry) → lines_in more (count + 1) lines ≡ Ok all → Reads more lines all)
        → (o : Option (List CronEntry)) → with_line entries line ≡ o → Reads entries (line ∷ lines) all
    go others (Some more) read =
        next more (good_line entries line more read) (others more (sym (lines_in-good entries count line lines more read) ∙ e))
    go others None read = absurd (no_Ok all (count + 1) (sym e ∙ lines_in-bad entries count line lines read))

-- the lines before the first bad one
record StopsAt (count : ℕ) (lines : List (List ℕ)) (number : ℕ) : Type 0 where
  before : List (List ℕ)
  bad : List ℕ
  after : List (List ℕ)
  entries : List CronEntry
  same : lines ≡ before ++ bad ∷ after
  good : AreCrontabLines before entries
  is_bad : IsBadLine bad
  counted : number ≡ count + length before + 1

lines_stop : (entries : List CronEntry) (count : ℕ) (lines : List (List ℕ)) (number : ℕ) → lines_in entries count lines ≡ Err number
    → StopsAt count lines number
unfolding lines_in
lines_stop entries count [] number e = absurd (no_Ok entries number e)
lines_stop entries count (line ∷ lines) number e = go (λ more. lines_stop more (count + 1) lines number) (with_line entries line) refl
  where
    next : (more : List CronEntry) → IsGoodLine entries line more → StopsAt (count + 1) lines number → StopsAt count (line ∷ lines) number
    next more (inl (is_ignored, same)) stops =
        let counted = stops.counted in
        record {
          before = line ∷ stops.before;
          bad = stops.bad;
          after = stops.after;
          entries = stops.entries;
          same = ap (λ ls. line ∷ ls) stops.same;
          good = ignored line is_ignored stops.good;
          is_bad = stops.is_bad;
          counted = omega arith;
        }
    next more (inr (entry, spelled, same)) stops =
        let counted = stops.counted in
        record {
          before = line ∷ stops.before;
          bad = stops.bad;
          after = stops.after;
          entries = entry ∷ stops.entries;
          same = ap (λ ls. line ∷ ls) stops.same;
          good = an_entry line entry spelled stops.good;
          is_bad = stops.is_bad;
          counted = omega arith;
        }

    go : ((more : List CronEntry) → lines_in more (count + 1) lines ≡ Err number → StopsAt (count + 1) lines number)
        → (o : Option (List CronEntry)) → with_line entries line ≡ o → StopsAt count (line ∷ lines) number
    go others (Some more) read =
        next more (good_line entries line more read) (others more (sym (lines_in-good entries count line lines more read) ∙ e))
    go others None read =
        let number_is = same_Err (count + 1) number (sym (lines_in-bad entries count line lines read) ∙ e) in
        record {
          before = [];
          bad = line;
          after = lines;
          entries = [];
          same = refl;
          good = no_line;
          is_bad = bad_line entries line read;
          counted = omega arith;
        }

lines_complete : (entries : List CronEntry) (count : ℕ) (lines : List (List ℕ)) (more : List CronEntry) → AreCrontabLines lines more
    → lines_in entries count lines ≡ Ok (entries ++ more)
unfolding lines_in
lines_complete entries count [] [] no_line = ap Ok (sym (append-nil entries))
lines_complete entries count [] (entry ∷ more) are = elim are [ ]
lines_complete entries count (line ∷ lines) more (ignored _ is_ignored are) =
    lines_in-good entries count line lines entries (ignored_line entries line is_ignored)
    ∙ lines_complete entries (count + 1) lines more are
lines_complete entries count (line ∷ lines) (entry ∷ more) (an_entry _ _ spelled are) =
    lines_in-good entries count line lines (entries ++ entry ∷ []) (entry_line entries line entry spelled)
    ∙ lines_complete (entries ++ entry ∷ []) (count + 1) lines more are ∙ ap Ok (append_assoc entries (entry ∷ []) more)

bad_complete : (entries : List CronEntry) (count : ℕ) (before : List (List ℕ)) (more : List CronEntry)
    (bad : List ℕ) (after : List (List ℕ))
    → AreCrontabLines before more → IsBadLine bad → lines_in entries count (before ++ bad ∷ after) ≡ Err (count + length before + 1)
bad_complete entries count [] [] bad after no_line is_bad =
    lines_in-bad entries count bad after (bad_line_is entries bad is_bad) ∙ ap Err (omega arith)
bad_complete entries count [] (entry ∷ more) bad after are is_bad = elim are [ ]
bad_complete entries count (line ∷ before) more bad after (ignored _ is_ignored are) is_bad =
    lines_in-good entries count line (before ++ bad ∷ after) entries (ignored_line entries line is_ignored)
    ∙ bad_complete entries (count + 1) before more bad after are is_bad ∙ ap Err (omega arith)
bad_complete entries count (line ∷ before) (entry ∷ more) bad after (an_entry _ _ spelled are) is_bad =
    lines_in-good entries count line (before ++ bad ∷ after) (entries ++ entry ∷ []) (entry_line entries line entry spelled)
    ∙ bad_complete (entries ++ entry ∷ []) (count + 1) before more bad after are is_bad ∙ ap Err (omega arith)

-- what was read of a text is what it spells
pub crontab_sound : (text : List ℕ) (entries : List CronEntry) → lines_in [] 0 (lines_of text) ≡ Ok entries → SpellsCrontab text entries
crontab_sound text entries e =
    let (more, are, same) = lines_sound [] 0 (lines_of text) entries e in subst (AreCrontabLines (lines_of text)) (sym same) are

pub crontab_bad : (text : List ℕ) (number : ℕ) → lines_in [] 0 (lines_of text) ≡ Err number → IsFirstBad text number
crontab_bad text number e =
    let stops = lines_stop [] 0 (lines_of text) number e in
    let counted = stops.counted in
    record {
      before = stops.before;
      bad = stops.bad;
      after = stops.after;
      entries = stops.entries;
      lines = stops.same;
      good = stops.good;
      is_bad = stops.is_bad;
      counted = omega arith;
    }

crontab_complete : (text : List ℕ) (entries : List CronEntry) → SpellsCrontab text entries → lines_in [] 0 (lines_of text) ≡ Ok entries
crontab_complete text entries spelled = lines_complete [] 0 (lines_of text) entries spelled

first_bad_complete : (text : List ℕ) (number : ℕ) → IsFirstBad text number → lines_in [] 0 (lines_of text) ≡ Err number
first_bad_complete text number first =
    let counted = first.counted in
    let same : 0 + length first.before + 1 ≡ number = omega arith in
    rw first.lines (bad_complete [] 0 first.before first.entries first.bad first.after first.good first.is_bad ∙ ap Err same)

pub one_list : (text : List ℕ) (one two : List CronEntry) → SpellsCrontab text one → SpellsCrontab text two → one ≡ two
one_list text one two first second = same_Ok one two (sym (crontab_complete text one first) ∙ crontab_complete text two second)

pub none_bad : (text : List ℕ) (entries : List CronEntry) (line : ℕ) → SpellsCrontab text entries → ¬ IsFirstBad text line
none_bad text entries line spelled bad = no_Ok entries line (sym (crontab_complete text entries spelled) ∙ first_bad_complete text line bad)

pub one_line : (text : List ℕ) (one two : ℕ) → IsFirstBad text one → IsFirstBad text two → one ≡ two
one_line text one two first second = same_Err one two (sym (first_bad_complete text one first) ∙ first_bad_complete text two second)
