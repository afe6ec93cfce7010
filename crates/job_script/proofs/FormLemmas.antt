-- The lines of a job text, read from its start.
use Rattle.std.proofs.Common.{◌≡◌, ◌≢◌, ◌<◌, ℕ, true, false, inl, inr, List, [], ◌∷◌, ◌++◌, IsTrue, Option, Some, None, Bor, length, take, drop, codes, refl, sym, ap, subst, ◌∙◌, arith, drop-cons}
use Rattle.std.specs.Option.{MatchOption}
use Rattle.std.specs.List.{list_all}
use Rattle.std.proofs.lemmas.Bool.{cases_lt}
use Rattle.std.proofs.lemmas.List.{append_assoc, append_cancel_left, drop_all, get_or-take, length-take-le, take-append-drop}
use Rattle.job_script.specs.inside.Prefixes.{HasLines, HasDirectory, IsLinePrefix, IsQuotedPrefix, IsNameRun}
use Rattle.job_script.specs.JobText.{quoted, variable_line, variable_lines}
use Rattle.job_script.specs.Variables.{has_no_zero, is_kept_variable, is_variable_byte, may_be_set}
use Rattle.job_script.proofs.PrefixLemmas.{no_backslash, same_quoted}
use Rattle.job_script.proofs.MeaningLemmas.{SameLine, after_name, line_parts, name_bytes, no_line, same_line}
use Rattle.job_script.proofs.RunLemmas.{Ends, both_hold, hold_both, pass_by_place, same_run}
use Rattle.job_script.proofs.WordLemmas.{quoted_word}

-- the name that was read, and what is after it
pub record ReadsName (bytes name rest : List ℕ) (count : ℕ) : Type 0 where
  pub runs : IsNameRun bytes count
  pub prefix : name ≡ take count bytes
  pub back : rest ≡ drop count bytes

-- the name and what is after it are all
name_and_rest : (bytes name rest : List ℕ) (count : ℕ) → ReadsName bytes name rest count → bytes ≡ name ++ rest
name_and_rest bytes name rest count r =
    sym (take-append-drop count bytes) ∙ (λ i. sym r.prefix i ++ sym r.back i)

-- the bytes of the name may be in one
read_passes : (bytes name rest : List ℕ) (count : ℕ) → ReadsName bytes name rest count → IsTrue (list_all is_variable_byte name)
read_passes bytes name rest count r =
    let long : length (take count bytes) ≡ count = length-take-le count bytes r.runs.within in
    subst (λ (it : List ℕ). IsTrue (list_all is_variable_byte it)) (sym r.prefix)
    (pass_by_place is_variable_byte (take count bytes) (λ k below.
    let inside : k < count = omega arith in
    subst (λ (byte : ℕ). IsTrue (is_variable_byte byte)) (sym (get_or-take count bytes k 0 inside)) (r.runs.each k inside)))

-- the name goes on no further
read_ends : (bytes name rest : List ℕ) (count : ℕ) → ReadsName bytes name rest count → Ends is_variable_byte rest
read_ends bytes name rest count r =
    elim (cases_lt count (length bytes)) [
      | inl more ↦ subst (λ (it : List ℕ). Ends is_variable_byte it) (sym (r.back ∙ drop-cons bytes count 0 more)) (r.runs.stops more)
      | inr all ↦ subst (λ (it : List ℕ). Ends is_variable_byte it) (sym (r.back ∙ drop_all count bytes all)) tt
    ]

-- what is kept is allowed
kept_holds : (variable : List ℕ × List ℕ) → IsTrue (is_kept_variable variable) → IsTrue (may_be_set variable.0)
kept_holds variable keeps = (both_hold (may_be_set variable.0) (has_no_zero variable.1) keeps).0

-- what is kept has no zero byte
kept_has_no_zero : (variable : List ℕ × List ℕ) → IsTrue (is_kept_variable variable) → IsTrue (has_no_zero variable.1)
kept_has_no_zero variable keeps = (both_hold (may_be_set variable.0) (has_no_zero variable.1) keeps).1

-- the name of a line that is there is the one that was read
record SameName (name rest other value more : List ℕ) : Type 0 where
  names : name ≡ other
  goes_on : rest ≡ after_name other (quoted value) more

same_name : (bytes name rest more : List ℕ) (count : ℕ) → ReadsName bytes name rest count → (f : IsLinePrefix bytes more)
    → SameName name rest f.variable.0 f.variable.1 more
same_name bytes name rest more count r f =
    let both : (name ≡ f.variable.0) × (rest ≡ after_name f.variable.0 (quoted f.variable.1) more) =
    same_run is_variable_byte name f.variable.0 rest (after_name f.variable.0 (quoted f.variable.1) more)
    (read_passes bytes name rest count r) (name_bytes f.variable.0 (kept_holds f.variable f.keeps))
    (read_ends bytes name rest count r) refl
    (sym (name_and_rest bytes name rest count r) ∙ f.text ∙ line_parts f.variable.0 (quoted f.variable.1) more) in
    record { names = both.0; goes_on = both.1 }

-- no line is there where the name is not allowed
pub no_name : (bytes name rest : List ℕ) (count : ℕ) → ReadsName bytes name rest count → false ≡ may_be_set name
    → (more : List ℕ) → ¬ IsLinePrefix bytes more
no_name bytes name rest count r bad more f =
    let s : SameName name rest f.variable.0 f.variable.1 more = same_name bytes name rest more count r f in
    let good : IsTrue (may_be_set f.variable.0) = kept_holds f.variable f.keeps in
    cc (bad, good, ap may_be_set s.names)

-- no line is there where no sign does
pub no_sign : (bytes name rest : List ℕ) (count : ℕ) → ReadsName bytes name rest count
    → ((word : List ℕ) → rest ≢ (61 ∷ []) ++ word) → (more : List ℕ) → ¬ IsLinePrefix bytes more
no_sign bytes name rest count r none more f =
    none (quoted f.variable.1 ++ (codes "; export " ++ (f.variable.0 ++ (10 ∷ more))))
    (same_name bytes name rest more count r f).goes_on

-- the word of a line that is there
line_word : (bytes name rest word more : List ℕ) (count : ℕ) → ReadsName bytes name rest count → rest ≡ (61 ∷ []) ++ word
    → (f : IsLinePrefix bytes more) → IsQuotedPrefix word (codes "; export " ++ (f.variable.0 ++ (10 ∷ more)))
line_word bytes name rest word more count r sign f = record {
  value = f.variable.1;
  no_zero = kept_has_no_zero f.variable f.keeps;
  text = cc (sym sign ∙ (same_name bytes name rest more count r f).goes_on);
  ends = no_backslash 59 (codes " export " ++ (f.variable.0 ++ (10 ∷ more))) (λ same. omega arith);
}

-- no line is there where no word does
pub no_word : (bytes name rest word : List ℕ) (count : ℕ) → ReadsName bytes name rest count → rest ≡ (61 ∷ []) ++ word
    → ((export : List ℕ) → ¬ IsQuotedPrefix word export) → (more : List ℕ) → ¬ IsLinePrefix bytes more
no_word bytes name rest word count r sign none more f =
    none (codes "; export " ++ (f.variable.0 ++ (10 ∷ more))) (line_word bytes name rest word more count r sign f)

-- what is after the word of a line that is there
after_line_word : (bytes name rest word export more : List ℕ) (count : ℕ) → ReadsName bytes name rest count
    → rest ≡ (61 ∷ []) ++ word → IsQuotedPrefix word export → IsLinePrefix bytes more
    → export ≡ codes "; export " ++ (name ++ (10 ∷ more))
after_line_word bytes name rest word export more count r sign q f =
    (same_quoted word export (codes "; export " ++ (f.variable.0 ++ (10 ∷ more))) q
    (line_word bytes name rest word more count r sign f)).rest
    ∙ ap (λ (it : List ℕ). codes "; export " ++ (it ++ (10 ∷ more))) (sym (same_name bytes name rest more count r f).names)

-- no line is there where nothing is exported
pub no_export : (bytes name rest word export : List ℕ) (count : ℕ) → ReadsName bytes name rest count
    → rest ≡ (61 ∷ []) ++ word → IsQuotedPrefix word export → ((again : List ℕ) → export ≢ codes "; export " ++ again)
    → (more : List ℕ) → ¬ IsLinePrefix bytes more
no_export bytes name rest word export count r sign q none more f =
    none (name ++ (10 ∷ more)) (after_line_word bytes name rest word export more count r sign q f)

-- the name again, in a line that is there
again_is : (bytes name rest word export again more : List ℕ) (count : ℕ) → ReadsName bytes name rest count
    → rest ≡ (61 ∷ []) ++ word → IsQuotedPrefix word export → export ≡ codes "; export " ++ again → IsLinePrefix bytes more
    → again ≡ name ++ (10 ∷ more)
again_is bytes name rest word export again more count r sign q exports f =
    append_cancel_left (codes "; export ") again (name ++ (10 ∷ more))
    (sym exports ∙ after_line_word bytes name rest word export more count r sign q f)

-- no line is there where the name isn't exported
pub no_again : (bytes name rest word export again : List ℕ) (count : ℕ) → ReadsName bytes name rest count
    → rest ≡ (61 ∷ []) ++ word → IsQuotedPrefix word export → export ≡ codes "; export " ++ again
    → ((end : List ℕ) → again ≢ name ++ end) → (more : List ℕ) → ¬ IsLinePrefix bytes more
no_again bytes name rest word export again count r sign q exports none more f =
    none (10 ∷ more) (again_is bytes name rest word export again more count r sign q exports f)

-- the newline ends the line of a variable, or none is there
pub line_read : (bytes name rest word export again end : List ℕ) (count : ℕ) (after : Option (Bor (List ℕ)))
    → ReadsName bytes name rest count → may_be_set name ≡ true → rest ≡ (61 ∷ []) ++ word → IsQuotedPrefix word export
    → export ≡ codes "; export " ++ again → again ≡ name ++ end
    → MatchOption after ((more : List ℕ) → end ≢ (10 ∷ []) ++ more) (λ more. end ≡ (10 ∷ []) ++ more.now)
    → MatchOption after ((more : List ℕ) → ¬ IsLinePrefix bytes more) (λ more. IsLinePrefix bytes more.now)
line_read bytes name rest word export again end count (Some more) r may sign q exports named ends = record {
  variable = (name, q.value);
  keeps = hold_both (may_be_set name) (has_no_zero q.value) may q.no_zero;
  text = name_and_rest bytes name rest count r ∙ ap (λ (it : List ℕ). name ++ it) (sign ∙ ap (λ (it : List ℕ). 61 ∷ it)
      (q.text ∙ ap (λ (it : List ℕ). quoted q.value ++ it) (exports
      ∙ ap (λ (it : List ℕ). codes "; export " ++ it) (named ∙ ap (λ (it : List ℕ). name ++ it) ends))))
      ∙ sym (line_parts name (quoted q.value) more.now);
}
line_read bytes name rest word export again end count None r may sign q exports named ends =
    λ more f. ends more (append_cancel_left name end (10 ∷ more)
    (sym named ∙ again_is bytes name rest word export again more count r sign q exports f))

-- one more line before lines
pub lines_before : (bytes more : List ℕ) → IsLinePrefix bytes more → HasLines more → HasLines bytes
lines_before bytes more f h = record {
  variables = f.variable ∷ h.variables;
  keeps = hold_both (is_kept_variable f.variable) (list_all is_kept_variable h.variables) f.keeps h.keeps;
  rest = h.rest;
  change = h.change;
  text = f.text ∙ ap (λ (it : List ℕ). variable_line f.variable.0 (quoted f.variable.1) ++ it) h.text
      ∙ sym (append_assoc (variable_line f.variable.0 (quoted f.variable.1)) (variable_lines h.variables) h.rest);
}

-- the lines after the first
lines_after_by : (bytes more rest : List ℕ) (variables : List (List ℕ × List ℕ)) → IsLinePrefix bytes more
    → IsTrue (list_all is_kept_variable variables) → HasDirectory rest → bytes ≡ variable_lines variables ++ rest → HasLines more
lines_after_by bytes more rest [] f keeps p same =
    absurd (no_line f.variable.0 (quoted f.variable.1) (quoted p.directory) more p.commands
    (kept_holds f.variable f.keeps) (sym f.text ∙ same ∙ p.text))
lines_after_by bytes more rest (v ∷ variables) f keeps p same =
    let each = both_hold (is_kept_variable v) (list_all is_kept_variable variables) keeps in
    let line : SameLine f.variable.0 v.0 f.variable.1 v.1 more (variable_lines variables ++ rest) =
    same_line f.variable.0 v.0 (quoted f.variable.1) (quoted v.1) f.variable.1 v.1 more (variable_lines variables ++ rest)
    (kept_holds f.variable f.keeps) (kept_holds v each.0) (quoted_word f.variable.1) (quoted_word v.1)
    (sym f.text ∙ same ∙ append_assoc (variable_line v.0 (quoted v.1)) (variable_lines variables) rest) in
    record { variables = variables; keeps = each.1; rest = rest; change = p; text = line.rest }

pub lines_after : (bytes more : List ℕ) → IsLinePrefix bytes more → HasLines bytes → HasLines more
lines_after bytes more f h = lines_after_by bytes more h.rest h.variables f h.keeps h.change h.text

-- where the directory is changed at once, no lines come before
pub no_lines : (bytes : List ℕ) → HasDirectory bytes → HasLines bytes
no_lines bytes p = record { variables = []; keeps = refl; rest = bytes; change = p; text = refl }

-- where there is no line of a variable, the directory is changed at once
only_directory_by : (bytes rest : List ℕ) (variables : List (List ℕ × List ℕ)) → ((more : List ℕ) → ¬ IsLinePrefix bytes more)
    → IsTrue (list_all is_kept_variable variables) → HasDirectory rest → bytes ≡ variable_lines variables ++ rest → HasDirectory bytes
only_directory_by bytes rest [] none keeps p same = subst HasDirectory (sym same) p
only_directory_by bytes rest (v ∷ variables) none keeps p same =
    absurd (none (variable_lines variables ++ rest) (record {
      variable = v;
      keeps = (both_hold (is_kept_variable v) (list_all is_kept_variable variables) keeps).0;
      text = same ∙ append_assoc (variable_line v.0 (quoted v.1)) (variable_lines variables) rest;
    }))

pub only_directory : (bytes : List ℕ) → ((more : List ℕ) → ¬ IsLinePrefix bytes more) → HasLines bytes → HasDirectory bytes
only_directory bytes none h = only_directory_by bytes h.rest h.variables none h.keeps h.change h.text
