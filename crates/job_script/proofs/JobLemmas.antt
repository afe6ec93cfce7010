-- A job text, read from its start: its header, its umask, and its directory.
use Rattle.std.proofs.Common.{◌≡◌, ◌≢◌, ◌+◌, ◌↔◌, ℕ, Bool, true, false, eqb, cond, List, [], ◌∷◌, ◌++◌, IsTrue, Option, Some, None, Bor, length, get_or, drop, codes, refl, sym, ap, ◌∙◌, arith}
use Rattle.std.specs.Option.{MatchOption, is_some}
use Rattle.std.specs.List.{flat_map}
use Rattle.std.proofs.lemmas.List.{append_assoc, append_cancel_left, drop_at, length-append}
use Rattle.job_script.specs.Form.{IsJobText, JobMeaning}
use Rattle.job_script.specs.inside.Prefixes.{HasLines, HasDirectory, IsQuotedPrefix, IsUmaskPrefix}
use Rattle.job_script.specs.Header.{BeginsWithHeader, HasHeader, before_user, after_user, header_text}
use Rattle.job_script.specs.JobText.{after_directory, directory_lines, quoted, quoted_part, umask_line, variable_lines}
use Rattle.job_script.proofs.PrefixLemmas.{no_backslash, same_quoted}
use Rattle.job_script.proofs.HeaderLemmas.{eight_after, one_header}
use Rattle.job_script.proofs.MeaningLemmas.{directory_parts, same_umask}

-- a text after a test that it exists
pub slash_there : (word : List ℕ) (answer : Option (Bor (List ℕ)))
    → MatchOption answer ((more : List ℕ) → word ≢ (39 ∷ 47 ∷ []) ++ more) (λ more. word ≡ (39 ∷ 47 ∷ []) ++ more.now)
    → is_some answer ≡ true → (more : List ℕ) × (word ≡ 39 ∷ 47 ∷ more)
slash_there word (Some more) begins there = (more.now, begins)
slash_there word None begins there = absurd (cc there)

-- two bytes that differ
quote_is_no_slash : (a b : ℕ) → a ≡ 39 → b ≡ 47 → a ≡ b → ⊥
quote_is_no_slash a b one two same = omega arith

-- the first byte of a value, by whether it is a quote
first_by : (b : ℕ) (x y : List ℕ) (is_quote : Bool) → eqb b 39 ≡ is_quote
    → cond is_quote (39 ∷ 92 ∷ 39 ∷ 39 ∷ []) (b ∷ []) ++ x ≡ 47 ∷ y → b ≡ 47
first_by b x y true here same = absurd (quote_is_no_slash 39 47 refl refl (cc same))
first_by b x y false here same = cc same

-- a value whose quoted form begins with a slash begins with one
first_is_slash : (value rest more : List ℕ) → quoted value ++ rest ≡ 39 ∷ 47 ∷ more → get_or value 0 0 ≡ 47
first_is_slash [] rest more same = absurd (quote_is_no_slash 39 47 refl refl (cc same))
first_is_slash (b ∷ value) rest more same =
    let tails : ((quoted_part b ++ (flat_map quoted_part value)) ++ 39 ∷ []) ++ rest ≡ 47 ∷ more = cc same in
    first_by b ((flat_map quoted_part value ++ 39 ∷ []) ++ rest) more (eqb b 39) refl
    (sym (ap (λ (it : List ℕ). it ++ rest) (append_assoc (quoted_part b) (flat_map quoted_part value) (39 ∷ []))
    ∙ append_assoc (quoted_part b) (flat_map quoted_part value ++ 39 ∷ []) rest) ∙ tails)

-- the directory of such a text is a value that is there
pub directory_prefix : (bytes word : List ℕ) → bytes ≡ (99 ∷ 100 ∷ 32 ∷ []) ++ word → (p : HasDirectory bytes)
    → IsQuotedPrefix word (after_directory ++ p.commands)
directory_prefix bytes word prefix p = record {
  value = p.directory;
  no_zero = p.path.no_zero;
  text = append_cancel_left (codes "cd ") word (quoted p.directory ++ (after_directory ++ p.commands))
      (sym prefix ∙ p.text ∙ directory_parts (quoted p.directory) p.commands);
  ends = no_backslash 32 (drop 1 after_directory ++ p.commands) (λ same. omega arith);
}

-- what is after the directory says whether it is such a text
pub directory_read : (bytes word more rest : List ℕ) (answer : Option (Bor (List ℕ))) (result : Bool)
    → bytes ≡ (99 ∷ 100 ∷ 32 ∷ []) ++ word → word ≡ 39 ∷ 47 ∷ more → IsQuotedPrefix word rest
    → MatchOption answer ((end : List ℕ) → rest ≢ after_directory ++ end) (λ end. rest ≡ after_directory ++ end.now)
    → result ≡ is_some answer → IsTrue result ↔ HasDirectory bytes
directory_read bytes word more rest (Some end) result prefix slash q ends there = (
  (λ holds. record {
    directory = q.value;
    path = record { slash = first_is_slash q.value rest more (sym q.text ∙ slash); no_zero = q.no_zero };
    commands = end.now;
    text = prefix ∙ ap (λ (it : List ℕ). codes "cd " ++ it) (q.text ∙ ap (λ (it : List ℕ). quoted q.value ++ it) ends)
        ∙ sym (directory_parts (quoted q.value) end.now);
  }),
  λ place. there,
)
directory_read bytes word more rest None result prefix slash q ends there = (
  (λ holds. absurd (cc (holds, there))),
  λ place. absurd (ends place.commands
      (same_quoted word rest (after_directory ++ place.commands) q (directory_prefix bytes word prefix place)).rest),
)

-- the length of a header
length-header : (user : List ℕ) (mail : Bool) → length (header_text user mail) ≡ 28 + length user
length-header user mail =
    omega (arith, length-append before_user (user ++ after_user mail), length-append user (after_user mail), eight_after mail)

-- what is after the header that was read
pub after_header : (bytes rest user : List ℕ) (mail : Bool) (h : BeginsWithHeader bytes user mail)
    → rest ≡ drop (28 + length user) bytes → rest ≡ h.rest
after_header bytes rest user mail h back =
    back ∙ ap (λ (it : List ℕ). drop (28 + length user) it) h.text
    ∙ drop_at (header_text user mail) h.rest (28 + length user) (length-header user mail)

-- the lines of a job after its umask
abbrev pub lines_of : JobMeaning → List ℕ
lines_of job = variable_lines job.variables ++ (directory_lines (quoted job.directory) ++ job.commands)

-- what is after the header of a job text
job_after : (bytes user : List ℕ) (mail : Bool) (h : BeginsWithHeader bytes user mail) (j : IsJobText bytes)
    → h.rest ≡ umask_line j.job.umask ++ lines_of j.job
job_after bytes user mail h j =
    let rest : List ℕ = umask_line j.job.umask ++ lines_of j.job in
    let same : (user ≡ j.job.user) × (mail ≡ j.job.mail) =
    one_header bytes user j.job.user mail j.job.mail h (record { name = j.meant.name; rest = rest; text = j.text }) in
    append_cancel_left (header_text user mail) h.rest rest
    (sym h.text ∙ j.text ∙ sym (λ i. header_text (same.0 i) (same.1 i) ++ rest))

-- a job text begins with a header
pub job_has_header : (bytes : List ℕ) → IsJobText bytes → HasHeader bytes
job_has_header bytes j = record {
  user = j.job.user;
  mail = j.job.mail;
  header = record { name = j.meant.name; rest = umask_line j.job.umask ++ lines_of j.job; text = j.text };
}

-- a job text sets a umask after its header
pub job_has_umask : (bytes rest user : List ℕ) (mail : Bool) (h : BeginsWithHeader bytes user mail)
    → rest ≡ drop (28 + length user) bytes → (j : IsJobText bytes) → IsUmaskPrefix rest (lines_of j.job)
job_has_umask bytes rest user mail h back j = record {
  umask = j.job.umask;
  octal = j.meant.octal;
  text = after_header bytes rest user mail h back ∙ job_after bytes user mail h j;
}

-- a job text has its lines after its umask
pub job_has_lines : (bytes rest lines user : List ℕ) (mail : Bool) (h : BeginsWithHeader bytes user mail)
    → rest ≡ drop (28 + length user) bytes → IsUmaskPrefix rest lines → IsJobText bytes → HasLines lines
unfolding job_has_umask
job_has_lines bytes rest lines user mail h back u j =
    let prefix : IsUmaskPrefix rest (lines_of j.job) = job_has_umask bytes rest user mail h back j in
    let masks : (u.umask ≡ j.job.umask) × (lines ≡ lines_of j.job) =
    same_umask u.umask j.job.umask lines (lines_of j.job) u.octal j.meant.octal (sym u.text ∙ prefix.text) in
    record {
      variables = j.job.variables;
      keeps = j.meant.keeps;
      rest = directory_lines (quoted j.job.directory) ++ j.job.commands;
      change = record { directory = j.job.directory; path = j.meant.path; commands = j.job.commands; text = refl };
      text = masks.1;
    }

-- a header, a umask and lines are a job text
pub lines_make_job : (bytes rest lines user : List ℕ) (mail : Bool) (h : BeginsWithHeader bytes user mail)
    → rest ≡ drop (28 + length user) bytes → IsUmaskPrefix rest lines → HasLines lines → IsJobText bytes
lines_make_job bytes rest lines user mail h back u l = record {
  job = record {
    user = user;
    mail = mail;
    umask = u.umask;
    variables = l.variables;
    directory = l.change.directory;
    commands = l.change.commands;
  };
  meant = record { name = h.name; octal = u.octal; keeps = l.keeps; path = l.change.path };
  text = h.text ∙ ap (λ (it : List ℕ). header_text user mail ++ it) (sym (after_header bytes rest user mail h back)
      ∙ u.text ∙ ap (λ (it : List ℕ). umask_line u.umask ++ it) (l.text
      ∙ ap (λ (it : List ℕ). variable_lines l.variables ++ it) l.change.text));
}
