-- A word without what is joined to its name is the value that it gives: value_in_word.
use Rattle.std.proofs.Common.{◌≡◌, ℕ, List, Option, Some, None, Bor, MatchOption, true, false, drop, length, nat_eq, option_map, sym, refl, ap, ◌∙◌, if◌then◌else◌}
use Rattle.std.specs.List.{starts_with}
use Rattle.std.specs.Str.{bytes_eq}
use Rattle.std.specs.Str.Pattern.{FindsTextPrefix, StripsPrefix}
use Rattle.std.proofs.lemmas.Str.Pattern.{starts_text}
use Rattle.caller_rules.specs.OptionValues.{first_word, value_in_word}

rest_of : (word joined : List ℕ) (rest : Option (Bor (List ℕ)))
    → MatchOption rest (FindsTextPrefix joined word None) (λ one. StripsPrefix (FindsTextPrefix joined) word one.now)
    → option_map (λ one. one.now) rest ≡ (if starts_with nat_eq word joined then Some (drop (length joined) word) else None)
rest_of word joined None lacks =
    ap (λ starts. if starts then Some (drop (length joined) word) else None) (starts_text false joined word lacks)
rest_of word joined (Some one) found =
    ap Some (found.2 ∙ ap (λ place. drop place word) found.1.0)
    ∙ ap (λ starts. if starts then Some (drop (length joined) word) else None)
    (starts_text true joined word (found.0, found.1, rw (found.1.0) found.1.2))

pub value_of : (name joined word : List ℕ) (later : List (List ℕ)) (rest : Option (Bor (List ℕ))) → false ≡ bytes_eq word name
    → MatchOption rest (FindsTextPrefix joined word None) (λ one. StripsPrefix (FindsTextPrefix joined) word one.now)
    → option_map (λ one. one.now) rest ≡ value_in_word name joined word later
value_of name joined word later rest other found =
    rest_of word joined rest found
    ∙ ap (λ same. if same then first_word later
    else (if starts_with nat_eq word joined then Some (drop (length joined) word) else None)) other
