-- Lines and counts that are put one after another.
use Rattle.std.proofs.Common.{◌≡◌, ◌∙◌, ℕ, ◌+◌, ◌<◌, ◌≤◌, List, [], ◌∷◌, ◌++◌, length, drop, get_or, refl, sym, ap, append_assoc, append-nil, add-one, drop-cons}
use Rattle.std.specs.Fmt.{decimal}
use Rattle.std.proofs.lemmas.List.{drop_all}
use Rattle.tool_output.specs.PutLines.{joined_lines}
use Rattle.at_account.specs.declared.line.AccountLine.{AccountLine}
use Rattle.at_account.specs.TotalLines.{counts_text, line_text}

-- one more of a list is reported
told_more : {X : Type 0} (tell : List X → List ℕ) (one_text : X → List ℕ) (cons : (x : X) (xs : List X)
    → tell (x ∷ xs) ≡ one_text x ++ tell xs) (start text more : List ℕ) (list : List X) (place : ℕ) (other : X)
    → place < length list → text ++ tell (drop place list) ≡ start ++ tell list → more ≡ text ++ one_text (get_or list place other)
    → more ++ tell (drop (place + 1) list) ≡ start ++ tell list
told_more tell one_text cons start text more list place other inside so_far added =
    let one = get_or list place other in
    let rest : drop place list ≡ one ∷ drop (place + 1) list = drop-cons list place other inside
    ∙ ap (λ n. one ∷ drop n list) (sym (add-one place)) in
    ap (λ t. t ++ tell (drop (place + 1) list)) added
    ∙ append_assoc text (one_text one) (tell (drop (place + 1) list))
    ∙ ap (λ t. text ++ t) (sym (cons one (drop (place + 1) list)) ∙ ap tell (sym rest)) ∙ so_far

-- all of it
told_all : {X : Type 0} (tell : List X → List ℕ) (nothing : tell [] ≡ []) (start text : List ℕ) (list : List X) (place : ℕ)
    → length list ≤ place
    → text ++ tell (drop place list) ≡ start ++ tell list → text ≡ start ++ tell list
told_all tell nothing start text list place past so_far =
    sym (append-nil text) ∙ ap (λ t. text ++ t) (sym nothing ∙ ap tell (sym (drop_all place list past))) ∙ so_far

abbrev count_text : ℕ → List ℕ
count_text count = 32 ∷ decimal count

pub counts_more : (start text more counts : List ℕ) (place other : ℕ) → place < length counts
    → text ++ counts_text (drop place counts) ≡ start ++ counts_text counts
    → more ≡ text ++ 32 ∷ decimal (get_or counts place other) → more ++ counts_text (drop (place + 1) counts) ≡ start ++ counts_text counts
counts_more start text more counts place other = told_more counts_text count_text (λ x xs. refl) start text more counts place other

pub counts_all : (start text counts : List ℕ) (place : ℕ) → length counts ≤ place
    → text ++ counts_text (drop place counts) ≡ start ++ counts_text counts → text ≡ start ++ counts_text counts
counts_all = told_all counts_text refl

pub lines_more : (start text more : List ℕ) (lines : List AccountLine) (place : ℕ) (one : AccountLine) → place < length lines
    → one ≡ get_or lines place one
    → text ++ joined_lines line_text (drop place lines) ≡ start ++ joined_lines line_text lines → more ≡ text ++ line_text one
    → more ++ joined_lines line_text (drop (place + 1) lines) ≡ start ++ joined_lines line_text lines
lines_more start text more lines place one inside here so_far added =
    told_more (joined_lines line_text) line_text (λ x xs. refl) start text more lines place one inside so_far (added
    ∙ ap (λ (line : AccountLine). text ++ line_text line) here)

pub lines_all : (start text : List ℕ) (lines : List AccountLine) (place : ℕ) → length lines ≤ place
    → text ++ joined_lines line_text (drop place lines) ≡ start ++ joined_lines line_text lines
    → text ≡ start ++ joined_lines line_text lines
lines_all = told_all (joined_lines line_text) refl
