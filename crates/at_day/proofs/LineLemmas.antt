-- Lines pushed one after another.
use Rattle.std.proofs.Common.{◌≡◌, ◌++◌, [], ◌∷◌, ℕ, List, refl, ap, ◌∙◌}
use Rattle.std.specs.List.{concat}
use Rattle.tool_output.specs.PutLines.{joined_lines}

-- one line pushed after others
pub pushed : (before after lines : List (List ℕ)) (line wanted : List ℕ) → before ≡ lines → after ≡ before ++ line ∷ [] →
    line ≡ wanted → after ≡ lines ++ wanted ∷ []
pushed before after lines line wanted so is same =
    is ∙ (ap (λ (of : List (List ℕ)). of ++ line ∷ []) so ∙ ap (λ (of : List ℕ). lines ++ of ∷ []) same)

-- lines that are put are those of their list
pub lines_concat : (lines : List (List ℕ)) → joined_lines (λ (line : List ℕ). line) lines ≡ concat lines
lines_concat [] = refl
lines_concat (line ∷ lines) = ap (λ (rest : List ℕ). line ++ rest) (lines_concat lines)
