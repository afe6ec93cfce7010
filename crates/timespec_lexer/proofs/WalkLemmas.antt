-- Tokens in turn.
use Rattle.std.proofs.Common.{ℕ, List, [], ◌∷◌, ◌++◌, refl, sym, subst}
use Rattle.timespec_lexer.specs.Tokens.{AreSeparators, HasToken, Walks}
use Rattle.timespec_lexer.specs.declared.placed.Placed.{Placed}

-- one token more goes on after those before it
pub walks_on : (text : List ℕ) (from : ℕ) (placed : List Placed) (end : ℕ) (next : Placed) (to : ℕ)
    → Walks text from placed end → AreSeparators text end next.place → HasToken text next.place to next.token
    → Walks text from (placed ++ next ∷ []) to
walks_on text from [] end next to walks separators holds =
    (subst (λ (place : ℕ). AreSeparators text place next.place) (sym walks) separators, to, holds, refl)
walks_on text from (first ∷ others) end next to walks separators holds =
    (walks.0, walks.1, walks.2, walks_on text walks.1 others end next to walks.3 separators holds)
