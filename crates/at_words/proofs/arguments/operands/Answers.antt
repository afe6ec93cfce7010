use Rattle.std.proofs.Common.{◌≡◌, ℕ, List, [], Bor, map, option_map, refl, ap, ◌∙◌, codes}
use Rattle.std.specs.Prelude.{Option, Some, None, unwrap_or}
use Rattle.std.specs.Option.{option_map_or}
use Rattle.clap.specs.Matches.{found_of}
use Rattle.clap.proofs.WalkLemmas.{raw_values-rows}
use Rattle.at_words.proofs.arguments.operands.Goals as goal

-- what is found, or nothing
gathered : (found : Option (Bor (List (Bor (List ℕ)))))
    → map (λ (text : Bor (List ℕ)). text.now) (option_map_or (λ (operands : Bor (List (Bor (List ℕ)))). operands.now) found [])
    ≡ unwrap_or (option_map (λ (operands : Bor (List (Bor (List ℕ)))). map (λ (text : Bor (List ℕ)). text.now) operands.now) found) []
gathered None = refl
gathered (Some operands) = refl

pub returns : goal.returns
returns c =
    ap (map (λ (text : Bor (List ℕ)). text.now)) c.or_none.ensures
    ∙ gathered c.get_strs.result
    ∙ ap (λ (all : Option (List (List ℕ))). unwrap_or all []) (c.get_strs.ensures
    ∙ raw_values-rows (found_of c.args.matches.now) (codes "operands"))
