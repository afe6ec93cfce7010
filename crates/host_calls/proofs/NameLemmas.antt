-- What the array of a name holds.
use Rattle.std.proofs.Common.{◌≡◌, ℕ, List, ◌++◌, length, take, drop, replicate, sym, ap, subst, ◌∙◌}
use Rattle.std.proofs.Math.Seq.{take-append_seam}
use Rattle.std.proofs.lemmas.List.{drop-replicate}
use Rattle.host_calls.specs.Names.{IsName, IsPaddedName, padded_name}

-- the bytes of a name before the zeros of an array that had 64
pub padded_prefix : (bytes : List ℕ) → IsName bytes → IsPaddedName (bytes ++ drop (length bytes) (replicate 64 0)) (length bytes)
padded_prefix bytes name =
    let prefix : take (length bytes) (bytes ++ drop (length bytes) (replicate 64 0)) ≡ bytes = take-append_seam bytes _ in
    record {
      name = subst IsName (sym prefix) name;
      counted = ap length prefix;
      zeros = ap (λ rest. bytes ++ rest) (drop-replicate (length bytes) 64 0) ∙ ap padded_name (sym prefix);
    }
