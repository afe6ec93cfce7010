-- What the array of a user's name holds.
use Rattle.std.proofs.Common.{◌≡◌, ℕ, List, ◌++◌, length, take, drop, replicate, sym, ap, subst, ◌∙◌}
use Rattle.std.proofs.Math.Seq.{take-append_seam}
use Rattle.std.proofs.lemmas.List.{drop-replicate}
use Rattle.spool_model.specs.Users.{IsUserName, IsPaddedUser, padded_user}

-- the bytes of a user's name before the zeros of an array that had 32
pub padded_prefix : (bytes : List ℕ) → IsUserName bytes → IsPaddedUser (bytes ++ drop (length bytes) (replicate 32 0)) (length bytes)
padded_prefix bytes name =
    let prefix : take (length bytes) (bytes ++ drop (length bytes) (replicate 32 0)) ≡ bytes = take-append_seam bytes _ in
    record {
      name = subst IsUserName (sym prefix) name;
      counted = ap length prefix;
      zeros = ap (λ rest. bytes ++ rest) (drop-replicate (length bytes) 32 0) ∙ ap padded_user (sym prefix);
    }
