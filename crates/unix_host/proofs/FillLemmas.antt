-- A buffer that is filled from its start, read by read.
use Rattle.std.proofs.Common.{◌≡◌, ◌+◌, ◌≤◌, ◌∙◌, ℕ, List, ◌++◌, length, take, drop, ap, sym, subst, drop_at, length-take-le, le_refl}
use Rattle.std.proofs.lemmas.Slice.{take-put_mid_below}
use Rattle.std.proofs.KnownBytes.{Consumes-trans, Consumes-kept}
use Rattle.std.specs.Io.KnownBytes.{Consumes, Keeps}
use Rattle.std.specs.Prelude.{Option}
use borrow.Rule.Slice.PartMut.{put_mid, post_of}
use lib.Seq.{take-add, take-append-le}

-- what was filled is followed by what was read
pub read_after : (from room count : ℕ) (old part : List ℕ) → from ≤ length old → count ≤ length part
    → take (from + count) (put_mid from room old part) ≡ take from old ++ take count part
read_after from room count old part within fits =
    let whole = put_mid from room old part in
    take-add from count whole
    ∙ ap (λ prefix. prefix ++ take count (drop from whole)) (take-put_mid_below from room old part from (le_refl from) within)
    ∙ ap (λ rest. take from old ++ take count rest)
    (drop_at (take from old) (part ++ post_of from room old) from (length-take-le from old within))
    ∙ ap (λ bytes. take from old ++ bytes) (take-append-le count part (post_of from room old) fits)

-- what was filled by two reads, one after the other
pub filled_more : (before between after : Option (List ℕ)) (from room count filled : ℕ) (old part : List ℕ) → from ≤ length old
    → count ≤ length part → filled ≡ from + count → Consumes before between (take from old) → Consumes between after (take count part)
    → Consumes before after (take filled (put_mid from room old part))
filled_more before between after from room count filled old part within fits is first second =
    subst (Consumes before after) (sym (ap (λ n. take n (put_mid from room old part)) is ∙ read_after from room count old part within fits))
    (Consumes-trans before between after (take from old) (take count part) first second)

-- what was filled before a read that was interrupted
pub filled_still : (before between after : Option (List ℕ)) (from room filled : ℕ) (old part : List ℕ) → from ≤ length old → filled ≡ from
    → Consumes before between (take from old) → Keeps between after → Consumes before after (take filled (put_mid from room old part))
filled_still before between after from room filled old part within is first kept =
    subst (Consumes before after) (sym (ap (λ n. take n (put_mid from room old part)) is
    ∙ take-put_mid_below from room old part from (le_refl from) within))
    (Consumes-kept before between after (take from old) first kept)
