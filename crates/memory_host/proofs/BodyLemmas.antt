-- What a crash does to the bytes of a file, and what kept bodies stand for.
use Rattle.std.proofs.Common.{◌≡◌, ◌+◌, ◌<◌, ◌≤◌, ℕ, Bool, false, List, [], ◌∷◌, ◌++◌, length, get_or, take, drop, cond, append_assoc, append-nil, sym, ap, ◌∙◌, refl, add-one, arith}
use Rattle.std.proofs.Math.ListN.{set}
use Rattle.std.proofs.Math.Seq.{drop-cons}
use Rattle.std.proofs.lemmas.List.{take_more_set, drop-set-lt, set_past, take_all, drop_all}
use Rattle.memory_host.specs.inside.Bodies.{KeptBody, with_kept, with_each}
use Rattle.memory_host.specs.Crash.{picked_byte, picked_bytes}

-- one more byte is done
pub picked_step : (pick : ℕ) (is_unsynced_at : ℕ → Bool) (bytes : List ℕ) (place byte : ℕ)
    → place < length bytes → byte ≡ cond (is_unsynced_at place) (picked_byte pick place) (get_or bytes place 0)
    → take (place + 1) (set bytes place byte) ++ picked_bytes pick is_unsynced_at (place + 1) (drop (place + 1) (set bytes place byte))
    ≡ take place bytes ++ picked_bytes pick is_unsynced_at place (drop place bytes)
picked_step pick is_unsynced_at bytes place byte inside is =
    let P : List ℕ → List ℕ = λ rest. picked_bytes pick is_unsynced_at place rest in
    let after : drop (place + 1) (set bytes place byte) ≡ drop (place + 1) bytes = drop-set-lt (place + 1) bytes place byte (omega arith) in
    let here : drop place bytes ≡ get_or bytes place 0 ∷ drop (place + 1) bytes = drop-cons bytes place 0 inside
    ∙ ap (λ n. get_or bytes place 0 ∷ drop n bytes) (sym (add-one place)) in
    rw (take_more_set bytes place byte inside, after, here, append_assoc, is) refl

-- bytes that are durable stay
pub picked_bytes-durable : (pick : ℕ) (is_unsynced_at : ℕ → Bool) → ((place : ℕ) → is_unsynced_at place ≡ false)
    → (place : ℕ) (bytes : List ℕ) → picked_bytes pick is_unsynced_at place bytes ≡ bytes
picked_bytes-durable pick is_unsynced_at durable place [] = refl
picked_bytes-durable pick is_unsynced_at durable place (byte ∷ others) =
    rw (durable place, picked_bytes-durable pick is_unsynced_at durable (place + 1) others) refl

-- all bytes are done
pub picked_end : (pick : ℕ) (is_unsynced_at : ℕ → Bool) (bytes : List ℕ) (place : ℕ) (whole : List ℕ) → length bytes ≤ place
    → take place bytes ++ picked_bytes pick is_unsynced_at place (drop place bytes) ≡ whole → bytes ≡ whole
picked_end pick is_unsynced_at bytes place whole over is =
    let prefix : take place bytes ≡ bytes = take_all place bytes over in
    let none : drop place bytes ≡ [] = drop_all place bytes over in
    sym (append-nil bytes) ∙ (rw (prefix, none) at is)

module _ (change : KeptBody → KeptBody) where
  -- one more number is done
  pub with_each_step : (numbers : List ℕ) (list new : List KeptBody) (index number : ℕ)
      → index < length numbers → number ≡ get_or numbers index 0 → new ≡ with_kept change number list
      → with_each change (drop (index + 1) numbers) new ≡ with_each change (drop index numbers) list
  with_each_step numbers list new index number inside is done =
      let here : drop index numbers ≡ get_or numbers index 0 ∷ drop (index + 1) numbers = drop-cons numbers index 0 inside
      ∙ ap (λ n. get_or numbers index 0 ∷ drop n numbers) (sym (add-one index)) in
      rw (here, done, is) refl

  -- a number that no body has changes nothing
  pub with_kept-beyond : (list : List KeptBody) (number : ℕ) → length list ≤ number → list ≡ with_kept change number list
  with_kept-beyond list number beyond = sym (set_past list number _ beyond)
