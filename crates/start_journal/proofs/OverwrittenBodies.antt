-- A body of which a range is written over.
use Rattle.std.proofs.Common.{◌≡◌, ◌⊎◌, ℕ, suc, ◌+◌, ◌-◌, ◌<◌, ◌≤◌, Bool, true, false, List, [], length, take, drop, sym, ap, subst, ◌∙◌, refl, inl, inr, arith, get_or-take}
use Rattle.std.specs.Prelude.{◌&&◌, ◌||◌, MatchBool, slice_index, nat_lt}
use Rattle.std.proofs.lemmas.Bool.Decides.{leb_tells}
use Rattle.std.proofs.lemmas.List.{ext_get_or, get_or-drop, length-drop, length-take-le}
use Rattle.host_calls.specs.Directory.{Body, IsSameElsewhere, MayHold, is_within, overwritten, written_body}
use Rattle.start_journal.proofs.ByteRanges.{over_before, over_after, over_inside, over_long}

-- a place lies in a range
record IsIn (offset count place : ℕ) : Type 0 where
  from : offset ≤ place
  to : place < offset + count

-- or before it or after it
record IsOut (offset count place : ℕ) : Type 0 where
  test : is_within offset count place ≡ false
  apart : (place < offset) ⊎ (offset + count ≤ place)

in_or_out : (offset count place : ℕ) → IsIn offset count place ⊎ IsOut offset count place
in_or_out offset count place = elim (leb_tells offset place) [
  | inr before ↦ inr (record { test = ap (λ b. b && nat_lt place (offset + count)) before.0; apart = inl before.1 })
  | inl from ↦ elim (leb_tells (suc place) (offset + count)) [
    | inl to ↦ inl (record { from = from.1; to = omega (arith, to.1) })
    | inr after ↦
        inr (record { test = ap (λ b. b && nat_lt place (offset + count)) from.0 ∙ after.0; apart = inr (omega (arith, after.1)) })
  ]
]

-- no place may differ from what a body reads as
abbrev pub IsSteady : Body → Type 0
IsSteady body = (bytes : List ℕ) → MayHold body bytes → bytes ≡ body.bytes

-- what is after a write in place of a steady body: its own bytes, but for the range
pub record IsOver (offset count : ℕ) (old found : List ℕ) : Type 0 where
  pub part : List ℕ
  pub as_long : length part ≡ count
  pub is : found ≡ overwritten old offset part

module _ (body : Body) (offset : ℕ) (bytes : List ℕ) (within : offset + length bytes ≤ length body.bytes)
    (steady : IsSteady body) (found : List ℕ) where
  -- the bytes that the range had
  abbrev own : List ℕ
  own = take (length bytes) (drop offset body.bytes)

  own_long : length own ≡ length bytes
  own_long = length-take-le (length bytes) (drop offset body.bytes) (omega (arith, length-drop offset body.bytes))

  -- the bytes that it has now
  abbrev now : List ℕ
  now = take (length bytes) (drop offset found)

  -- a byte of a range
  index_range : (list : List ℕ) (at : ℕ) → offset ≤ at → at < offset + length bytes
      → slice_index (take (length bytes) (drop offset list)) (at - offset) ≡ slice_index list at
  index_range list at from to =
      let there : offset + (at - offset) ≡ at = omega arith in
      get_or-take (length bytes) (drop offset list) (at - offset) 0 (omega arith) ∙ get_or-drop offset list (at - offset) 0
      ∙ ap (slice_index list) there

  -- a body that was synced, where the range had its own bytes again, is the one of before
  back : body.is_synced ≡ true → IsSameElsewhere (written_body offset bytes body) found → overwritten found offset own ≡ body.bytes
  back synced holds =
      let as_long : length found ≡ length body.bytes = holds.counted ∙ over_long body.bytes offset bytes within in
      let inside : offset + length own ≤ length found = omega (arith, own_long, as_long) in
      let same : IsSameElsewhere body (overwritten found offset own) = record {
        counted = over_long found offset own inside ∙ as_long;
        durable = λ place durable. elim (in_or_out offset (length bytes) place) [
          | inl here ↦ over_inside found offset own inside place here.from (omega (arith, here.to, own_long))
              ∙ index_range body.bytes place here.from here.to
          | inr out ↦
              let kept : slice_index found place ≡ slice_index (overwritten body.bytes offset bytes) place =
              holds.durable place (ap (λ b. b || is_within offset (length bytes) place) durable ∙ out.test) in
              elim out.apart [
                | inl before ↦ over_before found offset own inside place before ∙ kept
                    ∙ over_before body.bytes offset bytes within place before
                | inr after ↦ over_after found offset own inside place (omega (arith, after, own_long)) ∙ kept
                    ∙ over_after body.bytes offset bytes within place after
              ]
        ];
      } in
      steady (overwritten found offset own) (subst (λ b. MatchBool b (IsSameElsewhere body (overwritten found offset own))
      (length (overwritten found offset own) ≤ length body.bytes)) (sym synced) same)

  -- so only the range has changed
  over_synced : body.is_synced ≡ true → IsSameElsewhere (written_body offset bytes body) found
      → IsOver offset (length bytes) body.bytes found
  over_synced synced holds =
      let as_long : length found ≡ length body.bytes = holds.counted ∙ over_long body.bytes offset bytes within in
      let now_long : length now ≡ length bytes =
      length-take-le (length bytes) (drop offset found) (omega (arith, length-drop offset found)) in
      let inside : offset + length own ≤ length found = omega (arith, own_long, as_long) in
      let still : offset + length now ≤ length body.bytes = omega (arith, now_long) in
      let was : overwritten found offset own ≡ body.bytes = back synced holds in
      record {
        part = now;
        as_long = now_long;
        is = ext_get_or 0 found (overwritten body.bytes offset now) (as_long ∙ sym (over_long body.bytes offset now still))
            (λ place early. elim (in_or_out offset (length bytes) place) [
              | inl here ↦ sym (over_inside body.bytes offset now still place here.from (omega (arith, here.to, now_long))
                  ∙ index_range found place here.from here.to)
              | inr out ↦ elim out.apart [
                | inl before ↦ sym (over_before found offset own inside place before) ∙ ap (λ list. slice_index list place) was
                    ∙ sym (over_before body.bytes offset now still place before)
                | inr after ↦ sym (over_after found offset own inside place (omega (arith, after, own_long)))
                    ∙ ap (λ list. slice_index list place) was
                    ∙ sym (over_after body.bytes offset now still place (omega (arith, after, now_long)))
              ]
            ]);
      }

  -- a steady body that was never synced is empty
  over_empty : body.is_synced ≡ false → length found ≤ length (overwritten body.bytes offset bytes)
      → IsOver offset (length bytes) body.bytes found
  over_empty never few =
      let none : [] ≡ body.bytes =
      steady [] (subst (λ b. MatchBool b (IsSameElsewhere body []) (length {A = ℕ} [] ≤ length body.bytes)) (sym never) (omega arith)) in
      let empty : length body.bytes ≡ 0 = sym (ap length none) in
      let found_long : length found ≡ 0 = omega (arith, few, over_long body.bytes offset bytes within, empty) in
      let over : length (overwritten body.bytes offset bytes) ≡ 0 = over_long body.bytes offset bytes within ∙ empty in
      record {
        part = bytes;
        as_long = refl;
        is = ext_get_or 0 found (overwritten body.bytes offset bytes) (found_long ∙ sym over)
            (λ place early. absurd (omega (arith, early, found_long)));
      }

  pub over_steady : MayHold (written_body offset bytes body) found → IsOver offset (length bytes) body.bytes found
  over_steady holds = by_sync body.is_synced refl where
    by_sync : (synced : Bool) → body.is_synced ≡ synced → IsOver offset (length bytes) body.bytes found
    by_sync true is = over_synced is (subst (λ b. MatchBool b (IsSameElsewhere (written_body offset bytes body) found)
        (length found ≤ length (overwritten body.bytes offset bytes))) is holds)
    by_sync false is = over_empty is (subst (λ b. MatchBool b (IsSameElsewhere (written_body offset bytes body) found)
        (length found ≤ length (overwritten body.bytes offset bytes))) is holds)
