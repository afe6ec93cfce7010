-- What list readings keep to: the lists that they were made as.
use Rattle.std.proofs.Common.{◌≡◌, ◌<◌, ◌++◌, ℕ, List, [], ◌∷◌, length, refl, ap, subst, rules, arith}
use Rattle.std.specs.Prelude.{ℤ, pos, negsuc, Option, Some, None, map}
use Rattle.memory_host.specs.Readings.{AreAnswersOf, KeepToLists, readings_spelling, spelled_second, spelled_load}
use Rattle.memory_host.specs.ListReadings.{answers_so_far, readers_so_far}
use Rattle.memory_host.specs.declared.readings.ListReadings.{ListReadings}
use Rattle.memory_host.proofs.AnswerLemmas.{answers_to-AreAnswersOf}

-- no two seconds are spelled alike
spelled_second-one : (first second : ℤ) → spelled_second first ≡ spelled_second second → first ≡ second
spelled_second-one (pos first) (pos second) same = let e : first ≡ second = omega arith in ap pos e
spelled_second-one (pos first) (negsuc second) same = absurd (omega arith)
spelled_second-one (negsuc first) (pos second) same = absurd (omega arith)
spelled_second-one (negsuc first) (negsuc second) same = let e : first ≡ second = omega arith in ap negsuc e

-- no two loads are spelled alike
spelled_load-one : (first second : Option ℕ) → spelled_load first ≡ spelled_load second → first ≡ second
spelled_load-one None None same = refl
spelled_load-one None (Some second) same = absurd (omega arith)
spelled_load-one (Some first) None same = absurd (omega arith)
spelled_load-one (Some first) (Some second) same = let e : first ≡ second = omega arith in ap Some e

-- lists of elements of which no two are spelled alike
module _ {X : Type 0} (spelled : X → ℕ) (one : (first second : X) → spelled first ≡ spelled second → first ≡ second) where
  -- no two of them are spelled alike
  spelled_map-one : (first second : List X) → map spelled first ≡ map spelled second → first ≡ second
  spelled_map-one [] [] same = refl
  spelled_map-one [] (y ∷ ys) same = cc
  spelled_map-one (x ∷ xs) [] same = cc
  spelled_map-one (x ∷ xs) (y ∷ ys) same =
      let heads : spelled x ≡ spelled y = cc in
      let tails : map spelled xs ≡ map spelled ys = cc in
      let first_same : x ≡ y = one x y heads in
      let others_same : xs ≡ ys = spelled_map-one xs ys tails in
      cc

  -- nor two of one length with what follows each
  spelled_list-one : (first second : List X) (rest other : List ℕ) → length first ≡ length second
      → map spelled first ++ rest ≡ map spelled second ++ other → (first ≡ second) × (rest ≡ other)
  spelled_list-one [] [] rest other counted same = (refl, same)
  spelled_list-one [] (y ∷ ys) rest other counted same = absurd (omega arith)
  spelled_list-one (x ∷ xs) [] rest other counted same = absurd (omega arith)
  spelled_list-one (x ∷ xs) (y ∷ ys) rest other counted same =
      let heads : spelled x ≡ spelled y = cc in
      let tails : map spelled xs ++ rest ≡ map spelled ys ++ other = cc in
      let first_same : x ≡ y = one x y heads in
      let others = spelled_list-one xs ys rest other (omega arith) tails in
      let others_same : xs ≡ ys = others.0 in
      (cc, others.1)

-- No two pairs of lists are spelled alike.
pub readings_spelling-one : (nows other_nows : List ℤ) (loads other_loads : List (Option ℕ))
    → readings_spelling nows loads ≡ readings_spelling other_nows other_loads → (nows ≡ other_nows) × (loads ≡ other_loads)
readings_spelling-one nows other_nows loads other_loads same =
    let counted : length nows ≡ length other_nows = cc in
    let rest : map spelled_second nows ++ map spelled_load loads ≡ map spelled_second other_nows ++ map spelled_load other_loads = cc in
    let firsts = spelled_list-one spelled_second spelled_second-one nows other_nows (map spelled_load loads)
    (map spelled_load other_loads) counted rest in
    (firsts.0, spelled_map-one spelled_load spelled_load-one loads other_loads firsts.1)

-- Each value of list readings keeps to its lists.
pub readings_keep : (readings : ListReadings) → KeepToLists (readers_so_far readings).made_as (answers_so_far readings)
readings_keep readings nows loads same =
    let one = readings_spelling-one readings.nows.items nows readings.loads.items loads same in
    let some_now : 0 < length readings.nows.items = search rules in
    let some_load : 0 < length readings.loads.items = search rules in (
      subst (λ given. AreAnswersOf given (answers_so_far readings).nows) one.0
          (answers_to-AreAnswersOf readings.nows.items some_now readings.now_count),
      subst (λ given. AreAnswersOf given (answers_so_far readings).loads) one.1
          (answers_to-AreAnswersOf readings.loads.items some_load readings.load_count),
    )
