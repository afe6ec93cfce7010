-- What the counts of the code's scans say of a header and its faults.
use Rattle.std.proofs.Common.{◌≡◌, ◌≢◌, ℕ, suc, ◌+◌, ◌<◌, ◌≤◌, inl, inr, Bool, true, false, List, [], ◌∷◌, ◌++◌, length, take, drop, max, IsTrue, sym, ap, subst, arith, drop-cons, ◌∙◌, zero}
use Rattle.std.proofs.lemmas.Bool.{cases_lt}
use Rattle.std.proofs.lemmas.List.{drop_all, get_or-take, take-append-drop, length-take-le}
use Rattle.spool_model.specs.Users.{IsUserName, is_user_byte}
use Rattle.job_script.specs.Header.{BeginsWithHeader, IsHeaderFault, before_user, after_user}
use Rattle.job_script.specs.inside.Scan.{Matches, IsUserRun}
use Rattle.job_script.proofs.UserRuns.{EndsUser, IsMost, users_by_place}
use Rattle.job_script.proofs.HeaderLemmas.{MatchesFlags, NoName, eight_after, fault_at_user, fault_after, header_found, matched_whole}

-- the count of each spelling
abbrev pub pick : ℕ → ℕ → Bool → ℕ
pick without with true = with
pick without with false = without

-- what holds of both counts holds of each that is picked
pub pick_each : (tail : List ℕ) (without with : ℕ) → Matches tail (after_user false) without
    → Matches tail (after_user true) with → (mail : Bool) → Matches tail (after_user mail) (pick without with mail)
pick_each tail without with plain mailed true = mailed
pick_each tail without with plain mailed false = plain

-- both counts are short
pub pick_short : (without with : ℕ) → without < 8 → with < 8 → (mail : Bool) → pick without with mail < 8
pick_short without with plain mailed true = mailed
pick_short without with plain mailed false = plain

-- neither count is above the greater
pub pick_below : (without with : ℕ) (mail : Bool) → pick without with mail ≤ max without with
pick_below without with true = omega arith
pick_below without with false = omega arith

-- one of the counts is the greater
pub pick_best : (without with : ℕ) → (mail : Bool) × (pick without with mail ≡ max without with)
pick_best without with =
    elim (cases_lt without with) [
      | inl less ↦ (true, omega arith)
      | inr most ↦ (false, omega arith)
    ]

-- both spellings of the flag, and the longer of the two
pub both_flags : (tail : List ℕ) (without with : ℕ) → Matches tail (after_user false) without
    → Matches tail (after_user true) with → without < 8 → with < 8
    → MatchesFlags tail (pick without with) (max without with)
both_flags tail without with plain mailed short brief = record {
  each = pick_each tail without with plain mailed;
  short = pick_short without with short brief;
  below = pick_below without with;
  mail = (pick_best without with).0;
  here = (pick_best without with).1;
}

-- the run goes on no further
pub run_is_most : (rest : List ℕ) (count : ℕ) → IsUserRun rest count → 0 < count → IsMost (take count rest) (drop count rest)
run_is_most rest count run some =
    elim (cases_lt count 32) [
      | inl short ↦ elim (cases_lt count (length rest)) [
        | inl more ↦ elim (run.stops short more) [
          | inl strange ↦ inr (subst EndsUser (sym (drop-cons rest count 0 more)) strange)
          | inr dash ↦ absurd (omega (arith, dash.0))
        ]
        | inr all ↦ inr (subst EndsUser (sym (drop_all count rest all)) tt)
      ]
      | inr full ↦ inl (length-take-le count rest run.within ∙ omega (arith, run.few))
    ]

-- a run of at least one byte is a user's name
pub run_is_name : (rest : List ℕ) (count : ℕ) → IsUserRun rest count → 0 < count → IsUserName (take count rest)
run_is_name rest count run some =
    let long : length (take count rest) ≡ count = length-take-le count rest run.within in
    let few : count ≤ 32 = run.few in
    record {
      some = omega arith;
      few = omega arith;
      each = users_by_place (take count rest)
          (λ k below. let inside : k < count = omega arith in
          subst (λ (byte : ℕ). IsTrue (is_user_byte byte)) (sym (get_or-take count rest k 0 inside)) (run.each k inside));
      no_dash = λ same. run.no_dash some (sym (get_or-take count rest 0 0 some) ∙ same);
    }

-- where the run has no byte, no name begins
pub no_run : (rest : List ℕ) → IsUserRun rest 0 → NoName rest
no_run [] run = tt
no_run (x ∷ xs) run =
    elim (run.stops (omega arith) (omega arith)) [
      | inl strange ↦ inl strange
      | inr dash ↦ inr dash.1
    ]

-- where the run is no name, no name begins
pub no_name_here : (rest : List ℕ) (count : ℕ) → IsUserRun rest count → ¬ IsUserName (take count rest) → NoName rest
no_name_here rest zero run none = no_run rest run
no_name_here rest (suc count) run none = absurd (none (run_is_name rest (suc count) run (omega arith)))

-- a name has a byte
pub some_run : (rest : List ℕ) (count : ℕ) → IsUserRun rest count → IsUserName (take count rest) → 0 < count
some_run rest count run name =
    let long : length (take count rest) ≡ count = length-take-le count rest run.within in
    omega (arith, name.some)

-- what is before the user is there whole
pub whole_prefix : (bytes rest : List ℕ) (before : ℕ) → Matches bytes before_user before → 20 ≤ before
    → rest ≡ drop before bytes → bytes ≡ before_user ++ rest
whole_prefix bytes rest before m far later =
    let few : before ≤ 20 = m.in_text in
    let whole : before ≡ length before_user = omega arith in
    matched_whole bytes before_user before m whole ∙ ap (λ (it : List ℕ). before_user ++ it) (sym later)

-- the run and what follows it are all that is there
pub run_and_rest : (rest user tail : List ℕ) (count : ℕ) → user ≡ take count rest → tail ≡ drop count rest → rest ≡ user ++ tail
run_and_rest rest user tail count prefix later =
    sym (take-append-drop count rest)
    ∙ ap (λ (it : List ℕ). it ++ drop count rest) (sym prefix) ∙ ap (λ (it : List ℕ). user ++ it) (sym later)

-- the code has found a header
pub header_read : (bytes rest user tail : List ℕ) (before count flag : ℕ) (mail : Bool) → Matches bytes before_user before
    → 20 ≤ before → rest ≡ drop before bytes → user ≡ take count rest → tail ≡ drop count rest → IsUserName user
    → Matches tail (after_user mail) flag → flag ≡ 8 → BeginsWithHeader bytes user mail
header_read bytes rest user tail before count flag mail m far later prefix after name found all =
    header_found bytes rest user tail mail (drop flag tail) name
    (whole_prefix bytes rest before m far later) (run_and_rest rest user tail count prefix after)
    (matched_whole tail (after_user mail) flag found (all ∙ sym (eight_after mail)))

-- the code has found no user
pub user_missing : (bytes rest user : List ℕ) (before count : ℕ) → Matches bytes before_user before → 20 ≤ before
    → rest ≡ drop before bytes → IsUserRun rest count → user ≡ take count rest → ¬ IsUserName user → IsHeaderFault bytes before
user_missing bytes rest user before count m far later run prefix none =
    let few : before ≤ 20 = m.in_text in
    let place : 20 ≡ before = omega arith in
    subst (λ (n : ℕ). IsHeaderFault bytes n) place
    (fault_at_user bytes rest (whole_prefix bytes rest before m far later)
    (no_name_here rest count run (λ name. none (subst IsUserName (sym prefix) name))))

-- the code has found a user, and no flag
pub flag_missing : (bytes rest user tail : List ℕ) (before count without with : ℕ) → Matches bytes before_user before
    → 20 ≤ before → rest ≡ drop before bytes → IsUserRun rest count → user ≡ take count rest → tail ≡ drop count rest
    → IsUserName user → Matches tail (after_user false) without → Matches tail (after_user true) with
    → without ≢ 8 → with ≢ 8 → IsHeaderFault bytes (before + count + max without with)
flag_missing bytes rest user tail before count without with m far later run prefix after name plain mailed short brief =
    let few : before ≤ 20 = m.in_text in
    let no_more : without ≤ 8 = plain.in_text in
    let as_few : with ≤ 8 = mailed.in_text in
    let named : IsUserName (take count rest) = subst IsUserName prefix name in
    let some : 0 < count = some_run rest count run named in
    let long : length user ≡ count = ap length prefix ∙ length-take-le count rest run.within in
    let ends : IsMost user tail = subst (λ (it : List ℕ). IsMost it tail) (sym prefix)
    (subst (λ (it : List ℕ). IsMost (take count rest) it) (sym after) (run_is_most rest count run some)) in
    let flags : MatchesFlags tail (pick without with) (max without with) =
    both_flags tail without with plain mailed (omega arith) (omega arith) in
    let whole : bytes ≡ before_user ++ (user ++ tail) =
    whole_prefix bytes rest before m far later
    ∙ ap (λ (it : List ℕ). before_user ++ it) (run_and_rest rest user tail count prefix after) in
    let place : 20 + length user + max without with ≡ before + count + max without with = omega arith in
    subst (λ (n : ℕ). IsHeaderFault bytes n) place
    (fault_after bytes user tail (pick without with) (max without with) whole name ends flags)
