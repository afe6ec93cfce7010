-- What is read from the start of the bytes is their header, or the place of their fault.
use Rattle.std.proofs.Common.{◌≡◌, ℕ, ◌+◌, ◌-◌, ◌<◌, ◌≤◌, ◌↔◌, Bool, true, false, cond, not, ◌&&◌, eqb, List, [], ◌∷◌, ◌++◌, length, take, drop, max, refl, sym, ap, subst, arith, ◌∙◌, inl, inr, Option, Some, None}
use Rattle.std.specs.Option.{MatchOption}
use Rattle.std.proofs.lemmas.Bool.{and_cases, and_parts, cases_lt, eqb-true, eqb-false, not-true, not-false}
use Rattle.std.proofs.lemmas.List.{drop-take}
use Rattle.spool_model.specs.Users.{IsUserName}
use Rattle.job_script.specs.Header.{before_user, after_user, header_text, BeginsWithHeader, HasHeader, IsHeaderFault}
use Rattle.job_script.specs.HeaderIn.{alike, name_prefix, user_in, flag_alike, has_user, header_in, header_place}
use Rattle.job_script.specs.inside.Scan.{Matches}
use Rattle.job_script.proofs.HeaderLemmas.{eight_after, fault_before, one_header}
use Rattle.job_script.proofs.HeaderScans.{header_read, flag_missing, run_is_name, user_missing}
use Rattle.job_script.proofs.HeaderInScans.{IsNamePrefix, alike-matches, alike-take, name_prefix-runs, name_prefix-take}

-- what is read from the start of the bytes
record IsRead (bytes user : List ℕ) (before : ℕ) (flag : Bool → ℕ) : Type 0 where
  prefix : Matches bytes before_user before
  name : IsNamePrefix (drop 20 bytes) user
  flags : (mail : Bool) → Matches (drop (length user) (drop 20 bytes)) (after_user mail) (flag mail)

-- it is read so
is_read : (bytes : List ℕ) → IsRead bytes (user_in bytes) (alike before_user bytes) (flag_alike bytes)
unfolding user_in flag_alike
is_read bytes = record {
  prefix = alike-matches before_user bytes;
  name = name_prefix-runs (drop 20 bytes);
  flags = λ mail. alike-matches (after_user mail) (drop (length (name_prefix (drop 20 bytes))) (drop 20 bytes));
}

-- a header with this flag was read
read_header : (bytes user : List ℕ) (before : ℕ) (flag : Bool → ℕ) (mail : Bool) → IsRead bytes user before flag
    → before ≡ 20 → 0 < length user → flag mail ≡ 8 → BeginsWithHeader bytes user mail
read_header bytes user before flag mail r whole some all =
    header_read bytes (drop 20 bytes) user (drop (length user) (drop 20 bytes)) before (length user) (flag mail) mail
    r.prefix (omega arith) (ap (λ (n : ℕ). drop n bytes) (sym whole)) r.name.prefix refl
    (subst IsUserName (sym r.name.prefix) (run_is_name (drop 20 bytes) (length user) r.name.runs some))
    (r.flags mail) all

-- a user was read, and no flag
read_no_flag : (bytes user : List ℕ) (before : ℕ) (flag : Bool → ℕ) → IsRead bytes user before flag
    → before ≡ 20 → 0 < length user → (flag false ≡ 8 → ⊥) → (flag true ≡ 8 → ⊥)
    → IsHeaderFault bytes (20 + length user + max (flag false) (flag true))
read_no_flag bytes user before flag r whole some plain mailed =
    subst (λ (n : ℕ). IsHeaderFault bytes (n + length user + max (flag false) (flag true))) whole
    (flag_missing bytes (drop 20 bytes) user (drop (length user) (drop 20 bytes)) before (length user)
    (flag false) (flag true) r.prefix (omega arith) (ap (λ (n : ℕ). drop n bytes) (sym whole)) r.name.runs r.name.prefix refl
    (subst IsUserName (sym r.name.prefix) (run_is_name (drop 20 bytes) (length user) r.name.runs some))
    (r.flags false) (r.flags true) plain mailed)

-- no user was read
read_no_user : (bytes user : List ℕ) (before : ℕ) (flag : Bool → ℕ) → IsRead bytes user before flag
    → (before ≡ 20 → 0 < length user → ⊥) → IsHeaderFault bytes before
read_no_user bytes user before flag r none =
    elim (cases_lt before 20) [
      | inl short ↦ fault_before bytes before r.prefix short
      | inr far ↦
          let few : before ≤ 20 = r.prefix.in_text in
          let whole : before ≡ 20 = omega arith in
          user_missing bytes (drop 20 bytes) user before (length user) r.prefix far
          (ap (λ (n : ℕ). drop n bytes) (sym whole)) r.name.runs r.name.prefix
          (λ name. none whole name.some)
    ]

-- what the three tests say together
reads_so : (bytes user : List ℕ) (before : ℕ) (flag : Bool → ℕ) (has plain mailed : Bool)
    → (eqb before 20 && not (eqb (length user) 0)) ≡ has → eqb (flag false) 8 ≡ plain → eqb (flag true) 8 ≡ mailed
    → IsRead bytes user before flag
    → MatchOption {T = List ℕ × Bool} (cond (has && plain) (Some (user, false)) (cond (has && mailed) (Some (user, true)) None))
    (IsHeaderFault bytes (cond has (20 + length user + max (flag false) (flag true)) before))
    (λ found. BeginsWithHeader bytes found.0 found.1)
reads_so bytes user before flag true true mailed has plain mail r =
    let both = and_parts (eqb before 20) (not (eqb (length user) 0)) has in
    read_header bytes user before flag false r (eqb-true before 20 both.0)
    (let some = eqb-false (length user) 0 (not-true (eqb (length user) 0) both.1) in omega arith) (eqb-true (flag false) 8 plain)
reads_so bytes user before flag true false true has plain mail r =
    let both = and_parts (eqb before 20) (not (eqb (length user) 0)) has in
    read_header bytes user before flag true r (eqb-true before 20 both.0)
    (let some = eqb-false (length user) 0 (not-true (eqb (length user) 0) both.1) in omega arith) (eqb-true (flag true) 8 mail)
reads_so bytes user before flag true false false has plain mail r =
    let both = and_parts (eqb before 20) (not (eqb (length user) 0)) has in
    read_no_flag bytes user before flag r (eqb-true before 20 both.0)
    (let some = eqb-false (length user) 0 (not-true (eqb (length user) 0) both.1) in omega arith)
    (eqb-false (flag false) 8 plain) (eqb-false (flag true) 8 mail)
reads_so bytes user before flag false plain mailed has p m r =
    read_no_user bytes user before flag r (λ whole some.
    elim (and_cases (eqb before 20) (not (eqb (length user) 0)) has) [
      | inl other ↦ eqb-false before 20 other whole
      | inr empty ↦ absurd (let none = eqb-true (length user) 0 (not-false (eqb (length user) 0) empty) in omega arith)
    ])

-- what is read is the header of the bytes, or their fault
pub header_in-reads : (bytes : List ℕ)
    → MatchOption (header_in bytes) (IsHeaderFault bytes (header_place bytes)) (λ found. BeginsWithHeader bytes found.0 found.1)
unfolding header_in header_place has_user
header_in-reads bytes =
    reads_so bytes (user_in bytes) (alike before_user bytes) (flag_alike bytes)
    (eqb (alike before_user bytes) 20 && not (eqb (length (user_in bytes)) 0))
    (eqb (flag_alike bytes false) 8) (eqb (flag_alike bytes true) 8) refl refl refl (is_read bytes)

-- the header that is read is there
some_begins : (bytes user : List ℕ) (mail : Bool) (place : ℕ) (read : Option (List ℕ × Bool))
    → MatchOption read (IsHeaderFault bytes place) (λ found. BeginsWithHeader bytes found.0 found.1)
    → read ≡ Some (user, mail) → BeginsWithHeader bytes user mail
some_begins bytes user mail place (Some found) begins same =
    let it : found ≡ (user, mail) = cc same in
    subst (λ (one : List ℕ × Bool). BeginsWithHeader bytes one.0 one.1) it begins
some_begins bytes user mail place None fault same = absurd (cc same)

-- the header that is there is read
begins_some : (bytes user : List ℕ) (mail : Bool) (place : ℕ) (read : Option (List ℕ × Bool))
    → MatchOption read (IsHeaderFault bytes place) (λ found. BeginsWithHeader bytes found.0 found.1)
    → BeginsWithHeader bytes user mail → read ≡ Some (user, mail)
begins_some bytes user mail place (Some found) begins header =
    let same : (found.0 ≡ user) × (found.1 ≡ mail) = one_header bytes found.0 user found.1 mail begins header in
    λ i. Some (same.0 i, same.1 i)
begins_some bytes user mail place None fault header = absurd (fault.none (record { user = user; mail = mail; header = header }))

-- nothing is read where there is no header
none_read : (bytes : List ℕ) (place : ℕ) (read : Option (List ℕ × Bool))
    → MatchOption read (IsHeaderFault bytes place) (λ found. BeginsWithHeader bytes found.0 found.1)
    → ¬ HasHeader bytes → (read ≡ None) × IsHeaderFault bytes place
none_read bytes place (Some found) begins none = absurd (none (record { user = found.0; mail = found.1; header = begins }))
none_read bytes place None fault none = (refl, fault)

-- there is no header where nothing is read
read_none : (bytes : List ℕ) (place : ℕ) (read : Option (List ℕ × Bool))
    → MatchOption read (IsHeaderFault bytes place) (λ found. BeginsWithHeader bytes found.0 found.1)
    → read ≡ None → ¬ HasHeader bytes
read_none bytes place (Some found) begins same = absurd (cc same)
read_none bytes place None fault same = fault.none

-- the function gives a header exactly where the bytes begin with it
pub header_in-some : (bytes user : List ℕ) (mail : Bool) → (header_in bytes ≡ Some (user, mail)) ↔ BeginsWithHeader bytes user mail
header_in-some bytes user mail = (
  some_begins bytes user mail (header_place bytes) (header_in bytes) (header_in-reads bytes),
  begins_some bytes user mail (header_place bytes) (header_in bytes) (header_in-reads bytes),
)

-- it gives none exactly where they begin with none
pub header_in-none : (bytes : List ℕ) → (header_in bytes ≡ None) ↔ (¬ HasHeader bytes)
header_in-none bytes = (
  read_none bytes (header_place bytes) (header_in bytes) (header_in-reads bytes),
  λ none. (none_read bytes (header_place bytes) (header_in bytes) (header_in-reads bytes) none).0,
)

-- and there the place is where they leave all headers
pub header_place-fault : (bytes : List ℕ) → ¬ HasHeader bytes → IsHeaderFault bytes (header_place bytes)
header_place-fault bytes none = (none_read bytes (header_place bytes) (header_in bytes) (header_in-reads bytes) none).1

-- the user among the first 60 bytes is that of all
user_in-take : (bytes : List ℕ) → user_in (take 60 bytes) ≡ user_in bytes
unfolding user_in
user_in-take bytes =
    ap name_prefix (drop-take 20 40 bytes) ∙ name_prefix-take (drop 20 bytes) 40 (omega arith)

-- the user has at most 32 bytes
length-user_in : (bytes : List ℕ) → length (user_in bytes) ≤ 32
unfolding user_in
length-user_in bytes = (name_prefix-runs (drop 20 bytes)).runs.few

-- a text after a few bytes, where enough of them are taken
after-take : (rest text : List ℕ) (count : ℕ) → count ≤ 32 → length text ≡ 8
    → alike text (drop count (take 40 rest)) ≡ alike text (drop count rest)
after-take rest text count few long =
    let whole : 40 ≡ count + (40 - count) = omega arith in
    ap (λ (n : ℕ). alike text (drop count (take n rest))) whole
    ∙ ap (alike text) (drop-take count (40 - count) rest)
    ∙ alike-take text (drop count rest) (40 - count) (omega arith)

-- the flag among the first 60 bytes is that of all
flag_alike-take : (bytes : List ℕ) (mail : Bool) → flag_alike (take 60 bytes) mail ≡ flag_alike bytes mail
unfolding flag_alike
flag_alike-take bytes mail =
    let user : user_in (take 60 bytes) ≡ user_in bytes = user_in-take bytes in
    let rest : drop 20 (take 60 bytes) ≡ take 40 (drop 20 bytes) = drop-take 20 40 bytes in
    (λ i. alike (after_user mail) (drop (length (user i)) (rest i)))
    ∙ after-take (drop 20 bytes) (after_user mail) (length (user_in bytes)) (length-user_in bytes) (eight_after mail)

-- what is before a user among the first 60 bytes
before_user-take : (bytes : List ℕ) → alike before_user (take 60 bytes) ≡ alike before_user bytes
before_user-take bytes = alike-take before_user bytes 60 (omega arith)

-- only the first 60 bytes matter to whether a user is there
has_user-take : (bytes : List ℕ) → has_user (take 60 bytes) ≡ has_user bytes
unfolding has_user
has_user-take bytes =
    let prefix = before_user-take bytes in
    let user = user_in-take bytes in
    λ i. eqb (prefix i) 20 && not (eqb (length (user i)) 0)

-- only the first 60 bytes matter to the header
pub header_in-take : (bytes : List ℕ) → header_in (take 60 bytes) ≡ header_in bytes
unfolding header_in
header_in-take bytes =
    let has = has_user-take bytes in
    let user = user_in-take bytes in
    let plain = flag_alike-take bytes false in
    let mailed = flag_alike-take bytes true in
    λ i. cond (has i && eqb (plain i) 8) (Some (user i, false)) (cond (has i && eqb (mailed i) 8) (Some (user i, true)) None)

-- only the first 60 bytes matter to the place of a fault
pub header_place-take : (bytes : List ℕ) → header_place (take 60 bytes) ≡ header_place bytes
unfolding header_place
header_place-take bytes =
    let has = has_user-take bytes in
    let user = user_in-take bytes in
    let plain = flag_alike-take bytes false in
    let mailed = flag_alike-take bytes true in
    let prefix = before_user-take bytes in
    λ i. cond (has i) (20 + length (user i) + max (plain i) (mailed i)) (prefix i)

-- a text is read so
header_in-small : header_in (header_text (97 ∷ 110 ∷ 110 ∷ []) true ++ (111 ∷ [])) ≡ Some (97 ∷ 110 ∷ 110 ∷ [], true)
unfolding header_in has_user user_in flag_alike name_prefix alike
header_in-small = refl

-- a place is found so
header_place-small : header_place (before_user ++ (97 ∷ 32 ∷ 109 ∷ [])) ≡ 23
unfolding header_place has_user user_in flag_alike name_prefix alike
header_place-small = refl
