-- Files of records: one more line, lines that are added, and that a file has one reading.
use Rattle.std.proofs.Common.{◌≡◌, ◌∙◌, ℕ, ◌+◌, ◌-◌, ◌<◌, List, [], ◌∷◌, ◌++◌, length, take, drop, get_or, refl, sym, ap, subst, arith, append_assoc, append-nil, length-append, length-drop}
use Rattle.std.proofs.lemmas.List.{length-take, take-append-drop, take_all, take_at, take_more}
use Rattle.std.proofs.Math.Seq.{take-add}
use Rattle.std.specs.List.{All}
use Rattle.std.proofs.lemmas.List.Elements.{All-nil, All-cons}
use Rattle.record_lines.specs.Lines.{AreLegalAfter, AreRecordLines, AreSpelled, BeginsWith, CanBeSpelled, HasNoNewline, HasBadFirstLine, IsFirstBadLine, IsGoodLine, no_newline, no_record}
use Rattle.record_lines.proofs.LineLemmas.{newline_holds, one_split}

-- a line spells one record at most
abbrev pub SpellsOne : {R : Type 0} → (List ℕ → R → Type 0) → Type 0
SpellsOne {R} spells = (line : List ℕ) (first second : R) → spells line first → spells line second → first ≡ second

-- lines after lines
pub spelled_both : {R : Type 0} (spells : List ℕ → R → Type 0) (bytes added : List ℕ) (records more : List R)
    → AreSpelled spells bytes records → AreSpelled spells added more → AreSpelled spells (bytes ++ added) (records ++ more)
spelled_both spells bytes added [] more first second = subst (λ text. AreSpelled spells (text ++ added) more) (sym first) second
spelled_both spells bytes added (one ∷ later) more (rest, (begins, first)) second =
    let starts : BeginsWith spells (bytes ++ added) one (rest ++ added) = record {
      line = begins.line;
      whole = begins.whole;
      parted = ap (λ text. text ++ added) begins.parted ∙ append_assoc begins.line (10 ∷ rest) added;
      spelled = begins.spelled;
    } in
    (rest ++ added, (starts, spelled_both spells rest added later more first second))

-- records after records
pub legal_both : {R : Type 0} (legal : List R → R → Type 0) (before records more : List R)
    → AreLegalAfter legal before records → AreLegalAfter legal (before ++ records) more → AreLegalAfter legal before (records ++ more)
legal_both legal before [] more first second = subst (λ all. AreLegalAfter legal all more) (append-nil before) second
legal_both legal before (one ∷ later) more (may, first) second = (
  may,
  legal_both legal (before ++ one ∷ []) later more first
      (subst (λ all. AreLegalAfter legal all more) (sym (append_assoc before (one ∷ []) later)) second),
)

-- a file and lines that may come after its own
pub lines_both : {R : Type 0} (spells : List ℕ → R → Type 0) (legal : List R → R → Type 0) (bytes added : List ℕ) (records more : List R)
    → AreRecordLines spells legal bytes records → AreSpelled spells added more → AreLegalAfter legal records more
    → AreRecordLines spells legal (bytes ++ added) (records ++ more)
lines_both spells legal bytes added records more file second may = record {
  spelled = spelled_both spells bytes added records more file.spelled second;
  in_turn = legal_both legal [] records more file.in_turn may;
}

-- a line that was added spells one more record
line_more : {R : Type 0} (spells : List ℕ → R → Type 0) (bytes line : List ℕ) (records : List R) (one : R)
    → AreSpelled spells bytes records → HasNoNewline line → spells line one
    → AreSpelled spells ((bytes ++ line) ++ 10 ∷ []) (records ++ one ∷ [])
line_more spells bytes line records one first whole spelled =
    subst (λ text. AreSpelled spells text (records ++ one ∷ [])) (sym (append_assoc bytes line (10 ∷ [])))
    (spelled_both spells bytes (line ++ 10 ∷ []) records (one ∷ []) first
    ([], (record { line = line; whole = whole; parted = refl; spelled = spelled }, refl)))

-- and of the record at a place
pub line_at : {R : Type 0} (spells : List ℕ → R → Type 0) (bytes line text : List ℕ) (records : List R) (place : ℕ) (one : R)
    → place < length records → one ≡ get_or records place one → text ≡ bytes ++ line
    → AreSpelled spells bytes (take place records) → HasNoNewline line → spells line one
    → AreSpelled spells (text ++ 10 ∷ []) (take (place + 1) records)
line_at spells bytes line text records place one inside here added first whole spelled =
    let entry : take (place + 1) records ≡ take place records ++ one ∷ [] = take_more records place one inside
    ∙ ap (λ r. take place records ++ r ∷ []) (sym here) in
    rw (entry, added) (line_more spells bytes line (take place records) one first whole spelled)

-- one line and its newline, of what begins with them
take_line : (line rest : List ℕ) (count : ℕ) → count ≡ length line + 1 → take count (line ++ 10 ∷ rest) ≡ line ++ 10 ∷ []
take_line line rest count counted =
    let same : length (line ++ 10 ∷ []) ≡ count = simp length-append (omega arith) in
    ap (take count) (sym (append_assoc line (10 ∷ []) rest)) ∙ take_at (line ++ 10 ∷ []) rest count same

-- a good line after a file's makes a longer file
pub good_more : {R : Type 0} (spells : List ℕ → R → Type 0) (legal : List R → R → Type 0) (bytes : List ℕ) (offset : ℕ)
    (records : List R) (one : R) (count : ℕ)
    → AreRecordLines spells legal (take offset bytes) records → IsGoodLine spells legal records (drop offset bytes) one count
    → AreRecordLines spells legal (take (offset + count) bytes) (records ++ one ∷ [])
good_more spells legal bytes offset records one count file good =
    let begins = good.begins in
    let parted : length (drop offset bytes) ≡ length (begins.line ++ 10 ∷ good.rest) = ap length begins.parted in
    let counted : count ≡ length begins.line + 1 = let all : length (begins.line ++ 10 ∷ good.rest)
    ≡ length begins.line + (1 + length good.rest) = simp length-append (omega arith) in
    let here = good.counted in
    omega arith in
    let text : take (offset + count) bytes ≡ take offset bytes ++ (begins.line ++ 10 ∷ []) =
    take-add offset count bytes
    ∙ ap (λ more. take offset bytes ++ more) (ap (take count) begins.parted ∙ take_line begins.line good.rest count counted) in
    subst (λ all. AreRecordLines spells legal all (records ++ one ∷ [])) (sym text)
    (lines_both spells legal (take offset bytes) (begins.line ++ 10 ∷ []) records (one ∷ []) file
    ([], (record { line = begins.line; whole = begins.whole; parted = refl; spelled = begins.spelled }, refl)) (good.may, tt))

-- no bytes have no records
none_spelled : {R : Type 0} (spells : List ℕ → R → Type 0) (records : List R) → AreSpelled spells [] records → records ≡ []
none_spelled spells [] spelled = refl
none_spelled spells (one ∷ later) (rest, (begins, spelled)) =
    let counted : length (begins.line ++ 10 ∷ rest) ≡ 0 = sym (ap length begins.parted) in
    absurd (let all : length (begins.line ++ 10 ∷ rest) ≡ length begins.line + (1 + length rest) =
    simp length-append (omega arith) in omega arith)

-- what the lines after a file's own spell
pub record IsRest {R : Type 0} (spells : List ℕ → R → Type 0) (bytes : List ℕ) (early records : List R) : Type 0 where
  pub rest : List R
  pub whole : records ≡ early ++ rest
  pub spelled : AreSpelled spells bytes rest

spelled_rest : {R : Type 0} (spells : List ℕ → R → Type 0) → SpellsOne spells → (first second : List ℕ) (early records : List R)
    → AreSpelled spells first early → AreSpelled spells (first ++ second) records → IsRest spells second early records
spelled_rest spells unique first second [] records of_first of_all = record {
  rest = records;
  whole = refl;
  spelled = subst (λ text. AreSpelled spells (text ++ second) records) of_first of_all;
}
spelled_rest spells unique first second (one ∷ later) [] (rest, (begins, of_first)) of_all =
    let counted : length ((begins.line ++ 10 ∷ rest) ++ second) ≡ 0 =
    sym (ap (λ text. length (text ++ second)) begins.parted) ∙ ap length of_all in
    absurd (let all : length ((begins.line ++ 10 ∷ rest) ++ second) ≡ (length begins.line + (1 + length rest)) + length second =
    simp length-append (omega arith) in omega arith)
spelled_rest spells unique first second (one ∷ later) (other ∷ records) (rest, (begins, of_first)) (left, (starts, of_all)) =
    let same : begins.line ++ 10 ∷ (rest ++ second) ≡ starts.line ++ 10 ∷ left = sym (append_assoc begins.line (10 ∷ rest) second)
    ∙ ap (λ text. text ++ second) (sym begins.parted) ∙ starts.parted in
    let both = one_split 10 begins.line starts.line (rest ++ second) left begins.whole starts.whole same in
    let equal : one ≡ other = unique starts.line one other (subst (λ line. spells line one) both.0 begins.spelled) starts.spelled in
    let deeper =
    spelled_rest spells unique rest second later records of_first (subst (λ text. AreSpelled spells text records) (sym both.1) of_all) in
    record {
      rest = deeper.rest;
      whole = ap (λ r. r ∷ records) (sym equal) ∙ ap (λ list. one ∷ list) deeper.whole;
      spelled = deeper.spelled;
    }

pub one_list : {R : Type 0} (spells : List ℕ → R → Type 0) → SpellsOne spells → (bytes : List ℕ) (first second : List R)
    → AreSpelled spells bytes first → AreSpelled spells bytes second → first ≡ second
one_list spells unique bytes first second of_first of_second =
    let left = spelled_rest spells unique bytes [] second first of_second
    (subst (λ text. AreSpelled spells text first) (sym (append-nil bytes)) of_first) in
    left.whole ∙ ap (λ rest. second ++ rest) (none_spelled spells left.rest left.spelled) ∙ append-nil second

-- the later ones of records that may come
legal_rest : {R : Type 0} (legal : List R → R → Type 0) (before early rest : List R) → AreLegalAfter legal before (early ++ rest)
    → AreLegalAfter legal (before ++ early) rest
legal_rest legal before [] rest all = subst (λ list. AreLegalAfter legal list rest) (sym (append-nil before)) all
legal_rest legal before (one ∷ early) rest (may, all) =
    subst (λ list. AreLegalAfter legal list rest) (append_assoc before (one ∷ []) early)
    (legal_rest legal (before ++ one ∷ []) early rest all)

-- where lines spell records that may come, the first line isn't bad
not_bad : {R : Type 0} (spells : List ℕ → R → Type 0) (legal : List R → R → Type 0) (early rest : List R) (bytes more : List ℕ)
    → 0 < length bytes → AreSpelled spells bytes rest → AreLegalAfter legal early rest
    → HasBadFirstLine spells legal early (bytes ++ more) → ⊥
not_bad spells legal early [] bytes more some spelled may bad = let none : length bytes ≡ 0 = ap length spelled in omega arith
not_bad spells legal early (one ∷ later) bytes more some (rest, (begins, spelled)) (may, _) bad = by_case bad where
  begin : bytes ++ more ≡ begins.line ++ 10 ∷ (rest ++ more)
  begin = ap (λ text. text ++ more) begins.parted ∙ append_assoc begins.line (10 ∷ rest) more

  by_case : HasBadFirstLine spells legal early (bytes ++ more) → ⊥
  by_case (no_newline none) = newline_holds begins.line (rest ++ more) (subst HasNoNewline begin none)
  by_case (no_record line left whole parted none) =
      let both = one_split 10 line begins.line left (rest ++ more) whole begins.whole (sym parted ∙ begin) in
      none one (subst (λ text. spells text one) (sym both.0) begins.spelled) may

pub none_bad : {R : Type 0} (spells : List ℕ → R → Type 0) (legal : List R → R → Type 0) → SpellsOne spells
    → (bytes : List ℕ) (records : List R) (offset : ℕ)
    → AreRecordLines spells legal bytes records → IsFirstBadLine spells legal bytes offset → ⊥
none_bad spells legal unique bytes records offset file first =
    let left = spelled_rest spells unique (take offset bytes) (drop offset bytes) first.records records first.before.spelled
    (subst (λ text. AreSpelled spells text records) (sym (take-append-drop offset bytes)) file.spelled) in
    let inside = first.inside in
    not_bad spells legal first.records left.rest (drop offset bytes) [] (omega (arith, length-drop offset bytes)) left.spelled
    (legal_rest legal [] first.records left.rest (subst (AreLegalAfter legal []) left.whole file.in_turn))
    (subst (HasBadFirstLine spells legal first.records) (sym (append-nil (drop offset bytes))) first.bad)

-- no first bad line comes before another
not_before : {R : Type 0} (spells : List ℕ → R → Type 0) (legal : List R → R → Type 0) → SpellsOne spells → (bytes : List ℕ) (one two : ℕ)
    → IsFirstBadLine spells legal bytes one → IsFirstBadLine spells legal bytes two → one < two → ⊥
not_before spells legal unique bytes one two first second before =
    let inside = second.inside in
    let count : ℕ = two - one in
    let between : List ℕ = take count (drop one bytes) in
    let same : one + count ≡ two = omega arith in
    let text : take two bytes ≡ take one bytes ++ between = ap (λ place. take place bytes) (sym same) ∙ take-add one count bytes in
    let left = spelled_rest spells unique (take one bytes) between first.records second.records first.before.spelled
    (subst (λ all. AreSpelled spells all second.records) text second.before.spelled) in
    let some : 0 < length between = omega (arith, length-take count (drop one bytes), length-drop one bytes) in
    not_bad spells legal first.records left.rest between (drop count (drop one bytes)) some left.spelled
    (legal_rest legal [] first.records left.rest (subst (AreLegalAfter legal []) left.whole second.before.in_turn))
    (subst (HasBadFirstLine spells legal first.records) (sym (take-append-drop count (drop one bytes))) first.bad)

pub one_offset : {R : Type 0} (spells : List ℕ → R → Type 0) (legal : List R → R → Type 0) → SpellsOne spells
    → (bytes : List ℕ) (one two : ℕ)
    → IsFirstBadLine spells legal bytes one → IsFirstBadLine spells legal bytes two → one ≡ two
one_offset spells legal unique bytes one two first second =
    let least : ¬ (one < two) = not_before spells legal unique bytes one two first second in
    let most : ¬ (two < one) = not_before spells legal unique bytes two one second first in
    omega arith

-- what is left of the bytes, as a range of them says it
pub range_left : (bytes : List ℕ) (offset : ℕ) → take (length bytes - offset) (drop offset bytes) ≡ drop offset bytes
range_left bytes offset = take_all (length bytes - offset) (drop offset bytes) (omega (arith, length-drop offset bytes))

-- what lines spell can be spelled
pub all_can : {R : Type 0} (spells : List ℕ → R → Type 0) (bytes : List ℕ) (records : List R) → AreSpelled spells bytes records
    → All (CanBeSpelled spells) records
all_can spells bytes [] spelled = All-nil (CanBeSpelled spells)
all_can spells bytes (one ∷ later) (rest, (begins, spelled)) =
    All-cons (CanBeSpelled spells) one later (record { line = begins.line; whole = begins.whole; spelled = begins.spelled })
    (all_can spells rest later spelled)
