-- Files of text records, a line each (POSIX.1-2017, XBD 3.206, Line: zero or more bytes that are no newline, and a
-- newline). That a file may hold nothing else, and which record may come next, is this project's own.
use Rattle.std.specs.Prelude.{◌≡◌, ◌<◌, ◌+◌, ◌==◌, ℕ, false, List, [], ◌∷◌, ◌++◌, length, take, drop}
use Rattle.std.specs.List.{list_any}

-- the byte is nowhere among these
abbrev pub HasNone : ℕ → List ℕ → Type 0
HasNone byte bytes = list_any (λ other. other == byte) bytes ≡ false

-- the bytes have no newline
abbrev pub HasNoNewline : List ℕ → Type 0
HasNoNewline bytes = HasNone 10 bytes

-- the bytes begin with a line that spells the record, and the rest comes after its newline
pub record BeginsWith {R : Type 0} (spells : List ℕ → R → Type 0) (bytes : List ℕ) (one : R) (rest : List ℕ) : Type 0 where
  pub line : List ℕ
  pub whole : HasNoNewline line
  pub parted : bytes ≡ line ++ 10 ∷ rest
  pub spelled : spells line one

-- the bytes are the lines of the records, in order
abbrev pub AreSpelled : {R : Type 0} → (List ℕ → R → Type 0) → List ℕ → List R → Type 0
AreSpelled spells bytes [] = bytes ≡ []
AreSpelled spells bytes (one ∷ later) = (rest : List ℕ) × (BeginsWith spells bytes one rest × AreSpelled spells rest later)

-- each of the records may come after those before it
abbrev pub AreLegalAfter : {R : Type 0} → (List R → R → Type 0) → List R → List R → Type 0
AreLegalAfter legal before [] = Unit {0}
AreLegalAfter legal before (one ∷ later) = legal before one × AreLegalAfter legal (before ++ one ∷ []) later

-- the file has these records
pub record AreRecordLines {R : Type 0} (spells : List ℕ → R → Type 0) (legal : List R → R → Type 0) (bytes : List ℕ)
    (records : List R)
    : Type 0 where
  pub spelled : AreSpelled spells bytes records
  pub in_turn : AreLegalAfter legal [] records

-- after these records the first line of the bytes is bad: it lacks its newline, or spells no record that may come next
pub data HasBadFirstLine {R : Type 0} (spells : List ℕ → R → Type 0) (legal : List R → R → Type 0) (before : List R) (bytes : List ℕ)
    : Type 0 where
  no_newline : HasNoNewline bytes → HasBadFirstLine spells legal before bytes
  no_record : (line rest : List ℕ) → HasNoNewline line → bytes ≡ line ++ 10 ∷ rest
      → ((one : R) → spells line one → ¬ legal before one) → HasBadFirstLine spells legal before bytes

-- the first bad line of the file begins at this offset
pub record IsFirstBadLine {R : Type 0} (spells : List ℕ → R → Type 0) (legal : List R → R → Type 0) (bytes : List ℕ) (offset : ℕ)
    : Type 0 where
  pub records : List R
  pub before : AreRecordLines spells legal (take offset bytes) records
  pub inside : offset < length bytes
  pub bad : HasBadFirstLine spells legal records (drop offset bytes)

-- after these records the first line of the bytes spells one that may come next, and is so long with its newline
pub record IsGoodLine {R : Type 0} (spells : List ℕ → R → Type 0) (legal : List R → R → Type 0) (before : List R) (bytes : List ℕ)
    (one : R) (count : ℕ) : Type 0 where
  pub rest : List ℕ
  pub begins : BeginsWith spells bytes one rest
  pub counted : length bytes ≡ count + length rest
  pub may : legal before one

-- some line spells the record
pub record CanBeSpelled {R : Type 0} (spells : List ℕ → R → Type 0) (one : R) : Type 0 where
  pub line : List ℕ
  pub whole : HasNoNewline line
  pub spelled : spells line one

-- a line that spells the record was added to the text
pub record IsLineAdded {R : Type 0} (spells : List ℕ → R → Type 0) (one : R) (old new : List ℕ) : Type 0 where
  pub line : List ℕ
  pub whole : HasNoNewline line
  pub spelled : spells line one
  pub added : new ≡ old ++ line
