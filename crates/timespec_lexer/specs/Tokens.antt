-- The tokens of a text (POSIX.1-2017, XCU, at: timespec; the marks of numeric dates: Debian's at(1)). That separators may
-- be absent, and how many digits a number and how many tokens a text may have, is this project's own.
use Rattle.std.specs.Prelude.{◌≡◌, ℕ, zero, suc, ◌+◌, ◌-◌, ◌*◌, ◌<◌, ◌≤◌, ◌⊎◌, ◌==◌, ◌||◌, Bool, false, List, [], ◌∷◌, length, slice_index, IsTrue, All, Contains, Option, Some, None, if◌then◌else◌}
use Rattle.std.specs.Char.{is_ascii_digit, is_ascii_alphabetic, to_ascii_lowercase}
use Rattle.timespec_lexer.specs.Keywords.{keywords}
use Rattle.timespec_lexer.specs.declared.lexer.TheConstants.{MAX_TOKENS}
use Rattle.timespec_lexer.specs.declared.number.TheConstants.{MAX_DIGITS}
use Rattle.timespec_lexer.specs.declared.token.Token.{Token}
use Rattle.timespec_lexer.specs.declared.token.Token.TheVariants.{Number, Colon, Comma, Plus, Slash, Dot, Dash}
use Rattle.timespec_lexer.specs.declared.placed.Placed.{Placed}

-- a space, a tab or a newline
abbrev pub is_separator : ℕ → Bool
is_separator byte = byte == 32 || byte == 9 || byte == 10

-- only separators lie from one place up to another
pub record AreSeparators (text : List ℕ) (from to : ℕ) : Type 0 where
  pub forward : from ≤ to
  pub each : (k : ℕ) → from ≤ k → k < to → IsTrue (is_separator (slice_index text k))

-- the byte at a place is a digit
abbrev pub IsDigitAt : List ℕ → ℕ → Type 0
IsDigitAt text place = IsTrue (is_ascii_digit (slice_index text place))

-- all the digits that follow one another from a place on end before another place
pub record IsRun (text : List ℕ) (from to : ℕ) : Type 0 where
  pub some : from < to
  pub each : (k : ℕ) → from ≤ k → k < to → IsDigitAt text k
  pub whole : is_ascii_digit (slice_index text to) ≡ false

-- the decimal number that so many digits from a place on spell
abbrev pub number_at : List ℕ → ℕ → ℕ → ℕ
number_at text place zero = 0
number_at text place (suc count) =
    number_at text place count * 10 + (slice_index text (place + count) - 48)

-- the token of a mark
abbrev pub mark_of : ℕ → Option Token
mark_of byte =
    if byte == 58 then Some Colon
    else (if byte == 44 then Some Comma
    else (if byte == 43 then Some Plus
    else (if byte == 47 then Some Slash
    else (if byte == 46 then Some Dot
    else (if byte == 45 then Some Dash
    else None)))))

-- the text has the word at a place, in letters of either case
pub record HasWord (text : List ℕ) (place : ℕ) (word : List ℕ) : Type 0 where
  pub within : place + length word ≤ length text
  pub letters : (k : ℕ) → k < length word
      → to_ascii_lowercase (slice_index text (place + k)) ≡ slice_index word k

-- a table of words and their tokens
abbrev pub WordTable : Type 0
WordTable = List (List ℕ × Token)

-- the word with this token is the longest of the table that the text has at a place
pub record IsLongest (text : List ℕ) (place : ℕ) (table : WordTable) (word : List ℕ) (token : Token) : Type 0 where
  pub listed : Contains table (word, token)
  pub here : HasWord text place word
  pub longest : All (λ row. HasWord text place row.0 → length row.0 ≤ length word) table

-- the text has none of the table's words at a place
abbrev pub HasNoWord : List ℕ → ℕ → WordTable → Type 0
HasNoWord text place table = All (λ row. ¬ HasWord text place row.0) table

-- a number goes from one place up to another
pub record HasNumber (text : List ℕ) (from to : ℕ) (token : Token) : Type 0 where
  pub run : IsRun text from to
  pub few : to ≤ from + MAX_DIGITS
  pub value : token ≡ Number (to - from) (number_at text from (to - from))

-- a mark goes from one place up to another
pub record HasMark (text : List ℕ) (from to : ℕ) (token : Token) : Type 0 where
  pub mark : mark_of (slice_index text from) ≡ Some token
  pub one : to ≡ from + 1

-- a keyword goes from one place up to another, and no longer one begins there
pub record HasKeyword (text : List ℕ) (from to : ℕ) (token : Token) : Type 0 where
  pub letter : IsTrue (is_ascii_alphabetic (slice_index text from))
  pub word : List ℕ
  pub longest : IsLongest text from keywords word token
  pub all : to ≡ from + length word

-- the token goes from one place up to another
abbrev pub HasToken : List ℕ → ℕ → ℕ → Token → Type 0
HasToken text from to token =
    HasNumber text from to token
    ⊎ (HasMark text from to token
    ⊎ HasKeyword text from to token)

-- the tokens are in turn from one place up to another, with only separators between them
abbrev pub Walks : List ℕ → ℕ → List Placed → ℕ → Type 0
Walks text from [] to = from ≡ to
Walks text from (first ∷ others) to =
    AreSeparators text from first.place
    × (end : ℕ) × HasToken text first.place end first.token × Walks text end others to

-- the whole text is these tokens, and separators
pub record Tokenizes (text : List ℕ) (placed : List Placed) : Type 0 where
  pub few : length placed ≤ MAX_TOKENS
  pub end : ℕ
  pub walks : Walks text 0 placed end
  pub separators : AreSeparators text end (length text)

-- no token begins at a place: a byte that begins none, a letter without a keyword, or more digits than a number has
pub data BeginsNoToken (text : List ℕ) (place : ℕ) : Type 0 where
  strange : is_ascii_digit (slice_index text place) ≡ false
      → is_ascii_alphabetic (slice_index text place) ≡ false
      → mark_of (slice_index text place) ≡ None → BeginsNoToken text place
  no_word : IsTrue (is_ascii_alphabetic (slice_index text place))
      → HasNoWord text place keywords → BeginsNoToken text place
  long_run : ((k : ℕ) → k ≤ MAX_DIGITS → IsDigitAt text (place + k)) → BeginsNoToken text place

-- the text is refused at a place: after the tokens before it none begins, or one too many
pub record RefusedAt (text : List ℕ) (place : ℕ) : Type 0 where
  pub before : List Placed
  pub few : length before ≤ MAX_TOKENS
  pub end : ℕ
  pub walks : Walks text 0 before end
  pub separators : AreSeparators text end place
  pub inside : place < length text
  pub here : is_separator (slice_index text place) ≡ false
  pub cause : BeginsNoToken text place ⊎ (length before ≡ MAX_TOKENS)

-- the text is no other tokens than these, and is refused nowhere
pub record IsOnlyReading (text : List ℕ) (placed : List Placed) : Type 0 where
  pub no_other : (other : List Placed) → Tokenizes text other → other ≡ placed
  pub never_refused : (place : ℕ) → ¬ RefusedAt text place

-- the text is refused at no other place, and has no tokens
pub record IsOnlyRefusal (text : List ℕ) (place : ℕ) : Type 0 where
  pub no_other : (other : ℕ) → RefusedAt text other → other ≡ place
  pub no_tokens : (placed : List Placed) → ¬ Tokenizes text placed
