-- A text means one thing at most.
use Rattle.std.proofs.Common.{◌≡◌, ◌≢◌, ◌<◌, ◌+◌, ◌/◌, ◌%◌, ℕ, Bool, not, eqb, List, [], ◌∷◌, ◌++◌, IsTrue, refl, sym, ap, ◌∙◌, arith, codes}
use Rattle.std.specs.List.{flat_map, list_all}
use Rattle.std.proofs.lemmas.List.{append_assoc, append_cancel_left}
use Rattle.job_script.specs.Header.{header_text}
use Rattle.job_script.specs.JobText.{after_directory, directory_lines, umask_line, variable_line}
use Rattle.job_script.specs.Meaning.{Piece, between_quotes, after_backslash, ArePieces, IsPiece, IsShellWord, Means, SetsVariables, spelling, holds_for}
use Rattle.job_script.specs.Variables.{are_variable_bytes, begins_variable, is_reserved, is_variable_byte, is_variable_name, may_be_set}
use Rattle.std.specs.Prelude.{slice_index}
use Rattle.job_script.proofs.HeaderLemmas.{one_header}
use Rattle.job_script.proofs.RunLemmas.{both_hold, same_run}

-- the text goes on with a byte that no piece of a word begins with
abbrev pub EndsWord : List ℕ → Type 0
EndsWord [] = Unit {0}
EndsWord (x ∷ xs) = (x ≢ 39) × (x ≢ 92)

-- there is no piece where a word ends
no_piece : (piece : Piece) (x more : List ℕ) → EndsWord x → x ≡ spelling piece ++ more → ⊥
no_piece (between_quotes bytes) [] more ends same = cc same
no_piece (between_quotes bytes) (c ∷ x) more ends same = ends.0 (cc same)
no_piece (after_backslash byte) [] more ends same = cc same
no_piece (after_backslash byte) (c ∷ x) more ends same = ends.1 (cc same)

-- two numbers that differ are not one
apart : (a b : ℕ) → a ≡ 39 → b ≡ 92 → a ≡ b → ⊥
apart a b one two same = omega arith

-- two pieces, or values, are one, and so is what follows them
pub record SameThen (v w x y : List ℕ) : Type 0 where
  pub value : v ≡ w
  pub rest : x ≡ y

-- two pieces at the start of one text are one
same_piece : (first second : Piece) (x y : List ℕ) → IsPiece first → IsPiece second → spelling first ++ x ≡ spelling second ++ y
    → SameThen (holds_for first) (holds_for second) x y
same_piece (between_quotes a) (between_quotes b) x y clean plain same =
    let tails : (a ++ 39 ∷ []) ++ x ≡ (b ++ 39 ∷ []) ++ y = cc same in
    let both : (a ≡ b) × (39 ∷ x ≡ 39 ∷ y) =
    same_run (λ byte. not (eqb byte 39)) a b (39 ∷ x) (39 ∷ y) clean plain refl refl
    (sym (append_assoc a (39 ∷ []) x) ∙ tails ∙ append_assoc b (39 ∷ []) y) in
    record { value = both.0; rest = cc both.1 }
same_piece (between_quotes a) (after_backslash b) x y clean plain same = absurd (apart 39 92 refl refl (cc same))
same_piece (after_backslash a) (between_quotes b) x y clean plain same = absurd (apart 39 92 refl refl (sym (cc same)))
same_piece (after_backslash a) (after_backslash b) x y clean plain same = record { value = cc same; rest = cc same }

-- two runs of pieces at the start of one text that end there stand for one value
same_pieces : (ps qs : List Piece) (x y : List ℕ) → ArePieces ps → ArePieces qs → EndsWord x → EndsWord y
    → flat_map spelling ps ++ x ≡ flat_map spelling qs ++ y
    → SameThen (flat_map holds_for ps) (flat_map holds_for qs) x y
same_pieces [] [] x y each others xs ys same = record { value = refl; rest = same }
same_pieces [] (q ∷ qs) x y each others xs ys same =
    absurd (no_piece q x (flat_map spelling qs ++ y) xs (same ∙ append_assoc (spelling q) (flat_map spelling qs) y))
same_pieces (p ∷ ps) [] x y each others xs ys same =
    absurd (no_piece p y (flat_map spelling ps ++ x) ys (sym same ∙ append_assoc (spelling p) (flat_map spelling ps) x))
same_pieces (p ∷ ps) (q ∷ qs) x y each others xs ys same =
    let first : SameThen (holds_for p) (holds_for q) (flat_map spelling ps ++ x) (flat_map spelling qs ++ y) =
    same_piece p q (flat_map spelling ps ++ x) (flat_map spelling qs ++ y) each.0 others.0
    (sym (append_assoc (spelling p) (flat_map spelling ps) x) ∙ same ∙ append_assoc (spelling q) (flat_map spelling qs) y) in
    let more : SameThen (flat_map holds_for ps) (flat_map holds_for qs) x y =
    same_pieces ps qs x y each.1 others.1 xs ys first.rest in
    record { value = λ i. first.value i ++ more.value i; rest = more.rest }

-- a text that ends a word has one word before it, with one value
pub same_word : (t u v w x y : List ℕ) → IsShellWord t v → IsShellWord u w → EndsWord x → EndsWord y
    → t ++ x ≡ u ++ y → SameThen v w x y
same_word t u v w x y one two xs ys same =
    let both : SameThen (flat_map holds_for one.pieces) (flat_map holds_for two.pieces) x y =
    same_pieces one.pieces two.pieces x y one.each two.each xs ys
    (ap (λ (it : List ℕ). it ++ x) (sym one.spelled) ∙ same ∙ ap (λ (it : List ℕ). it ++ y) two.spelled) in
    record { value = one.meant ∙ both.value ∙ sym two.meant; rest = both.rest }

-- what is after the name in a variable's line
abbrev pub after_name : List ℕ → List ℕ → List ℕ → List ℕ
after_name name word rest = 61 ∷ (word ++ (codes "; export " ++ (name ++ (10 ∷ rest))))

-- the line of a variable and what follows it, part by part
pub line_parts : (name word rest : List ℕ) → variable_line name word ++ rest ≡ name ++ after_name name word rest
line_parts name word rest = simp append_assoc

-- the bytes of a name that is allowed are such bytes
pub name_bytes : (name : List ℕ) → IsTrue (may_be_set name) → IsTrue (list_all is_variable_byte name)
name_bytes name may =
    (both_hold (begins_variable (slice_index name 0)) (are_variable_bytes name)
    (both_hold (is_variable_name name) (not (is_reserved name)) may).0).1

-- two lines of variables at the start of one text are one
pub record SameLine (name other value worth x y : List ℕ) : Type 0 where
  pub names : name ≡ other
  pub values : value ≡ worth
  pub rest : x ≡ y

-- a line at the start of a text is one line
pub same_line : (name other word another value worth x y : List ℕ) → IsTrue (may_be_set name) → IsTrue (may_be_set other)
    → IsShellWord word value → IsShellWord another worth
    → variable_line name word ++ x ≡ variable_line other another ++ y → SameLine name other value worth x y
same_line name other word another value worth x y may can one two same =
    let names : (name ≡ other) × (after_name name word x ≡ after_name other another y) =
    same_run is_variable_byte name other (after_name name word x) (after_name other another y)
    (name_bytes name may) (name_bytes other can) refl refl
    (sym (line_parts name word x) ∙ same ∙ line_parts other another y) in
    let words : SameThen value worth (codes "; export " ++ (name ++ (10 ∷ x))) (codes "; export " ++ (other ++ (10 ∷ y))) =
    same_word word another value worth (codes "; export " ++ (name ++ (10 ∷ x))) (codes "; export " ++ (other ++ (10 ∷ y)))
    one two ((λ e. omega arith), (λ e. omega arith)) ((λ e. omega arith), (λ e. omega arith)) (cc names.1) in
    let ends : (name ≡ other) × (10 ∷ x ≡ 10 ∷ y) =
    same_run is_variable_byte name other (10 ∷ x) (10 ∷ y) (name_bytes name may) (name_bytes other can) refl refl
    (append_cancel_left (codes "; export ") (name ++ (10 ∷ x)) (other ++ (10 ∷ y)) words.rest) in
    record { names = names.0; values = words.value; rest = cc ends.1 }

-- the heads of two such texts differ
space_is_no_sign : (a b : ℕ) → a ≡ 32 → b ≡ 61 → a ≡ b → ⊥
space_is_no_sign a b one two same = omega arith

-- the line that changes the directory is no line of a variable
pub no_line : (name word place x y : List ℕ) → IsTrue (may_be_set name)
    → variable_line name word ++ x ≡ directory_lines place ++ y → ⊥
no_line name word place x y may same =
    let both : (name ≡ 99 ∷ 100 ∷ []) × (after_name name word x ≡ 32 ∷ ((place ++ after_directory) ++ y)) =
    same_run is_variable_byte name (99 ∷ 100 ∷ []) (after_name name word x) (32 ∷ ((place ++ after_directory) ++ y))
    (name_bytes name may) refl refl refl (sym (line_parts name word x) ∙ same) in
    space_is_no_sign 32 61 refl refl (sym (cc both.1))

-- what is after the word of the directory
abbrev pub after_word : List ℕ → List ℕ
after_word commands = after_directory ++ commands

-- the lines that change the directory and the commands, part by part
pub directory_parts : (word commands : List ℕ) → directory_lines word ++ commands ≡ codes "cd " ++ (word ++ after_word commands)
directory_parts word commands = simp append_assoc

-- two texts that change the directory and then have commands are one
pub same_directory : (w u d e c f : List ℕ) → IsShellWord w d → IsShellWord u e
    → directory_lines w ++ c ≡ directory_lines u ++ f → SameThen d e c f
same_directory w u d e c f one two same =
    let words : SameThen d e (after_word c) (after_word f) =
    same_word w u d e (after_word c) (after_word f) one two ((λ e. omega arith), (λ e. omega arith))
    ((λ e. omega arith), (λ e. omega arith))
    (append_cancel_left (codes "cd ") (w ++ after_word c) (u ++ after_word f)
    (sym (directory_parts w c) ∙ same ∙ directory_parts u f)) in
    record { value = words.value; rest = append_cancel_left after_directory c f words.rest }

-- what two texts set, where they go to and what they run
pub record SameLines (variables others : List (List ℕ × List ℕ)) (d e c f : List ℕ) : Type 0 where
  pub set : variables ≡ others
  pub directory : d ≡ e
  pub commands : c ≡ f

-- a text after the umask sets, goes to and runs one thing
pub same_lines : (variables others : List (List ℕ × List ℕ)) (l m w u d e c f : List ℕ)
    → SetsVariables l variables → SetsVariables m others → IsShellWord w d → IsShellWord u e
    → l ++ (directory_lines w ++ c) ≡ m ++ (directory_lines u ++ f) → SameLines variables others d e c f
same_lines [] [] l m w u d e c f sets also one two same =
    let place : SameThen d e c f =
    same_directory w u d e c f one two
    (sym (ap (λ (it : List ℕ). it ++ (directory_lines w ++ c)) sets) ∙ same
    ∙ ap (λ (it : List ℕ). it ++ (directory_lines u ++ f)) also) in
    record { set = refl; directory = place.value; commands = place.rest }
same_lines [] (v ∷ others) l m w u d e c f sets also one two same =
    absurd (no_line v.0 also.1 w (also.3 ++ (directory_lines u ++ f)) c also.0
    (sym (append_assoc (variable_line v.0 also.1) also.3 (directory_lines u ++ f))
    ∙ ap (λ (it : List ℕ). it ++ (directory_lines u ++ f)) (sym also.4) ∙ sym same
    ∙ ap (λ (it : List ℕ). it ++ (directory_lines w ++ c)) sets))
same_lines (v ∷ variables) [] l m w u d e c f sets also one two same =
    absurd (no_line v.0 sets.1 u (sets.3 ++ (directory_lines w ++ c)) f sets.0
    (sym (append_assoc (variable_line v.0 sets.1) sets.3 (directory_lines w ++ c))
    ∙ ap (λ (it : List ℕ). it ++ (directory_lines w ++ c)) (sym sets.4) ∙ same
    ∙ ap (λ (it : List ℕ). it ++ (directory_lines u ++ f)) also))
same_lines (v ∷ variables) (z ∷ others) l m w u d e c f sets also one two same =
    let line : SameLine v.0 z.0 v.1 z.1 (sets.3 ++ (directory_lines w ++ c)) (also.3 ++ (directory_lines u ++ f)) =
    same_line v.0 z.0 sets.1 also.1 v.1 z.1 (sets.3 ++ (directory_lines w ++ c)) (also.3 ++ (directory_lines u ++ f))
    sets.0 also.0 sets.2 also.2
    (sym (append_assoc (variable_line v.0 sets.1) sets.3 (directory_lines w ++ c))
    ∙ ap (λ (it : List ℕ). it ++ (directory_lines w ++ c)) (sym sets.4) ∙ same
    ∙ ap (λ (it : List ℕ). it ++ (directory_lines u ++ f)) also.4
    ∙ append_assoc (variable_line z.0 also.1) also.3 (directory_lines u ++ f)) in
    let more : SameLines variables others d e c f =
    same_lines variables others sets.3 also.3 w u d e c f sets.5 also.5 one two line.rest in
    record { set = λ i. (line.names i, line.values i) ∷ more.set i; directory = more.directory; commands = more.commands }

-- three octal digits spell one number
same_digits : (a b : ℕ) → a < 512 → b < 512 → 48 + a / 64 % 8 ≡ 48 + b / 64 % 8 → 48 + a / 8 % 8 ≡ 48 + b / 8 % 8
    → 48 + a % 8 ≡ 48 + b % 8 → a ≡ b
same_digits a b few less first second third = omega arith

-- two lines at the start of one text set one umask
pub same_umask : (a b : ℕ) (x y : List ℕ) → a < 512 → b < 512 → umask_line a ++ x ≡ umask_line b ++ y → (a ≡ b) × (x ≡ y)
same_umask a b x y few less same =
    (same_digits a b few less (cc same) (cc same) (cc same), cc same)

-- what a text means, twice
pub record SameMeaning (user name : List ℕ) (mail flag : Bool) (umask mask : ℕ) (variables others : List (List ℕ × List ℕ))
    (d e c f : List ℕ) : Type 0 where
  pub users : user ≡ name
  pub mails : mail ≡ flag
  pub umasks : umask ≡ mask
  pub lines : SameLines variables others d e c f

-- a text means one thing
pub same_meaning : (text user name : List ℕ) (mail flag : Bool) (umask mask : ℕ) (variables others : List (List ℕ × List ℕ))
    (d e c f : List ℕ) → Means text user mail umask variables d c → Means text name flag mask others e f
    → SameMeaning user name mail flag umask mask variables others d e c f
same_meaning text user name mail flag umask mask variables others d e c f one two =
    let first : List ℕ = umask_line umask ++ (one.lines ++ (directory_lines one.word ++ c)) in
    let second : List ℕ = umask_line mask ++ (two.lines ++ (directory_lines two.word ++ f)) in
    let header : (user ≡ name) × (mail ≡ flag) =
    one_header text user name mail flag (record { name = one.name; rest = first; text = one.all })
    (record { name = two.name; rest = second; text = two.all }) in
    let after : first ≡ second =
    append_cancel_left (header_text user mail) first second
    (sym one.all ∙ two.all ∙ sym (λ i. header_text (header.0 i) (header.1 i) ++ second)) in
    let masks : (umask ≡ mask) × (one.lines ++ (directory_lines one.word ++ c) ≡ two.lines ++ (directory_lines two.word ++ f)) =
    same_umask umask mask (one.lines ++ (directory_lines one.word ++ c)) (two.lines ++ (directory_lines two.word ++ f))
    one.octal two.octal after in
    record {
      users = header.0;
      mails = header.1;
      umasks = masks.0;
      lines = same_lines variables others one.lines two.lines one.word two.word d e c f one.sets two.sets one.goes_to two.goes_to masks.1;
    }
