-- What is written between single quotes is a word of the shell, and stands for what was quoted.
use Rattle.std.proofs.Common.{◌≡◌, ℕ, Bool, true, false, nat_eq, List, [], ◌∷◌, ◌++◌, IsTrue, refl, sym, ap, ◌∙◌, arith}
use Rattle.std.specs.List.{flat_map}
use Rattle.std.proofs.lemmas.List.{append_assoc}
use Rattle.std.proofs.lemmas.Bool.Decides.{nat_tests}
use Rattle.job_script.specs.Header.{before_user}
use Rattle.job_script.specs.JobText.{quoted, quoted_part, after_directory, variable_lines}
use Rattle.job_script.specs.Meaning.{Piece, between_quotes, after_backslash, ArePieces, IsShellWord, SetsVariables, has_no_quote, spelling, holds_for}
use Rattle.job_script.specs.Variables.{may_be_set}

-- a word whose first quote is open: the bytes up to the next quote, and the pieces after it
record IsOpened (value : List ℕ) : Type 0 where
  run : List ℕ
  pieces : List Piece
  clean : IsTrue (has_no_quote run)
  each : ArePieces pieces
  spelled : flat_map quoted_part value ++ 39 ∷ [] ≡ run ++ (39 ∷ flat_map spelling pieces)
  meant : value ≡ run ++ flat_map holds_for pieces

-- one more byte before such a word
opens : (byte : ℕ) (value : List ℕ) (is_quote : Bool) → nat_eq byte 39 ≡ is_quote → IsOpened value → IsOpened (byte ∷ value)
opens byte value true here o =
    let quote : byte ≡ 39 = grind (arith, nat_tests, here) in
    record {
      run = [];
      pieces = after_backslash 39 ∷ between_quotes o.run ∷ o.pieces;
      clean = refl;
      each = ((λ same. omega arith), (o.clean, o.each));
      spelled = rw here (ap (λ (it : List ℕ). 39 ∷ 92 ∷ 39 ∷ 39 ∷ it)
          (o.spelled ∙ sym (append_assoc o.run (39 ∷ []) (flat_map spelling o.pieces))));
      meant = ap (λ (first : ℕ). first ∷ value) quote ∙ ap (λ (it : List ℕ). 39 ∷ it) o.meant;
    }
opens byte value false here o = record {
  run = byte ∷ o.run;
  pieces = o.pieces;
  clean = rw here o.clean;
  each = o.each;
  spelled = rw here (ap (λ (it : List ℕ). byte ∷ it) o.spelled);
  meant = ap (λ (it : List ℕ). byte ∷ it) o.meant;
}

-- a value whose first quote is open
opened : (value : List ℕ) → IsOpened value
opened [] = record { run = []; pieces = []; clean = refl; each = tt; spelled = refl; meant = refl }
opened (byte ∷ value) = opens byte value (nat_eq byte 39) refl (opened value)

-- a quoted value is a word of the shell with this value
pub quoted_word : (value : List ℕ) → IsShellWord (quoted value) value
quoted_word value =
    let o : IsOpened value = opened value in
    record {
      pieces = between_quotes o.run ∷ o.pieces;
      some = omega arith;
      each = (o.clean, o.each);
      spelled = ap (λ (it : List ℕ). 39 ∷ it)
          (o.spelled ∙ sym (append_assoc o.run (39 ∷ []) (flat_map spelling o.pieces)));
      meant = o.meant;
    }

-- each of the variables may be in a job
abbrev pub MayAllBeSet : List (List ℕ × List ℕ) → Type 0
MayAllBeSet [] = Unit {0}
MayAllBeSet (variable ∷ others) = IsTrue (may_be_set variable.0) × MayAllBeSet others

-- the lines of variables set them in turn
pub lines_set : (variables : List (List ℕ × List ℕ)) → MayAllBeSet variables → SetsVariables (variable_lines variables) variables
lines_set [] stand = refl
lines_set (variable ∷ others) stand =
    (stand.0, quoted variable.1, quoted_word variable.1, variable_lines others, refl, lines_set others stand.1)

-- the parts of a job text, put one after the other
pub put_together : (u b m v q c t2 t3 t4 t5 t6 t7 t8 t9 : List ℕ) → t2 ≡ before_user ++ u → t3 ≡ t2 ++ b → t4 ≡ t3 ++ m → t5 ≡ t4 ++ v
    → t6 ≡ t5 ++ (99 ∷ 100 ∷ 32 ∷ []) → t7 ≡ t6 ++ q → t8 ≡ t7 ++ after_directory → t9 ≡ t8 ++ c
    → t9 ≡ (before_user ++ (u ++ b)) ++ (m ++ (v ++ (((99 ∷ 100 ∷ 32 ∷ []) ++ (q ++ after_directory)) ++ c)))
put_together u b m v q c t2 t3 t4 t5 t6 t7 t8 t9 e2 e3 e4 e5 e6 e7 e8 e9 =
    rw (e9, e8, e7, e6, e5, e4, e3, e2) (simp append_assoc)
