-- Inputs whose content is given (own).
use Rattle.std.specs.Prelude.{◌≡◌, ◌++◌, [], ◌∷◌, ℕ, Bool, true, false, List, Option, Some, None, length}
use Rattle.host_calls.specs.Inputs.{Contents}

-- the content of inputs in memory: each path names the one file
abbrev pub given_contents : List ℕ → Option (List ℕ) → Contents
given_contents standard file = record { standard = standard; file = λ path. file }

-- the whole number that stands for a choice
abbrev pub spelled_choice : Bool → ℕ
spelled_choice true = 1
spelled_choice false = 0

-- the whole numbers that stand for a file: none where there is no file
abbrev pub spelled_file : Option (List ℕ) → List ℕ
spelled_file None = []
spelled_file (Some bytes) = 1 ∷ bytes

-- what inputs with this content are made as: whether they fail, how long standard input is, and the content
abbrev pub inputs_spelling : List ℕ → Option (List ℕ) → Bool → List ℕ
inputs_spelling standard file fails = spelled_choice fails ∷ length standard ∷ (standard ++ spelled_file file)

-- Inputs that were made with a file and not to fail have never failed.
abbrev pub KeepToContent : List ℕ → ℕ → Type 0
KeepToContent made_as faults =
    (standard file : List ℕ) → made_as ≡ inputs_spelling standard (Some file) false → faults ≡ 0
