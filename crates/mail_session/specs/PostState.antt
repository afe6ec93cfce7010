-- What a post keeps from session to session (own).
use Rattle.std.specs.Prelude.{◌==◌, ◌&&◌, [], ◌∷◌, ℕ, Bool, false, List, not, refl}
use Rattle.std.specs.Coded.{Coded, code_by, coded×, coded_ℕ, coded_list}
use Rattle.std.specs.List.{list_any}
use Rattle.daemon_turn.specs.contracts.kid.Kid as kid
use Rattle.daemon_turn.specs.declared.kid.Kid.{Kid}

-- What a post keeps: its mail program, and its children, each the child of the notice of its number.
pub record PostState : Type 0 where
  pub program : List ℕ
  pub kids : List Kid

-- a post that has no children
abbrev pub new_post : List ℕ → PostState
new_post program = record { program = program; kids = [] }

-- How a proof distinguishes one post from another: by these two
abbrev pub post_code : Coded PostState
post_code =
    code_by (List ℕ × List Kid) (coded× (coded_list coded_ℕ) (coded_list kid.the_row.coded))
    (λ post. (post.program, post.kids))
    (λ parts. record { program = parts.0; kids = parts.1 })
    (λ _. refl)

-- the text begins with a slash
abbrev pub begins_with_slash : List ℕ → Bool
begins_with_slash [] = false
begins_with_slash (byte ∷ later) = byte == 47

-- the text may name the mail program: it begins with a slash, and no byte of it is zero
abbrev pub may_be_program : List ℕ → Bool
may_be_program text = begins_with_slash text && not (list_any (λ byte. byte == 0) text)
