-- What the parser has shown where it stops.
use Rattle.std.proofs.Common.{◌≡◌, ℕ, ◌+◌, ◌<◌, ◌≤◌, List, [], ◌∷◌, ◌++◌, length, take, take-take, drop, get_or, refl, sym, append_assoc, ◌∙◌, ap, subst, arith, Option, Some, None, inl, inr}
use Rattle.std.specs.Prelude.{IfSome, option_and_then}
use Rattle.std.proofs.lemmas.List.{take_all, take_more, take-append-drop, map-append, length-map}
use Rattle.std.specs.List.{take-map}
use Rattle.timespec_lexer.specs.declared.token.Token.{Token}
use Rattle.timespec_lexer.specs.declared.placed.Placed.{Placed}
use Rattle.timespec_grammar.specs.declared.timespec.Timespec.{Timespec}
use Rattle.timespec_grammar.specs.declared.read.Read.{Read}
use Rattle.timespec_grammar.specs.declared.read.Read.TheVariants as read
use Rattle.timespec_grammar.specs.Grammar.{Spells, tokens_of}
use Rattle.timespec_grammar.specs.Viable.{PrefixesAreViable, IsExtendable, IsViable, StopsAt}
use Rattle.timespec_grammar.specs.inside.Steps.{step, timespec_read}
use Rattle.timespec_grammar.proofs.ReadLemmas.{Reads, nothing_read, run, run_goes}
use Rattle.timespec_grammar.proofs.ViableLemmas.{ends_spell, reads_viable, viable_goes_on}
use Rattle.timespec_grammar.proofs.AcceptLemmas.{accepts, spells_accepted}

-- what is read from tokens in two parts
append_from : (first : Option Read) (others more : List Token)
    → ((so_far : Read) → run so_far (others ++ more) ≡ option_and_then (λ onward. run onward more) (run so_far others))
    → option_and_then (λ onward. run onward (others ++ more)) first
    ≡ option_and_then (λ onward. run onward more) (option_and_then (λ onward. run onward others) first)
append_from None others more each = refl
append_from (Some so_far) others more each = each so_far

run-append : (so_far : Read) (tokens more : List Token)
    → run so_far (tokens ++ more) ≡ option_and_then (λ onward. run onward more) (run so_far tokens)
run-append so_far [] more = refl
run-append so_far (next ∷ others) more = append_from (step so_far next) others more (λ onward. run-append onward others more)

-- the tokens are what was read
reads_of : (tokens : List Token) (so_far : Read) → run read.Nothing tokens ≡ Some so_far → Reads tokens so_far
reads_of tokens so_far ran = subst (λ (read : Option Read). IfSome read (Reads tokens)) ran (run_goes [] tokens read.Nothing nothing_read)

-- one token more is read
one_more : (prefix : List Token) (next : Token) (so_far : Read) → run read.Nothing prefix ≡ Some so_far
    → run read.Nothing (prefix ++ next ∷ []) ≡ run so_far (next ∷ [])
one_more prefix next so_far ran =
    run-append read.Nothing prefix (next ∷ []) ∙ ap (λ (read : Option Read). option_and_then (λ onward. run onward (next ∷ [])) read) ran

-- what can't be read begins no timespec
unread : (tokens : List Token) → run read.Nothing tokens ≡ None → IsExtendable tokens → ⊥
unread tokens ran onward =
    let none_read : run read.Nothing (tokens ++ onward.rest) ≡ None = run-append read.Nothing tokens onward.rest
    ∙ ap (λ (read : Option Read). option_and_then (λ more. run more onward.rest) read) ran in
    let refused : accepts read.Nothing (tokens ++ onward.rest) ≡ None =
    ap (λ (read : Option Read). option_and_then timespec_read read) none_read in
    cc (refused, spells_accepted (tokens ++ onward.rest) onward.whole onward.spelled)

-- what begins a timespec is viable, by what is read of it
viable_of : (tokens : List Token) (reading : Option Read) → run read.Nothing tokens ≡ reading → IsExtendable tokens → IsViable tokens
viable_of tokens None ran onward = absurd (unread tokens ran onward)
viable_of tokens (Some so_far) ran onward = reads_viable tokens so_far (reads_of tokens so_far ran)

begins_viable : (tokens : List Token) → IsExtendable tokens → IsViable tokens
begins_viable tokens onward = viable_of tokens (run read.Nothing tokens) refl onward

pub prefixes_are_viable : PrefixesAreViable
prefixes_are_viable tokens rest whole spelled = begins_viable tokens (record { rest = rest; whole = whole; spelled = spelled })

-- what spells a timespec begins one with each of its prefixes
pub spelled_prefix : (tokens : List Token) (count : ℕ) (spec : Timespec) → Spells tokens spec → IsViable (take count tokens)
spelled_prefix tokens count spec spelled =
    prefixes_are_viable (take count tokens) (drop count tokens) spec
    (subst (λ (all : List Token). Spells all spec) (sym (take-append-drop count tokens)) spelled)

-- the prefixes of what is viable are viable
prefix_viable : (tokens : List Token) (fault count : ℕ) → count ≤ fault → IsViable (take fault tokens)
    → IsViable (take count tokens)
prefix_viable tokens fault count below viable =
    let onward : IsExtendable (take fault tokens) = viable_goes_on (take fault tokens) viable in
    let parts : take count tokens ++ drop count (take fault tokens) ≡ take fault tokens
    = ap (λ (prefix : List Token). prefix ++ drop count (take fault tokens)) (sym (take-take count fault tokens below))
    ∙ take-append-drop count (take fault tokens) in
    prefixes_are_viable (take count tokens) (drop count (take fault tokens) ++ onward.rest) onward.whole
    (subst (λ (all : List Token). Spells all onward.whole)
    (ap (λ (prefix : List Token). prefix ++ onward.rest) (sym parts)
    ∙ append_assoc (take count tokens) (drop count (take fault tokens)) onward.rest) onward.spelled)

-- the prefix that one token more makes
prefix_more : (placed : List Placed) (index : ℕ) (or : Placed) → index < length placed
    → take (index + 1) (tokens_of placed) ≡ tokens_of (take index placed) ++ (get_or placed index or).token ∷ []
prefix_more placed index or inside =
    take-map (λ one. one.token) (index + 1) placed ∙ ap tokens_of (take_more placed index or inside)
    ∙ map-append (λ one. one.token) (take index placed) (get_or placed index or ∷ [])

-- a token that may follow is read
pub read_more : (placed : List Placed) (index : ℕ) (or : Placed) (so_far onward : Read) → index < length placed
    → run read.Nothing (tokens_of (take index placed)) ≡ Some so_far
    → step so_far (get_or placed index or).token ≡ Some onward
    → run read.Nothing (tokens_of (take (index + 1) placed)) ≡ Some onward
read_more placed index or so_far onward inside ran steps =
    ap (run read.Nothing) (sym (take-map (λ one. one.token) (index + 1) placed) ∙ prefix_more placed index or inside)
    ∙ one_more (tokens_of (take index placed)) (get_or placed index or).token so_far ran
    ∙ ap (λ (read : Option Read). option_and_then (λ more. run more []) read) steps

-- a token that may not follow begins nothing
not_viable : (placed : List Placed) (index : ℕ) (or : Placed) (so_far : Read) → index < length placed
    → run read.Nothing (tokens_of (take index placed)) ≡ Some so_far
    → step so_far (get_or placed index or).token ≡ None
    → IsViable (take (index + 1) (tokens_of placed)) → ⊥
not_viable placed index or so_far inside ran stops viable =
    unread (take (index + 1) (tokens_of placed))
    (ap (run read.Nothing) (prefix_more placed index or inside)
    ∙ one_more (tokens_of (take index placed)) (get_or placed index or).token so_far ran
    ∙ ap (λ (read : Option Read). option_and_then (λ more. run more []) read) stops)
    (viable_goes_on (take (index + 1) (tokens_of placed)) viable)

-- the fault at a token that may not follow
pub fault_within : (placed : List Placed) (index : ℕ) (or : Placed) (so_far : Read) → index < length placed
    → run read.Nothing (tokens_of (take index placed)) ≡ Some so_far
    → step so_far (get_or placed index or).token ≡ None
    → StopsAt (tokens_of placed) index
fault_within placed index or so_far inside ran stops = record {
  prefixes = λ count below. prefix_viable (tokens_of placed) index count below
      (subst IsViable (sym (take-map (λ one. one.token) index placed))
      (reads_viable (tokens_of (take index placed)) so_far (reads_of (tokens_of (take index placed)) so_far ran)));
  stops = inl (rw length-map inside, not_viable placed index or so_far inside ran stops);
}

pub refused_within : (placed : List Placed) (index : ℕ) (or : Placed) (so_far : Read) → index < length placed
    → run read.Nothing (tokens_of (take index placed)) ≡ Some so_far
    → step so_far (get_or placed index or).token ≡ None
    → (spec : Timespec) → ¬ Spells (tokens_of placed) spec
refused_within placed index or so_far inside ran stops spec spelled =
    not_viable placed index or so_far inside ran stops (spelled_prefix (tokens_of placed) (index + 1) spec spelled)

-- all the tokens are read
pub all_read : (placed : List Placed) (index : ℕ) (so_far : Read) → length placed ≤ index
    → run read.Nothing (tokens_of (take index placed)) ≡ Some so_far → run read.Nothing (tokens_of placed) ≡ Some so_far
all_read placed index so_far past ran =
    subst (λ (all : List Placed). run read.Nothing (tokens_of all) ≡ Some so_far) (take_all index placed past) ran

-- all the tokens are read, and may not end
pub refused_at_end : (placed : List Placed) (so_far : Read) → run read.Nothing (tokens_of placed) ≡ Some so_far
    → timespec_read so_far ≡ None → (spec : Timespec) → ¬ Spells (tokens_of placed) spec
refused_at_end placed so_far ran stops spec spelled =
    let refused : accepts read.Nothing (tokens_of placed) ≡ None
    = ap (λ (read : Option Read). option_and_then timespec_read read) ran ∙ stops in
    cc (refused, spells_accepted (tokens_of placed) spec spelled)

pub fault_at_end : (placed : List Placed) (so_far : Read) → run read.Nothing (tokens_of placed) ≡ Some so_far
    → timespec_read so_far ≡ None → StopsAt (tokens_of placed) (length placed)
fault_at_end placed so_far ran stops =
    let same : length (tokens_of placed) ≡ length placed = length-map placed _ in
    record {
      prefixes = λ count below. prefix_viable (tokens_of placed) (length placed) count below
          (subst IsViable (sym (take_all (length placed) (tokens_of placed) (omega arith)))
          (reads_viable (tokens_of placed) so_far (reads_of (tokens_of placed) so_far ran)));
      stops = inr (sym same, refused_at_end placed so_far ran stops);
    }

-- all the tokens are read, and may end
pub spelled_at_end : (tokens : List Token) (so_far : Read) (spec : Timespec) → run read.Nothing tokens ≡ Some so_far
    → timespec_read so_far ≡ Some spec → Spells tokens spec
spelled_at_end tokens so_far spec ran stops =
    subst (λ (it : Option Timespec). IfSome it (Spells tokens)) stops (ends_spell tokens so_far (reads_of tokens so_far ran))

pub only_one : (tokens : List Token) (so_far : Read) (spec other : Timespec) → run read.Nothing tokens ≡ Some so_far
    → timespec_read so_far ≡ Some spec → Spells tokens other → other ≡ spec
only_one tokens so_far spec other ran stops spelled =
    let accepted : accepts read.Nothing tokens ≡ Some spec
    = ap (λ (read : Option Read). option_and_then timespec_read read) ran ∙ stops in
    cc (accepted, spells_accepted tokens other spelled)
