-- What a tool's words request, by what the parse of them answers.
use Rattle.std.proofs.Common.{◌≡◌, ◌∙◌, ◌==◌, [], ◌∷◌, true, false, List, Result, Ok, Err, IfOk, IsErrAnd, arith, length, map, sym, subst, refl}
use Rattle.std.proofs.lemmas.Bool.{eqb-true}
use Rattle.std.specs.declared.alloc.AllocError.{AllocError}
use Rattle.clap.specs.Faults.{fault_of}
use Rattle.clap.specs.Kinds.{Kinds}
use Rattle.clap.specs.Matches.{found_of}
use Rattle.clap.specs.Simple.{App, app_of, matches_of, with_rule}
use Rattle.clap.specs.Walk.{Row, Rule, Text, rows_of}
use Rattle.clap.specs.declared.builder.command.Command.{Command}
use Rattle.clap.specs.declared.parser.matches.ArgMatches.{ArgMatches}
use Rattle.at_words.specs.Answers.{Answers, asked_of, if_taken, named_asked}
use Rattle.at_words.specs.ParseResult.{Parses}
use Rattle.at_words.specs.declared.fault.WordsFault.{WordsFault}
use Rattle.at_words.specs.declared.fault.WordsFault.TheVariants.{Usage, BadQueue, Memory}

-- a command with the argument
abbrev pub with : Rule → App → App
with rule app = with_rule app rule

-- what the last argument makes of a command
pub made_with : (result : Result Command AllocError) (base whole : App) (rule : Rule)
    → IfOk result (λ made. app_of made ≡ with_rule base rule)
    → with_rule base rule ≡ whole → IfOk result (λ made. app_of made ≡ whole)
made_with (Ok made) base whole rule is same = is ∙ same
made_with (Err fault) base whole rule is same = tt

-- where there is no word, there is none to read
pub no_words : {W : Type 0} (text_of : W → Text) (words : List W) → (length words == 0) ≡ true → map text_of words ≡ []
no_words text_of [] none = refl
no_words text_of (word ∷ words) none =
    absurd (let length_is : length (word ∷ words) ≡ 0 = eqb-true (length (word ∷ words)) 0 none in omega arith)

module _ {T : Type 0} where
  -- where there is some fault, the answer is that the words are not taken
  refused : (kinds : Kinds) (asked : Result T WordsFault) → ¬ (kinds ≡ []) → Answers (if_taken kinds asked) (Err Usage)
  refused [] asked some = absurd (some refl)
  refused (kind ∷ kinds) asked some = refl

  -- what is requested is an answer
  pub answers_same : (asked result : Result T WordsFault) → result ≡ asked → Answers asked result
  answers_same asked (Ok value) same = same
  answers_same asked (Err Usage) same = same
  answers_same asked (Err BadQueue) same = same
  answers_same asked (Err Memory) same = tt

  module _ (app : App) (asked : List Row → Result T WordsFault) (words : List Text) (made : App) (is : made ≡ app) where
    -- the words are taken, and the answer is over their matches
    pub asks_taken : (matches : ArgMatches) (result : Result T WordsFault) → Parses made words (Ok matches)
        → Answers (asked (rows_of (found_of matches))) result → Answers (asked_of app asked words) result
    asks_taken matches result parses answers =
        let parsed = subst (λ (app : App). Parses app words (Ok matches)) is parses in
        subst (λ (kinds : Kinds). Answers (if_taken kinds (asked (matches_of app words))) result) (sym parsed.0)
        (subst (λ (rows : List Row). Answers (asked rows) result) parsed.1 answers)

    -- the words are not taken, or there is no memory
    pub asks_refused : (fault : WordsFault) → Parses made words (Err fault) → Answers (asked_of app asked words) (Err fault)
    asks_refused fault parses = by_fault fault (subst (λ (app : App). Parses app words (Err fault)) is parses) where
      by_fault : (fault : WordsFault) → Parses app words (Err fault) → Answers (asked_of app asked words) (Err fault)
      by_fault Usage parses = refused (fault_of app words) (asked (matches_of app words)) parses
      by_fault BadQueue parses = absurd parses
      by_fault Memory parses = tt

    -- and the fault is handed on
    pub asks_fails : (fault : WordsFault) (result : Result T WordsFault) → Parses made words (Err fault)
        → IsErrAnd result (λ other. other ≡ fault) → Answers (asked_of app asked words) result
    asks_fails fault (Ok value) parses handed = absurd handed
    asks_fails fault (Err other) parses handed =
        subst (λ (one : WordsFault). Answers (asked_of app asked words) (Err one)) (sym handed) (asks_refused fault parses)

  -- what words with a first one request
  pub with_name : {W : Type 0} (app : App) (asked : List Row → Result T WordsFault) (text_of : W → Text) (words : List W)
      (result : Result T WordsFault) → (length words == 0) ≡ false
      → Answers (asked_of app asked (map text_of words)) result → Answers (named_asked app asked (map text_of words)) result
  with_name app asked text_of [] result none answers = let impossible : true ≡ false = none in cc
  with_name app asked text_of (word ∷ words) result none answers = answers
