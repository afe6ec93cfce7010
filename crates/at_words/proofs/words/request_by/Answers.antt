use Rattle.std.proofs.Common.{ap, subst, sym, drop, length, map, take, ◌∙◌, ◌-◌, ◌≡◌, List, ℕ}
use Rattle.std.proofs.Math.Seq.{take-length}
use Rattle.std.proofs.lemmas.List.{drop-map, length-drop}
use Rattle.at_words.proofs.LetterLemmas.{answers_by_letter}
use Rattle.at_words.specs.Answers.{Answers}
use Rattle.at_words.specs.Requests.{request_to}
use Rattle.at_words.proofs.words.request_by.Goals as goal

-- the bytes of the words from a place on
words_from : {W : Type 0} (bytes_of : W → List ℕ) (words : List W) (place : ℕ) →
    map bytes_of (take (length words - place) (drop place words)) ≡ drop place (map bytes_of words)
words_from {W} bytes_of words place =
    ap (map bytes_of) (ap (λ (count : ℕ). take count (drop place words)) (sym (length-drop place words)) ∙ take-length (drop place words))
    ∙ sym (drop-map bytes_of place words)

pub returns-in-Some-clause-asked : goal.returns-in-Some-clause-asked
returns-in-Some-clause-asked c =
    rw c.in-Some.is (subst (λ (words : List (List ℕ)). Answers (request_to c.in-Some.tool words) c.request_to.result)
    (words_from _ c.args.words.now (c.in-Some.start - 1)) c.request_to.ensures)

pub returns-in-Some-clause-letter : goal.returns-in-Some-clause-letter
returns-in-Some-clause-letter c = answers_by_letter c.in-Some.tool _ c.request_to.result c.request_to.ensures
