use Rattle.std.proofs.Common.{◌≡◌, ◌++◌, ℕ, map, Ok, refl, sym, ap, ◌∙◌, rules}
use Rattle.std.proofs.lemmas.Simd.{map-map}
use Rattle.std.proofs.lemmas.Iterator.{YieldsList-from_slice}
use Rattle.std.proofs.lemmas.Iterator.Adapters.{fact_from_extend}
use Rattle.std.specs.Process.{command_args}
use Rattle.unix_host.proofs.job.add_words.Goals as goal

pub returns-clause-words : goal.returns-clause-words
returns-clause-words c =
    let old = command_args c.args.command.now in
    let added : command_args c.in_ok-args.field-0.now ≡ old ++ map (λ word. word.now) c.args.words.now =
    fact_from_extend {E = ℕ} (λ y. y.now) (Ok tt) c.in_ok-args.ensures.args (λ it b. YieldsList-from_slice _ b.0)
    (λ xs e h. h (λ _. refl) ∙ ap (λ l. old ++ l) (sym (map-map (λ word. word.now) (λ y. y.now) xs) ∙ ap (map (λ word. word.now)) e)) in
    search rules
