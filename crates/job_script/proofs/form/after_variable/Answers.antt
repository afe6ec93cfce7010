use Rattle.std.proofs.Common.{◌≡◌, Option, Some, None, Bor, List, ℕ, sym}
use Rattle.std.specs.Option.{MatchOption}
use Rattle.job_script.specs.inside.Prefixes.{IsLinePrefix}
use Rattle.job_script.proofs.FormLemmas.{line_read, no_again, no_export, no_name, no_sign, no_word}
use Rattle.job_script.proofs.form.after_variable.Goals as goal

-- the answer that there is no line
none_left : (bytes : List ℕ) (answer : Option (Bor (List ℕ))) → answer ≡ None → ((more : List ℕ) → ¬ IsLinePrefix bytes more)
    → MatchOption answer ((more : List ℕ) → ¬ IsLinePrefix bytes more) (λ more. IsLinePrefix bytes more.now)
none_left bytes (Some more) same none = absurd (cc same)
none_left bytes None same none = none

pub returns-then-not-may_be_set_in_a_job : goal.returns-then-not-may_be_set_in_a_job
returns-then-not-may_be_set_in_a_job c =
    no_name c.args.bytes.now c.split_at.result.0.now c.split_at.result.1.now c.name_length.result
    (record { runs = c.name_length.ensures; prefix = c.split_at.ensures.front; back = c.split_at.ensures.back })
    c.if-not-may_be_set_in_a_job.ensures

pub returns-in_err-word : goal.returns-in_err-word
returns-in_err-word c =
    none_left c.args.bytes.now c.from_residual.result c.from_residual.ensures
    (no_sign c.args.bytes.now c.split_at.result.0.now c.split_at.result.1.now c.name_length.result
    (record { runs = c.name_length.ensures; prefix = c.split_at.ensures.front; back = c.split_at.ensures.back })
    c.in_err-word.ensures)

pub returns-in_err-export : goal.returns-in_err-export
returns-in_err-export c =
    none_left c.args.bytes.now c.from_residual-in_err-export.result c.from_residual-in_err-export.ensures
    (no_word c.args.bytes.now c.split_at.result.0.now c.split_at.result.1.now c.in_ok-word.word.now c.name_length.result
    (record { runs = c.name_length.ensures; prefix = c.split_at.ensures.front; back = c.split_at.ensures.back })
    c.in_ok-word.ensures c.in_err-export.ensures)

pub returns-in_err-again : goal.returns-in_err-again
returns-in_err-again c =
    none_left c.args.bytes.now c.from_residual-in_err-again.result c.from_residual-in_err-again.ensures
    (no_export c.args.bytes.now c.split_at.result.0.now c.split_at.result.1.now c.in_ok-word.word.now
    c.in_ok-export.export.now c.name_length.result
    (record { runs = c.name_length.ensures; prefix = c.split_at.ensures.front; back = c.split_at.ensures.back })
    c.in_ok-word.ensures c.in_ok-export.ensures c.in_err-again.ensures)

pub returns-in_err-end : goal.returns-in_err-end
returns-in_err-end c =
    none_left c.args.bytes.now c.from_residual-in_err-end.result c.from_residual-in_err-end.ensures
    (no_again c.args.bytes.now c.split_at.result.0.now c.split_at.result.1.now c.in_ok-word.word.now
    c.in_ok-export.export.now c.in_ok-again.again.now c.name_length.result
    (record { runs = c.name_length.ensures; prefix = c.split_at.ensures.front; back = c.split_at.ensures.back })
    c.in_ok-word.ensures c.in_ok-export.ensures c.in_ok-again.ensures c.in_err-end.ensures)

pub returns : goal.returns
returns c =
    line_read c.args.bytes.now c.split_at.result.0.now c.split_at.result.1.now c.in_ok-word.word.now
    c.in_ok-export.export.now c.in_ok-again.again.now c.in_ok-end.end.now c.name_length.result c.after-4.result
    (record { runs = c.name_length.ensures; prefix = c.split_at.ensures.front; back = c.split_at.ensures.back })
    (sym c.if-not-may_be_set_in_a_job.ensures)
    c.in_ok-word.ensures c.in_ok-export.ensures c.in_ok-again.ensures c.in_ok-end.ensures c.after-4.ensures
