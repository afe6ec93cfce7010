use Rattle.std.proofs.Common.{◌≡◌, List, ℕ, Bool, Option, Result, Ok, Err, sym, subst}
use Rattle.std.specs.Option.{IfSome}
use Rattle.std.specs.Result.{MatchResult, result_ok}
use Rattle.job_script.specs.Header.{BeginsWithHeader, IsHeaderFault}
use Rattle.job_script.specs.declared.headers.JobHeader.{JobHeader}
use Rattle.job_script.proofs.HeaderLemmas.{one_header}
use Rattle.job_script.proofs.headers.header.Goals as goal

-- the header that was read is the one that is there
the_one : (bytes user : List ℕ) (mail : Bool) → BeginsWithHeader bytes user mail → (r : Result JobHeader ℕ)
    → MatchResult r (λ found. BeginsWithHeader bytes found.user found.mail) (λ place. IsHeaderFault bytes place)
    → IfSome (result_ok r) (λ found. (found.user ≡ user) × (found.mail ≡ mail))
the_one bytes user mail begins (Ok found) read = one_header bytes found.user user found.mail mail read begins
the_one bytes user mail begins (Err place) read = tt

pub returns-clause-only : goal.returns-clause-only
returns-clause-only c = λ user mail begins.
    subst (λ (found : Option JobHeader). IfSome found (λ it. (it.user ≡ user) × (it.mail ≡ mail))) (sym c.ok.ensures.value)
    (the_one c.args.bytes.now user mail begins c.read_header.result c.read_header.ensures)
