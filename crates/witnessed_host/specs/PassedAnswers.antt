-- What a witness may do with an answer (own).
use Rattle.std.specs.Prelude.{◌≡◌, ◌⊎◌, Result, Err}

-- the answer is passed on, or it is disputed: the call has failed then
abbrev pub Passes : {T E : Type 0} → E → Result T E → Result T E → Type 0
Passes fault answer result = (result ≡ answer) ⊎ (result ≡ Err fault)
