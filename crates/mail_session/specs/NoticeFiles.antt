-- What the files of mail read as once notices were sent (own).
use Rattle.std.specs.Prelude.{◌≡◌, ◌≢◌, ℕ, Bool, false, List, Contains, IsSome, nat_eq}
use Rattle.std.specs.Cmp.Lexicographic.{pointwise}
use Rattle.std.specs.FinMap as finite
use Rattle.std.specs.List.{list_any}
use Rattle.host_calls.specs.World.{World, reading}
use Rattle.mail_notes.specs.Names.{mail_file, mail_temp, notice_file}

-- the name is that of the notice of one of the numbers
abbrev pub is_notice_of : List ℕ → List ℕ → Bool
is_notice_of numbers name = list_any (λ number. pointwise nat_eq name (notice_file number)) numbers

-- The notices of these numbers are there, and other names but those of the notes read as before.
pub record ReadsBeside (numbers : List ℕ) (old new : World) : Type 0 where
  pub placed : (number : ℕ) → Contains numbers number → IsSome (finite.get (reading new) (notice_file number))
  pub stay : (name : List ℕ) → name ≢ mail_temp → name ≢ mail_file → is_notice_of numbers name ≡ false
      → finite.get (reading new) name ≡ finite.get (reading old) name
