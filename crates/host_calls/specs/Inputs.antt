-- What inputs report.
use Rattle.std.specs.Prelude.{◌≡◌, ◌+◌, ◌-◌, ◌^◌, ◌⊎◌, ℕ, min, List, Option, option_map, Some, take}

-- the bytes of standard input, and those of each file by its path
pub record Contents : Type 0 where
  pub standard : List ℕ
  pub file : List ℕ → Option (List ℕ)

-- what all inputs report: what they were made as, how often they were read, and how often they failed
pub record Sources : Type 0 where
  pub made_as : List ℕ
  pub reads : ℕ
  pub input_faults : ℕ

-- the count of reads after one more; it stays at the last value that it can have
abbrev pub after_read : ℕ → ℕ
after_read reads = min (reads + 1) (2 ^ 64 - 1)

-- the inputs were read once, and are what they were made as
pub record AreReadOnce (old new : Sources) : Type 0 where
  pub made_as : new.made_as ≡ old.made_as
  pub reads : new.reads ≡ after_read old.reads

-- the inputs were read once or not at all, and are what they were made as
pub record AreReadAtMostOnce (old new : Sources) : Type 0 where
  pub made_as : new.made_as ≡ old.made_as
  pub reads : (new.reads ≡ old.reads) ⊎ (new.reads ≡ after_read old.reads)

-- the bytes are the first of the content: all of it, or that many
abbrev pub IsInputPrefix : Option (List ℕ) → ℕ → List ℕ → Type 0
IsInputPrefix content most bytes = option_map (take most) content ≡ Some bytes
