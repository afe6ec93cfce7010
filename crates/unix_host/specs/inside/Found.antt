-- The plain files that are found in a directory (own).
use Rattle.std.specs.Prelude.{◌≡◌, ◌++◌, ◌∷◌, [], ℕ, List}
use Rattle.unix_host.specs.Listings.{head_in}
use Rattle.unix_host.specs.declared.found.FoundFiles.{FoundFiles}
use Rattle.unix_host.specs.declared.listed_files.Listed.{Listed}

-- a file of this name and length with these first bytes was found after the others
pub record HasFound (name : List ℕ) (length : ℕ) (head : List ℕ) (old new : FoundFiles) : Type 0 where
  pub file : Listed
  pub files : new.files.items ≡ old.files.items ++ file ∷ []
  pub named : file.name ≡ name
  pub long : file.length ≡ length
  pub heads : new.heads.items ≡ old.heads.items ++ head
  pub given : head_in new.heads.items file ≡ head
