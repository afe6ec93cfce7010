-- What a session keeps of the directory's listing (own).
use Rattle.std.specs.Prelude.{◌+◌, ◌-◌, ℕ, List, map, min, slice_range}
use Rattle.unix_host.specs.declared.listed_files.Listed.{Listed}
use Rattle.unix_host.specs.declared.listing.Listing.{Listing}

-- the names of a listing
abbrev pub names_in : Listing → List (List ℕ)
names_in listing = map (λ file. file.name) listing.listed.files.items

-- the first bytes of a file, among those of all
abbrev pub head_in : List ℕ → Listed → List ℕ
head_in heads file = slice_range heads file.start file.end

-- how many bytes of a file of this size are read from an offset on, where so many are wanted at most
abbrev pub count_from : ℕ → ℕ → ℕ → ℕ
count_from size offset most = min most (size - offset)

-- what the directory gave of a listed file from an offset on when it was listed, or so many bytes of it at most
abbrev pub listed_bytes : Listing → Listed → ℕ → ℕ → List ℕ
listed_bytes listing file offset most =
    slice_range (head_in listing.heads.items file) offset (offset + count_from file.length offset most)
