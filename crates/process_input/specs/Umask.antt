-- The umask in the status of a process: the line `Umask:`, a tab and octal digits (proc_pid_status(5) of Linux).
use Rattle.std.specs.Prelude.{◌≡◌, ◌<◌, ◌⊎◌, ℕ, List, Some, None, codes, drop, take}
use Rattle.std.specs.Str.Parse.{IsNumeral, digits_value, without_leading_plus}
use Rattle.std.specs.Str.Pattern.{FindsChar, FindsText}

-- the end of the line before, and the head of the line
abbrev pub umask_head : List ℕ
umask_head = codes "\nUmask:\t"

-- after the first such head come these bytes, up to the end of the line
pub record IsUmaskLine (status line : List ℕ) : Type 0 where
  pub start : ℕ
  pub after : ℕ
  pub head : FindsText umask_head status (Some (start, after))
  pub end : ℕ
  pub next : ℕ
  pub ends : FindsChar 10 (drop after status) (Some (end, next))
  pub is : line ≡ take end (drop after status)

-- there is no such head, or no end of the line after the first one
abbrev pub HasNoUmaskLine : List ℕ → Type 0
HasNoUmaskLine status = FindsText umask_head status None
    ⊎ ((start : ℕ) × (after : ℕ) × FindsText umask_head status (Some (start, after)) × FindsChar 10 (drop after status) None)

-- octal digits, and no more than those of a umask: 777
abbrev pub IsUmaskText : List ℕ → Type 0
IsUmaskText line = IsNumeral 8 (without_leading_plus line) × (digits_value 8 (without_leading_plus line) < 512)

-- the status tells this umask
pub record TellsUmask (status : List ℕ) (umask : ℕ) : Type 0 where
  pub line : List ℕ
  pub holds : IsUmaskLine status line
  pub spells : IsUmaskText line
  pub is : umask ≡ digits_value 8 (without_leading_plus line)

-- the status tells none
abbrev pub TellsNoUmask : List ℕ → Type 0
TellsNoUmask status = HasNoUmaskLine status ⊎ ((line : List ℕ) × IsUmaskLine status line × ¬ (IsUmaskText line))
