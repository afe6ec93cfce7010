-- Names as they are kept: by look-ups, so that a change is one write.
use Rattle.std.specs.Prelude.{◌≡◌, ◌||◌, [], ◌∷◌, ℕ, Bool, List, Option, Some, None, is_some, map, length, reverse, IsTrue, if◌then◌else◌}
use Rattle.std.specs.Ordering.{eq_by_cmp}
use Rattle.std.specs.List.{filter, list_any}
use Rattle.std.specs.BTreeMap.{BTreeMap, get}
use Rattle.host_calls.specs.Directory.{Change, Made, Renamed, Removed, name_cmp}
use Rattle.memory_host.specs.Crash.{is_picked}
use Rattle.memory_host.specs.declared.held.Held.{Held}
use Rattle.memory_host.specs.declared.pending.Change.{Change as KeptChange}
use Rattle.memory_host.specs.declared.pending.Change.TheVariants as kept

-- which body each name holds
abbrev pub Holders : Type 0
Holders = List ℕ → Option ℕ

-- what is kept of each name
abbrev pub HeldNames : Type 0
HeldNames = BTreeMap (List ℕ) Held

-- the body that a name holds now
abbrev pub now_part : Option Held → Option ℕ
now_part None = None
now_part (Some held) = held.now

-- the body that a name certainly holds
abbrev pub durable_part : Option Held → Option ℕ
durable_part None = None
durable_part (Some held) = held.durable

-- which body each name holds now
abbrev pub now_in : HeldNames → Holders
now_in held name = now_part (get name_cmp held name)

-- which body each name certainly holds
abbrev pub durable_in : HeldNames → Holders
durable_in held name = durable_part (get name_cmp held name)

-- the names that hold a body now, in their order
abbrev pub now_names : List (List ℕ × Held) → List (List ℕ)
now_names entries = map (λ entry. entry.0) (filter (λ entry. is_some entry.1.now) entries)

-- something is kept of the name
abbrev pub has_place : HeldNames → List ℕ → Bool
has_place held name = is_some (get name_cmp held name)

-- what is kept of one name was set
abbrev pub IsEntrySet : List ℕ → Option Held → HeldNames → HeldNames → Type 0
IsEntrySet name kept old new = (other : List ℕ)
    → get name_cmp new other ≡ (if eq_by_cmp name_cmp name other then kept else get name_cmp old other)

-- the holders with one name changed
abbrev pub put_at : List ℕ → Option ℕ → Holders → Holders
put_at name value holders other = if eq_by_cmp name_cmp name other then value else holders other

-- the holders after a body has moved from one name to another, if there is one
abbrev pub moved_at : Option ℕ → List ℕ → List ℕ → Holders → Holders
moved_at None from to holders = holders
moved_at (Some body) from to holders = put_at to (Some body) (put_at from None holders)

-- the holders after a change of names
abbrev pub changed_at : Change → Holders → Holders
changed_at (Made name body) holders = put_at name (Some body) holders
changed_at (Renamed from to) holders = moved_at (holders from) from to holders
changed_at (Removed name) holders = put_at name None holders

-- what a kept change means
abbrev pub meant : KeptChange → Change
meant (kept.Made name body) = Made name body
meant (kept.Renamed from to) = Renamed from to
meant (kept.Removed name) = Removed name

-- the changes that are kept, the newest first
abbrev pub pending_of : List KeptChange → List Change
pending_of changes = map meant (reverse changes)

-- whether a change touches the name
abbrev pub touches : KeptChange → List ℕ → Bool
touches (kept.Made name body) other = eq_by_cmp name_cmp name other
touches (kept.Renamed from to) other = eq_by_cmp name_cmp from other || eq_by_cmp name_cmp to other
touches (kept.Removed name) other = eq_by_cmp name_cmp name other

-- whether one of the changes touches the name
abbrev pub are_touching : List KeptChange → List ℕ → Bool
are_touching changes name = list_any (λ change. touches change name) changes

-- each name that a change touches is kept
abbrev pub HasPlaces : HeldNames → KeptChange → Type 0
HasPlaces held change = (name : List ℕ) → IsTrue (touches change name) → IsTrue (has_place held name)

-- each name that one of the changes touches is kept
abbrev pub HaveAllPlaces : HeldNames → List KeptChange → Type 0
HaveAllPlaces held changes = (name : List ℕ) → IsTrue (are_touching changes name) → IsTrue (has_place held name)

-- the holders after those of the pending changes that are picked, the newest first
abbrev pub picked_holders : ℕ → List Change → Holders → Holders
picked_holders pick [] holders = holders
picked_holders pick (change ∷ older) holders =
    if is_picked pick (length older) then changed_at change (picked_holders pick older holders) else picked_holders pick older holders

-- one look-up where the changes touch a name, and another elsewhere
abbrev pub where_touched : List KeptChange → Holders → Holders → Holders
where_touched changes there elsewhere name = if are_touching changes name then there name else elsewhere name

-- the two maps hold the same now
abbrev pub HoldsSameNow : HeldNames → HeldNames → Type 0
HoldsSameNow old new = (name : List ℕ) → now_in new name ≡ now_in old name

-- the two maps certainly hold the same
abbrev pub HoldsSameDurable : HeldNames → HeldNames → Type 0
HoldsSameDurable old new = (name : List ℕ) → durable_in new name ≡ durable_in old name

-- what is kept of a name stays kept
abbrev pub KeepsPlaces : HeldNames → HeldNames → Type 0
KeepsPlaces old new = (name : List ℕ) → has_place new name ≡ has_place old name
