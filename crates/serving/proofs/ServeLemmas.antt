-- Turns one after another.
use Rattle.std.proofs.Common.{◌≡◌, ◌+◌, ◌≤◌, ℕ, Bool, true, false, List, [], ◌∷◌, ◌++◌, length, refl, sym, ap, subst, ◌∙◌, append-nil, append_assoc, arith}
use Rattle.std.specs.Prelude.{Option, Some, None}
use Rattle.host_calls.specs.Causes.{Rose}
use Rattle.host_calls.specs.Clock.{Answers, Readers}
use Rattle.host_calls.specs.Session.{KeepsCounts, Session}
use Rattle.host_calls.specs.World.{World}
use Rattle.daemon_turn.specs.Daemons.{DaemonState}
use Rattle.daemon_turn.specs.Kids.{KeepsChildren}
use Rattle.host_calls.specs.declared.child.Child.{Child}
use Rattle.daemon_turn.specs.TurnOutcome.{DaemonAt}
use Rattle.host_calls.specs.declared.turn_end.TurnEnd.{TurnEnd}
use Rattle.host_calls.specs.declared.turn_end.TurnEnd.TheVariants.{Done, Busy, FileFault, Damaged, Memory}
use Rattle.host_calls.proofs.SessionLemmas.{counts_on, no_counts}
use Rattle.serving.specs.Items.{TurnItem, but_last, first_end, last_item, mode_after}
use Rattle.serving.specs.Lines.{step_lines, turn_lines}
use Rattle.serving.specs.Serves.{RestsAfter, ServeState, Served, Serves, no_turn, next_turn, rest_of, serve_at}
use Rattle.tool_output.specs.Outside.{RestsOn, Telling}
use Rattle.serving.specs.inside.NextTurn.{IsRest, first_end_or, mode_by, rest_if}

-- The list of turns with one more.

pub last_more : (items : List TurnItem) (item : TurnItem) → last_item (items ++ item ∷ []) ≡ Some item
last_more [] item = refl
last_more (one ∷ []) item = refl
last_more (one ∷ other ∷ items) item = last_more (other ∷ items) item

pub first_more : (items : List TurnItem) (item : TurnItem) → first_end (items ++ item ∷ []) ≡ first_end_or (first_end items) item.end
first_more [] item = refl
first_more (one ∷ items) item = refl

pub but_last_more : (items : List TurnItem) (item : TurnItem) → but_last (items ++ item ∷ []) ≡ items
but_last_more [] item = refl
but_last_more (one ∷ []) item = refl
but_last_more (one ∷ other ∷ items) item = ap (λ (others : List TurnItem). one ∷ others) (but_last_more (other ∷ items) item)

pub lines_more : (items : List TurnItem) (item : TurnItem) → turn_lines (items ++ item ∷ []) ≡ turn_lines items ++ step_lines item.steps
lines_more [] item = append-nil (step_lines item.steps)
lines_more (one ∷ items) item =
    ap (λ (others : List ℕ). step_lines one.steps ++ others) (lines_more items item)
    ∙ sym (append_assoc (step_lines one.steps) (turn_lines items) (step_lines item.steps))

pub one_longer : (items : List TurnItem) (item : TurnItem) → length (items ++ item ∷ []) ≡ length items + 1
one_longer [] item = refl
one_longer (one ∷ items) item = (let longer : length (items ++ item ∷ []) ≡ length items + 1 = one_longer items item in omega arith)

-- The mode and the rest.

pub mode_same : (once : Bool) (items : List TurnItem) (first : Option TurnEnd) → first ≡ first_end items
    → mode_by once first ≡ mode_after once items
mode_same once items first same = ap (λ (end : Option TurnEnd). mode_by once end) same ∙ by_items once items where
  by_items : (flag : Bool) (of : List TurnItem) → mode_by flag (first_end of) ≡ mode_after flag of
  by_items false of = refl
  by_items true [] = refl
  by_items true (item ∷ of) = refl

-- the rest that is kept is that after the last turn
rest_same : (once : Bool) (seconds : ℕ) (items : List TurnItem) → IsRest once (last_item items) seconds
    → rest_if (first_end items) seconds ≡ rest_of once (last_item items)
rest_same once seconds [] rest = refl
rest_same once seconds (item ∷ []) rest = ap Some rest
rest_same once seconds (item ∷ other ∷ items) rest = rest_same once seconds (other ∷ items) rest

module _ (tells once : Bool) (session : Session) (world : World) (daemon : DaemonState) (was is : Answers)
    (had has : Readers) (seconds : ℕ) where
  pub rests_after : (items : List TurnItem) (first : Option TurnEnd) → first ≡ first_end items → IsRest once (last_item items) seconds
      → RestsOn tells (rest_if first seconds) (record { answers = was; readers = had }) (record { answers = is; readers = has })
      → RestsAfter tells once (last_item items) (serve_at session world daemon was had) (serve_at session world daemon is has)
  rests_after items first same rest rests = record {
    clock = subst (λ (of : Option ℕ). RestsOn tells of (record { answers = was; readers = had }) (record { answers = is; readers = has }))
        (ap (λ (end : Option TurnEnd). rest_if end seconds) same ∙ rest_same once seconds items rest) rests;
    spool = refl;
  }

-- Counts and children from turn to turn.

pub children_same : (children : List Child) → KeepsChildren children children
children_same children = ([], sym (append-nil children))

pub children_then : (old middle new : List Child) → KeepsChildren old middle → KeepsChildren middle new → KeepsChildren old new
children_then old middle new first second =
    (first.0 ++ second.0, second.1 ∙ ap (λ (before : List Child). before ++ second.0) first.1 ∙ append_assoc old first.0 second.0)

module _ (tells : Telling) (once : Bool) (first : ServeState) where
  pub serves_counts : (items : List TurnItem) (last : ServeState) → Serves tells once first items last
      → KeepsCounts first.spool.session last.spool.session
  serves_counts _ _ no_turn = no_counts first.spool.session
  serves_counts _ _ (next_turn before item last rested after serves goes_on rests served) =
      counts_on first.spool.session last.spool.session after.spool.session (serves_counts before last serves)
      (subst (λ (spool : DaemonAt). KeepsCounts spool.session after.spool.session) rests.spool served.turn.counts)

-- Why the first turn ended so.

-- a fault of the outside that ended the first turn rose in it
abbrev pub RoseFirst : Option TurnEnd → Session → Session → Type 0
RoseFirst None old new = Unit {0}
RoseFirst (Some Done) old new = Unit {0}
RoseFirst (Some Busy) old new = Rose old.taken new.taken
RoseFirst (Some FileFault) old new = Rose old.file_faults new.file_faults
RoseFirst (Some (Damaged damage)) old new = Unit {0}
RoseFirst (Some Memory) old new = Unit {0}

rose_wider : (end : Option TurnEnd) (first old middle new : Session) → KeepsCounts first old → KeepsCounts middle new
    → RoseFirst end old middle → RoseFirst end first new
rose_wider None first old middle new before beyond rose = tt
rose_wider (Some Done) first old middle new before beyond rose = tt
rose_wider (Some Busy) first old middle new before beyond rose =
    (let earlier : first.taken ≤ old.taken = before.taken in let later : middle.taken ≤ new.taken = beyond.taken in
    let risen : Rose old.taken middle.taken = rose in omega arith)
rose_wider (Some FileFault) first old middle new before beyond rose =
    (let earlier : first.file_faults ≤ old.file_faults = before.file_faults in
    let later : middle.file_faults ≤ new.file_faults = beyond.file_faults in
    let risen : Rose old.file_faults middle.file_faults = rose in omega arith)
rose_wider (Some (Damaged damage)) first old middle new before beyond rose = tt
rose_wider (Some Memory) first old middle new before beyond rose = tt

module _ (tells : Telling) (once : Bool) (first : ServeState) where
  rose_served : (before : List TurnItem) (item : TurnItem) (old new : ServeState) → Served tells once before item old new
      → RoseFirst (Some item.end) old.spool.session new.spool.session
  rose_served before item old new served = by_end item.end served.turn.busy served.turn.fault where
    by_end : (end : TurnEnd) → (end ≡ Busy → Rose old.spool.session.taken new.spool.session.taken)
        → (end ≡ FileFault → Rose old.spool.session.file_faults new.spool.session.file_faults)
        → RoseFirst (Some end) old.spool.session new.spool.session
    by_end Done busy fault = tt
    by_end Busy busy fault = busy refl
    by_end FileFault busy fault = fault refl
    by_end (Damaged damage) busy fault = tt
    by_end Memory busy fault = tt

  rose_more : (before : List TurnItem) (item : TurnItem) (last rested after : ServeState)
      → RoseFirst (first_end before) first.spool.session last.spool.session
      → KeepsCounts first.spool.session last.spool.session → RestsAfter tells.clock once (last_item before) last rested
      → Served tells once before item rested after
      → RoseFirst (first_end (before ++ item ∷ [])) first.spool.session after.spool.session
  rose_more [] item last rested after rose counts rests served =
      rose_wider (Some item.end) first.spool.session rested.spool.session after.spool.session after.spool.session
      (subst (λ (spool : DaemonAt). KeepsCounts first.spool.session spool.session) (sym rests.spool) counts)
      (no_counts after.spool.session) (rose_served [] item rested after served)
  rose_more (head ∷ before) item last rested after rose counts rests served =
      rose_wider (Some head.end) first.spool.session first.spool.session last.spool.session after.spool.session
      (no_counts first.spool.session)
      (subst (λ (spool : DaemonAt). KeepsCounts spool.session after.spool.session) rests.spool served.turn.counts)
      rose

  pub rose_first : (items : List TurnItem) (last : ServeState) → Serves tells once first items last
      → RoseFirst (first_end items) first.spool.session last.spool.session
  rose_first _ _ no_turn = tt
  rose_first _ _ (next_turn before item last rested after serves goes_on rests served) =
      rose_more before item last rested after (rose_first before last serves)
      (serves_counts tells once first before last serves) rests served
