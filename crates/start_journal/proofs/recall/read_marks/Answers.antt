use Rattle.std.proofs.Common.{◌≡◌, ℕ, ◌+◌, ◌++◌, List, [], ◌∷◌, Option, Some, refl, subst, ap, ◌∙◌, arith}
use Rattle.std.specs.Prelude.{Err, IfSome}
use Rattle.host_calls.specs.declared.damage.Damage.{Damage}
use Rattle.start_journal.specs.declared.mark.Mark.{Mark}
use Rattle.start_journal.specs.Marks.{IsLegalAfter}
use Rattle.start_journal.proofs.LifecycleLemmas.{told_again}
use Rattle.start_journal.specs.Journals.{JournalRead, journal_in}
use Rattle.start_journal.proofs.ReadLemmas.{IsAfter, end_sound, marked, one_after, unmarked, read_whole, rest_damaged, slot_damaged}
use Rattle.start_journal.proofs.recall.read_marks.Goals as goal
use Rattle.start_journal.proofs.recall.read_marks.Goals.{in-None, in-Some+in_ok-put_mark-in-Some}

-- the bytes are damaged so
abbrev Damages : ℕ → List ℕ → Damage → Type 0
Damages last bytes damage = journal_in last (Some bytes) ≡ Err damage

pub returns-in-Err-clause-damaged : goal.returns-in-Err-clause-damaged
returns-in-Err-clause-damaged c = λ damage is.
    let read : JournalRead = record { marks = c.loop-place.marks.items; free = c.loop-place.free } in
    let same : c.damage.result ≡ damage = cc in
    subst (Damages c.args.last c.args.bytes.now) same (slot_damaged c.args.last c.loop-place.place c.in-Err.offset c.args.bytes.now
    c.as_chunks.result.0.now read read.marks _ c.damage.result c.as_chunks.ensures.front c.loop-place.invariant.after c.loop-place-test.true
    refl (c.in-Err.ensures.slot c.loop-place.marks.items c.loop-place.invariant.tell) c.damage.ensures)

pub returns-then-not-is_empty-clause-damaged : goal.returns-then-not-is_empty-clause-damaged
returns-then-not-is_empty-clause-damaged c = λ damage is.
    let read : JournalRead = record { marks = c.loop-place.marks.items; free = c.loop-place.free } in
    let same : c.damage-then-not-is_empty.result ≡ damage = cc in
    subst (Damages c.args.last c.args.bytes.now) same
    (rest_damaged c.args.last c.loop-place.place _ c.args.bytes.now c.as_chunks.result.0.now read c.damage-then-not-is_empty.result
    c.as_chunks.ensures.front c.loop-place.invariant.after c.loop-place-test.false c.as_chunks.ensures.front_len
    c.as_chunks.ensures.back_len c.if-not-is_empty.ensures c.damage-then-not-is_empty.ensures)

pub invariant_of-result : goal.invariant_of-result
invariant_of-result c =
    let read : JournalRead = record { marks = c.loop-place.marks.items; free = c.loop-place.free } in
    end_sound c.args.last c.loop-place.place c.as_chunks.result.0.now read c.loop-place.invariant.after c.loop-place-test.false

pub returns-clause-journal : goal.returns-clause-journal
returns-clause-journal c =
    let read : JournalRead = record { marks = c.loop-place.marks.items; free = c.loop-place.free } in
    read_whole c.args.last c.loop-place.place _ c.args.bytes.now c.as_chunks.result.0.now read c.as_chunks.ensures.front
    c.loop-place.invariant.after c.loop-place-test.false c.as_chunks.ensures.back_len c.if-not-is_empty.ensures

pub loop-place-preserved : goal.loop-place-preserved
loop-place-preserved c =
    let read : JournalRead = record { marks = c.loop-place.marks.items; free = c.loop-place.free } in
    let found = c.in-Ok.ensures.slot c.loop-place.marks.items c.loop-place.invariant.tell in
    let legal = c.in-Ok.ensures.legal c.loop-place.marks.items c.loop-place.invariant.tell in
    let after =
    one_after c.args.last c.loop-place.place c.as_chunks.result.0.now read _ _ c.loop-place.invariant.after c.loop-place-test.true found in
    elim c.match-found.branch [
      | in-Some+in_ok-put_mark-in-Some w ↦
          let some : ◌≡◌ {A = Option Mark} c.in-Ok.found (Some w.in-Some.mark) = w.in-Some.is in
          let more : c.match-found.marks.items ≡ c.loop-place.marks.items ++ w.in-Some.mark ∷ [] = ap (λ v. v.items) w.marks-is
          ∙ w.in_ok-put_mark-in-Some.ensures.marks in
          record {
            after = subst (IsAfter c.args.last c.as_chunks.result.0.now (c.loop-place.place + 1))
                (marked read c.in-Ok.found w.in-Some.mark c.match-found.marks.items c.match-found.free some more w.free-is) after;
            tell = told_again w.put_mark.new.marks.items c.match-found.marks.items w.put_mark.new.lives c.match-found.lives
                (ap (λ v. v.items) w.marks-is) w.lives-is
                (w.in_ok-put_mark-in-Some.ensures.lives c.loop-place.invariant.tell
                (subst (λ found. IfSome found (IsLegalAfter c.loop-place.marks.items)) some legal));
            few = omega (arith, w.free-is, c.loop-place.invariant.few);
          }
      | in-None w ↦
          let same : c.match-found.marks.items ≡ c.loop-place.marks.items = ap (λ v. v.items) w.marks-is in
          record {
            after = subst (IsAfter c.args.last c.as_chunks.result.0.now (c.loop-place.place + 1))
                (unmarked read c.in-Ok.found c.match-found.marks.items c.match-found.free w.in-None.is same w.free-is) after;
            tell = told_again c.loop-place.marks.items c.match-found.marks.items c.loop-place.lives c.match-found.lives same w.lives-is
                c.loop-place.invariant.tell;
            few = omega (arith, w.free-is, c.loop-place.invariant.few);
          }
    ]
