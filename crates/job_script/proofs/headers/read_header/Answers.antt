use Rattle.std.proofs.Common.{◌+◌, ℕ, List, false, true, refl, sym, subst}
use Rattle.job_script.specs.Header.{BeginsWithHeader, IsHeaderFault}
use Rattle.job_script.proofs.HeaderLemmas.{fault_before}
use Rattle.job_script.proofs.HeaderScans.{header_read, user_missing, flag_missing}
use Rattle.job_script.proofs.headers.read_header.Goals as goal

pub returns-then-before-lt20 : goal.returns-then-before-lt20
returns-then-before-lt20 c = fault_before c.args.bytes.now c.matched-before.result c.matched-before.ensures c.if-before-lt20.true

pub returns-in_default : goal.returns-in_default
returns-in_default c =
    user_missing c.args.bytes.now c.split_at.result.1.now c.split_at-2.result.0.now c.matched-before.result
    c.user_length-count.result c.matched-before.ensures c.if-before-lt20.false c.split_at.ensures.back
    c.user_length-count.ensures c.split_at-2.ensures.front (λ name. cc (c.in_default.ensures.valid.1 name))

pub returns-then-without-eq8 : goal.returns-then-without-eq8
returns-then-without-eq8 c =
    subst (λ (user : List ℕ). BeginsWithHeader c.args.bytes.now user false) (sym c.in-Some.ensures.value)
    (header_read c.args.bytes.now c.split_at.result.1.now c.split_at-2.result.0.now c.split_at-2.result.1.now
    c.matched-before.result c.user_length-count.result c.matched-without.result false c.matched-before.ensures
    c.if-before-lt20.false c.split_at.ensures.back c.split_at-2.ensures.front c.split_at-2.ensures.back
    (c.in-Some.ensures.valid.0 refl) c.matched-without.ensures c.if-without-eq8.true)

pub returns-then-with-eq8 : goal.returns-then-with-eq8
returns-then-with-eq8 c =
    subst (λ (user : List ℕ). BeginsWithHeader c.args.bytes.now user true) (sym c.in-Some.ensures.value)
    (header_read c.args.bytes.now c.split_at.result.1.now c.split_at-2.result.0.now c.split_at-2.result.1.now
    c.matched-before.result c.user_length-count.result c.matched-with.result true c.matched-before.ensures
    c.if-before-lt20.false c.split_at.ensures.back c.split_at-2.ensures.front c.split_at-2.ensures.back
    (c.in-Some.ensures.valid.0 refl) c.matched-with.ensures c.if-with-eq8.true)

pub returns : goal.returns
returns c =
    subst (λ (most : ℕ). IsHeaderFault c.args.bytes.now (c.matched-before.result + c.user_length-count.result + most))
    (sym c.max.ensures)
    (flag_missing c.args.bytes.now c.split_at.result.1.now c.split_at-2.result.0.now c.split_at-2.result.1.now
    c.matched-before.result c.user_length-count.result c.matched-without.result c.matched-with.result
    c.matched-before.ensures c.if-before-lt20.false c.split_at.ensures.back c.user_length-count.ensures
    c.split_at-2.ensures.front c.split_at-2.ensures.back (c.in-Some.ensures.valid.0 refl)
    c.matched-without.ensures c.matched-with.ensures c.if-without-eq8.false c.if-with-eq8.false)
