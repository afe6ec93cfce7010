use Rattle.std.proofs.Common.{◌+ℤ◌, refl, arith, FitsSigned, w64, to_z-of_z}
use Rattle.std.proofs.lemmas.Int.{ints}
use Rattle.civil_minute.proofs.minute.answer_at.Goals as goal

pub returns-then-minute-minute_at : goal.returns-then-minute-minute_at
returns-then-minute-minute_at c =
    let fits : FitsSigned w64 c.args.now × FitsSigned w64 c.args.start × FitsSigned w64 c.args.seconds =
    (c.ranges.now, c.ranges.start, c.ranges.seconds) in
    let sum : FitsSigned w64 (c.args.start +ℤ c.args.seconds) = omega (arith, ints, c.requires.start, c.requires.seconds) in
    let (fits_now, fits_start, fits_seconds) = fits in
    let minute = simp to_z-of_z at c.minute_at-minute.ensures.value in
    let now = simp to_z-of_z at c.minute_at.ensures.value in (
      (simp to_z-of_z at c.if-not-is_clock_second.ensures.fact).0 refl,
      (simp to_z-of_z at c.if-not-is_clock_second-2.ensures.fact).0 refl,
      rw (← minute, ← now) c.if-minute-minute_at.true,
    )

pub returns : goal.returns
returns c =
    let fits : FitsSigned w64 c.args.now × FitsSigned w64 c.args.start × FitsSigned w64 c.args.seconds =
    (c.ranges.now, c.ranges.start, c.ranges.seconds) in
    let sum : FitsSigned w64 (c.args.start +ℤ c.args.seconds) = omega (arith, ints, c.requires.start, c.requires.seconds) in
    let (fits_now, fits_start, fits_seconds) = fits in
    let minute = simp to_z-of_z at c.minute_at-minute.ensures.value in
    let now = simp to_z-of_z at c.minute_at.ensures.value in (
      (simp to_z-of_z at c.if-not-is_clock_second.ensures.fact).0 refl,
      (simp to_z-of_z at c.if-not-is_clock_second-2.ensures.fact).0 refl,
      minute,
      rw (← now) c.if-minute-minute_at.false,
    )
