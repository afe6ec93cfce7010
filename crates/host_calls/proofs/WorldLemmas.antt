-- How the moments of one call after another join.
use Rattle.std.proofs.Common.{◌≡◌, ◌⊎◌, ◌+◌, ◌-◌, ◌≤◌, ℕ, zero, suc, List, [], ◌∷◌, ◌++◌, length, take, append_assoc, sym, ap, subst, ◌∙◌, inl, inr, arith, length-append, Result}
use Rattle.host_calls.specs.declared.child.Handed.{Handed}
use Rattle.host_calls.specs.declared.fault.HostFault.{HostFault}
use Rattle.host_calls.specs.Directory.{Directory, Files}
use Rattle.host_calls.specs.World.{Moment, World, moments, moment, AnyMoment, AllMoments, Leaves, MayLeave, HasEachImage, LeavesOnly, IsWithin, WithinCall, FileCall, TimePasses}

-- what holds of each moment of two lists holds of each of both together
pub AtEach-append : (P : Moment → Type 0) (first second : List Moment) → AllMoments P first → AllMoments P second
    → AllMoments P (first ++ second)
AtEach-append P [] second all all_second = all_second
AtEach-append P (here ∷ others) second all all_second = (all.0, AtEach-append P others second all.1 all_second)

-- what holds of each moment still holds by a weaker claim
pub AtEach-weaker : (P Q : Moment → Type 0) (each : List Moment) → ((at : Moment) → P at → Q at) → AllMoments P each → AllMoments Q each
AtEach-weaker P Q [] weaker all = tt
AtEach-weaker P Q (here ∷ others) weaker all = (weaker here all.0, AtEach-weaker P Q others weaker all.1)

-- what a crash leaves still has a weaker property
pub leaves_weaker : (P Q : Files → List Handed → Type 0) (old new : World)
    → ((image : Files) (handed : List Handed) → P image handed → Q image handed) → LeavesOnly P old new → LeavesOnly Q old new
leaves_weaker P Q old new weaker leaves = record {
  more = leaves.more;
  run = leaves.run;
  each = AtEach-weaker (HasEachImage P) (HasEachImage Q) leaves.more (λ at all image is. weaker image at.handed (all image is)) leaves.each;
}

-- no call, no moment
pub leaves_none : (P : Files → List Handed → Type 0) (old new : World) → new ≡ old → LeavesOnly P old new
leaves_none P old new same = record { more = []; run = ap moments same; each = tt }

-- one run after another
pub leaves_then : (P : Files → List Handed → Type 0) (first second third : World) → LeavesOnly P first second → LeavesOnly P second third
    → LeavesOnly P first third
leaves_then P first second third before after = record {
  more = after.more ++ before.more;
  run = after.run ∙ ap (λ rest. after.more ++ rest) before.run ∙ sym (append_assoc after.more before.more (moments first));
  each = AtEach-append (HasEachImage P) after.more before.more after.each before.each;
}

-- one call after a run: it is enough that what the call lets a crash leave has P
pub call_then : {T : Type 0} (P : Files → List Handed → Type 0) (done part : Directory → Directory → Type 0)
    (first second third : World) (result : Result T HostFault) → LeavesOnly P first second → FileCall done part second third result
    → ((image : Files) → IsWithin done second.now.directory image → P image second.now.handed) → LeavesOnly P first third
call_then P done part first second third result before call within =
    let weaker : (image : Files) (handed : List Handed) → WithinCall done second.now image handed
    → P image handed = λ image handed is. subst (P image) (sym is.1) (within image is.0) in
    leaves_then P first second third before (leaves_weaker (WithinCall done second.now) P second third weaker call.leaves)

-- the first moments of a list, where what follows is cut off
take_prefix : (m n : ℕ) (more rest : List Moment) → length more + n ≡ m → take m (more ++ rest) ≡ more ++ take n rest
take_prefix m n [] rest counted = let same : m ≡ n = omega arith in ap (λ k. take k rest) same
take_prefix zero n (here ∷ others) rest counted = absurd (omega arith)
take_prefix (suc m) n (here ∷ others) rest counted = ap (λ l. here ∷ l) (take_prefix m n others rest (omega arith))

-- one of the moments of two lists is in one of them
AtSome-append : (P : Moment → Type 0) (first second : List Moment) → AnyMoment P (first ++ second) → AnyMoment P first ⊎ AnyMoment P second
AtSome-append P [] second some = inr some
AtSome-append P (here ∷ others) second some = elim some [
  | inl at ↦ inl (inl at)
  | inr later ↦ elim (AtSome-append P others second later) [ inl left ↦ inl (inr left) | inr right ↦ inr right ]
]

AtSome-left : (P : Moment → Type 0) (first second : List Moment) → AnyMoment P first → AnyMoment P (first ++ second)
AtSome-left P [] second some = absurd some
AtSome-left P (here ∷ others) second some = elim some [ inl at ↦ inl at | inr later ↦ inr (AtSome-left P others second later) ]

AtSome-right : (P : Moment → Type 0) (first second : List Moment) → AnyMoment P second → AnyMoment P (first ++ second)
AtSome-right P [] second some = some
AtSome-right P (here ∷ others) second some = inr (AtSome-right P others second some)

-- how far the moments of a world reach
run_counted : (old new : World) (more : List Moment) → moments new ≡ more ++ moments old → moment new ≡ length more + moment old
run_counted old new more run =
    let counted : length (moments new) ≡ length (more ++ moments old) = ap length run in
    omega (arith, counted, length-append more (moments old))

-- what could be since an earlier moment, by the moments of a run
could_run : (old new : World) (more : List Moment) → moments new ≡ more ++ moments old → (since : ℕ) → since ≤ moment old
    → take (moment new + 1 - since) (moments new) ≡ more ++ take (moment old + 1 - since) (moments old)
could_run old new more run since early =
    let counted : moment new ≡ length more + moment old = run_counted old new more run in
    ap (take (moment new + 1 - since)) run ∙ take_prefix (moment new + 1 - since) (moment old + 1 - since) more (moments old) (omega arith)

-- What could be since a moment, after a run, is what could be since it before the run, or since the run's start after it.
pub could_law : (old new : World) (more : List Moment) → moments new ≡ more ++ moments old
    → (since : ℕ) → since ≤ moment old → (image : Files) (handed : List Handed)
    → (MayLeave new since image handed → MayLeave old since image handed ⊎ MayLeave new (moment old) image handed)
    × (MayLeave old since image handed ⊎ MayLeave new (moment old) image handed → MayLeave new since image handed)
could_law old new more run since early image handed =
    let P : Moment → Type 0 = Leaves image handed in
    let whole : take (moment new + 1 - since) (moments new) ≡ more ++ take (moment old + 1 - since) (moments old) =
    could_run old new more run since early in
    let from_start : take (moment new + 1 - moment old) (moments new) ≡ more ++ take (moment old + 1 - moment old) (moments old) =
    could_run old new more run (moment old) (omega arith) in
    let one : moment old + 1 - moment old ≡ suc zero = omega arith in
    let rest : moment old + 1 - since ≡ suc (moment old - since) = omega arith in (
      λ some. elim (AtSome-append P more _ (subst (AnyMoment P) whole some)) [
        | inl new_one ↦ inr (subst (AnyMoment P) (sym from_start) (AtSome-left P more _ new_one))
        | inr old_one ↦ inl old_one
      ],
      λ either. subst (AnyMoment P) (sym whole) (elim either [
        | inl old_one ↦ AtSome-right P more _ old_one
        | inr new_one ↦ elim (AtSome-append P more _ (subst (AnyMoment P) from_start new_one)) [
          | inl newer ↦ AtSome-left P more _ newer
          | inr start ↦ AtSome-right P more _ (subst (λ k. AnyMoment P (take k (moments old))) (sym rest)
              (elim (subst (λ k. AnyMoment P (take k (moments old))) one start) [ inl at ↦ inl at | inr none ↦ absurd none ]))
        ]
      ]),
    )

-- each of some moments has the property, so that one of them has it too
AtEach-some : (P Q : Moment → Type 0) (each : List Moment) → AllMoments P each → AnyMoment Q each → (at : Moment) × P at × Q at
AtEach-some P Q [] all some = absurd some
AtEach-some P Q (here ∷ others) all some = elim some [ inl at ↦ (here, all.0, at) | inr later ↦ AtEach-some P Q others all.1 later ]

-- what a crash since the start of a run could leave was an image of its start or has P
pub could_only : (P : Files → List Handed → Type 0) (old new : World) → LeavesOnly P old new → (image : Files) (handed : List Handed)
    → MayLeave new (moment old) image handed → Leaves image handed old.now ⊎ P image handed
could_only P old new leaves image handed could =
    let Q : Moment → Type 0 = Leaves image handed in
    let from_start : take (moment new + 1 - moment old) (moments new) ≡ leaves.more ++ take (moment old + 1 - moment old) (moments old) =
    could_run old new leaves.more leaves.run (moment old) (omega arith) in
    let one : moment old + 1 - moment old ≡ suc zero = omega arith in
    elim (AtSome-append Q leaves.more _ (subst (AnyMoment Q) from_start could)) [
      | inl newer ↦ let found : (at : Moment) × HasEachImage P at × Q at = AtEach-some (HasEachImage P) Q leaves.more leaves.each newer in
          inr (subst (P image) (sym found.2.1) (found.1 image found.2.0))
      | inr start ↦ elim (subst (λ k. AnyMoment Q (take k (moments old))) one start) [ inl at ↦ inl at | inr none ↦ absurd none ]
    ]

-- the images of the end of a run have P, where those of its start have it
pub at_end : (P : Files → List Handed → Type 0) (old new : World) → LeavesOnly P old new → HasEachImage P old.now → HasEachImage P new.now
at_end P old new leaves start = by_run leaves.more leaves.run leaves.each where
  by_run : (more : List Moment) → moments new ≡ more ++ moments old → AllMoments (HasEachImage P) more → HasEachImage P new.now
  by_run [] run each = let same : new.now ≡ old.now = cc in subst (HasEachImage P) (sym same) start
  by_run (here ∷ others) run each = let same : new.now ≡ here = cc in subst (HasEachImage P) (sym same) each.0

-- nothing is started
pub goes_on_none : (old new : World) → new ≡ old → TimePasses old new
goes_on_none old new same = record {
  asked = ap (λ (world : World). world.asked) same;
  handed = ap (λ (world : World). world.now.handed) same;
  leaves = leaves_none (λ image handed. handed ≡ old.now.handed) old new same;
}

-- one run after another starts what the two do
pub goes_on_then : (first second third : World) → TimePasses first second → TimePasses second third → TimePasses first third
goes_on_then first second third before after = record {
  asked = after.asked ∙ before.asked;
  handed = after.handed ∙ before.handed;
  leaves = leaves_then (λ image handed. handed ≡ first.now.handed) first second third before.leaves
      (leaves_weaker (λ image handed. handed ≡ second.now.handed) (λ image handed. handed ≡ first.now.handed) second third
      (λ image handed is. is ∙ before.handed) after.leaves);
}
