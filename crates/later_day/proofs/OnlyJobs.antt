-- Worlds in which the scripts of jobs alone count as started.
use Rattle.std.proofs.Common.{◌≡◌, ◌++◌, true, false, Bool, List, [], ◌∷◌, append-nil, refl, ap, ◌∙◌, All, cond, map}
use Rattle.std.proofs.lemmas.List.Elements.{All-head, All-tail, filter-append}
use Rattle.std.proofs.lemmas.List.{map-append}
use Rattle.host_calls.specs.declared.child.Handed.{Handed}
use Rattle.host_calls.specs.Directory.{Files}
use Rattle.host_calls.specs.World.{AllMoments, HasEachImage, LeavesOnly, Moment, World, moments}
use Rattle.later_day.specs.LaterEffects.{is_of_job, jobs_at, of_jobs, only_jobs}

-- what was started for jobs alone stays, and of what was started for none nothing does
pub jobs_stay : (given : List Handed) → All (λ handed. is_of_job handed ≡ true) given → of_jobs given ≡ given
jobs_stay [] all = refl
jobs_stay (handed ∷ others) all =
    ap (λ (test : Bool). cond test (handed ∷ of_jobs others) (of_jobs others))
    (All-head (λ handed. is_of_job handed ≡ true) handed others all)
    ∙ ap (λ (l : List Handed). handed ∷ l) (jobs_stay others (All-tail (λ handed. is_of_job handed ≡ true) handed others all))

pub others_go : (handed : Handed) (given : List Handed) → is_of_job handed ≡ false → of_jobs (handed ∷ given) ≡ of_jobs given
others_go handed given is = ap (λ (test : Bool). cond test (handed ∷ of_jobs given) (of_jobs given)) is

-- of more that was started, the jobs of both
pub of_both : (given more : List Handed) → of_jobs (given ++ more) ≡ of_jobs given ++ of_jobs more
of_both given more = filter-append is_of_job given more

-- nothing more where the rest is for no job
pub of_first : (given more : List Handed) → of_jobs more ≡ [] → of_jobs (given ++ more) ≡ of_jobs given
of_first given more none = of_both given more ∙ ap (λ (l : List Handed). of_jobs given ++ l) none ∙ append-nil (of_jobs given)

-- what each moment leaves, of jobs alone
each_of_jobs : (P Q : Files → List Handed → Type 0) (more : List Moment) →
    ((image : Files) (handed : List Handed) → P image handed → Q image (of_jobs handed)) →
    AllMoments (HasEachImage P) more → AllMoments (HasEachImage Q) (map jobs_at more)
each_of_jobs P Q [] keeps each = tt
each_of_jobs P Q (here ∷ others) keeps each =
    (λ image is. keeps image here.handed (each.0 image is), each_of_jobs P Q others keeps each.1)

-- what a crash leaves, of jobs alone
pub leaves_of_jobs : (P Q : Files → List Handed → Type 0) (old new : World) →
    ((image : Files) (handed : List Handed) → P image handed → Q image (of_jobs handed)) →
    LeavesOnly P old new → LeavesOnly Q (only_jobs old) (only_jobs new)
leaves_of_jobs P Q old new keeps leaves = record {
  more = map jobs_at leaves.more;
  run = ap (map jobs_at) leaves.run ∙ map-append jobs_at leaves.more (moments old);
  each = each_of_jobs P Q leaves.more keeps leaves.each;
}
