-- What a list of steps keeps of a table that an image shows.
use Rattle.std.proofs.Common.{◌++◌, Bool, false, List, [], ◌∷◌, append-nil, append_assoc, sym, ap, subst, ◌∙◌, inl, inr, All, Contains}
use Rattle.std.proofs.lemmas.List.Elements.{All-cons, All-head, All-nil, All-tail}
use Rattle.host_calls.specs.declared.child.Handed.{Handed}
use Rattle.spool_model.specs.declared.step.Step.{Step}
use Rattle.spool_model.specs.declared.step.Step.TheVariants.{Draw, Accept, Remove, Start, End, Interrupt, Forget}
use Rattle.spool_model.specs.JobTable.{JobTable}
use Rattle.spool_model.specs.Laws.{PrefixAndRest}
use Rattle.spool_model.specs.Steps.{AreLegal, FollowDraws, after_step, after_steps}
use Rattle.spool_model.proofs.StepLemmas.{prefixes_are_legal}
use Rattle.step_runs.specs.Hands.{Hands, HandsByNow, LacksLast}
use Rattle.headline.proofs.GoodTables.{IsGood, good_between, good_quiet, good_step}
use Rattle.headline.proofs.StartedNumbers.{MayFollow, drawn_after}

-- what holds of each of a joined list holds of each of its prefix
pub all_prefix : {X : Type 0} (P : X → Type 0) (first later : List X) → All P (first ++ later) → All P first
all_prefix P [] later each = All-nil P
all_prefix P (x ∷ others) later each =
    All-cons P x others (All-head P x (others ++ later) each) (all_prefix P others later (All-tail P x (others ++ later) each))

-- and of each of the rest
pub all_rest : {X : Type 0} (P : X → Type 0) (first later : List X) → All P (first ++ later) → All P later
all_rest P [] later each = each
all_rest P (x ∷ others) later each = all_rest P others later (All-tail P x (others ++ later) each)

-- the first step follows, and the others after it
follows_first : (drawn : Bool) (step : Step) (later : List Step) → FollowDraws drawn (step ∷ later) →
    MayFollow drawn step × FollowDraws (drawn_after step) later
follows_first drawn Draw later follow = (tt, follow)
follows_first drawn (Accept number job) later follow = follow
follows_first drawn (Remove number) later follow = (tt, follow)
follows_first drawn (Start number second) later follow = (tt, follow)
follows_first drawn (End number ending) later follow = (tt, follow)
follows_first drawn (Interrupt number) later follow = (tt, follow)
follows_first drawn (Forget number) later follow = (tt, follow)

-- and the other way round
follows_joined : (drawn : Bool) (step : Step) (later : List Step) → MayFollow drawn step → FollowDraws (drawn_after step) later →
    FollowDraws drawn (step ∷ later)
follows_joined drawn Draw later first follow = follow
follows_joined drawn (Accept number job) later first follow = (first, follow)
follows_joined drawn (Remove number) later first follow = follow
follows_joined drawn (Start number second) later first follow = follow
follows_joined drawn (End number ending) later first follow = follow
follows_joined drawn (Interrupt number) later first follow = follow
follows_joined drawn (Forget number) later first follow = follow

-- a prefix of steps follows
pub follows_prefix : (drawn : Bool) (prefix after : List Step) → FollowDraws drawn (prefix ++ after) → FollowDraws drawn prefix
follows_prefix drawn [] after follow = tt
follows_prefix drawn (step ∷ later) after follow =
    let both : MayFollow drawn step × FollowDraws (drawn_after step) (later ++ after) = follows_first drawn step (later ++ after) follow in
    follows_joined drawn step later both.0 (follows_prefix (drawn_after step) later after both.1)

-- steps that have started all their scripts
pub good_steps : (opening : JobTable) (all : List Step) (drawn : Bool) (given more : List Handed) (table : JobTable) (steps : List Step) →
    AreLegal table steps → FollowDraws drawn steps → All (Contains all) steps → Hands table steps more →
    IsGood opening all drawn given table → IsGood opening all false (given ++ more) (after_steps table steps)
good_steps opening all drawn given more table [] legal follow within hands good =
    subst (λ (l : List Handed). IsGood opening all false l table) (sym (ap (λ (l : List Handed). given ++ l) hands ∙ append-nil given))
    (good_between opening all drawn given table good)
good_steps opening all drawn given more table (step ∷ later) legal follow within hands good =
    let both : MayFollow drawn step × FollowDraws (drawn_after step) later = follows_first drawn step later follow in
    let first : IsGood opening all (drawn_after step) (given ++ hands.0) (after_step table step) =
    good_step opening all drawn given hands.0 table step legal.0 both.0 (All-head (Contains all) step later within) hands.2 good in
    let rest : IsGood opening all false ((given ++ hands.0) ++ hands.1) (after_steps (after_step table step) later) =
    good_steps opening all (drawn_after step) (given ++ hands.0) hands.1 (after_step table step) later legal.1 both.1
    (All-tail (Contains all) step later within) hands.3 first in
    subst (λ (l : List Handed). IsGood opening all false l (after_steps (after_step table step) later))
    (append_assoc given hands.0 hands.1 ∙ ap (λ (l : List Handed). given ++ l) (sym hands.4)) rest

-- steps of which the last start may still lack its script
good_lacking : (opening : JobTable) (all : List Step) (given more : List Handed) (table : JobTable) (steps : List Step) →
    AreLegal table steps → FollowDraws false steps → All (Contains all) steps → LacksLast table steps more →
    IsGood opening all false given table → IsGood opening all false (given ++ more) (after_steps table steps)
good_lacking opening all given more table steps legal follow within lacks good =
    let last : Step = Start lacks.number lacks.second in
    let legal_all : AreLegal table (lacks.earlier ++ last ∷ []) = subst (AreLegal table) lacks.ends legal in
    let parts : PrefixAndRest table lacks.earlier (last ∷ []) = prefixes_are_legal table lacks.earlier (last ∷ []) legal_all in
    let within_all : All (Contains all) (lacks.earlier ++ last ∷ []) = subst (λ (l : List Step). All (Contains all) l) lacks.ends within in
    let follow_all : FollowDraws false (lacks.earlier ++ last ∷ []) = subst (FollowDraws false) lacks.ends follow in
    let before : IsGood opening all false (given ++ more) (after_steps table lacks.earlier) =
    good_steps opening all false given more table lacks.earlier parts.prefix_legal
    (follows_prefix false lacks.earlier (last ∷ []) follow_all)
    (all_prefix (Contains all) lacks.earlier (last ∷ []) within_all) lacks.hands good in
    let after : IsGood opening all false (given ++ more) (after_step (after_steps table lacks.earlier) last) =
    good_quiet opening all false (given ++ more) (after_steps table lacks.earlier) last parts.rest_legal.0 tt
    (All-head (Contains all) last [] (all_rest (Contains all) lacks.earlier (last ∷ []) within_all)) before in
    subst (λ (t : JobTable). IsGood opening all false (given ++ more) t) (sym (ap (after_steps table) lacks.ends ∙ parts.joined)) after

-- steps that have started the scripts that are theirs by now
pub good_by_now : (opening : JobTable) (all : List Step) (given more : List Handed) (table : JobTable) (steps : List Step) →
    AreLegal table steps → FollowDraws false steps → All (Contains all) steps → HandsByNow table steps more →
    IsGood opening all false given table → IsGood opening all false (given ++ more) (after_steps table steps)
good_by_now opening all given more table steps legal follow within by_now good = elim by_now [
  | inl hands ↦ good_steps opening all false given more table steps legal follow within hands good
  | inr lacks ↦ good_lacking opening all given more table steps legal follow within lacks good
]
