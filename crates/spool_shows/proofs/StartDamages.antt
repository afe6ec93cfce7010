-- The first damaged start, by its place, is the one whose damage is computed.
use Rattle.std.proofs.Common.{◌≡◌, ◌<◌, ◌≤◌, ◌+◌, ◌-◌, ℕ, suc, Bool, true, false, List, [], ◌∷◌, sym, ap, subst, ◌∙◌, refl, inl, inr, arith}
use Rattle.std.specs.Prelude.{◌==◌, Option, Some, None, slice_get, if◌then◌else◌}
use Rattle.std.specs.Option.{option_or}
use Rattle.std.proofs.Math.Nat.{eq-or-lt_of_le}
use Rattle.std.proofs.lemmas.Bool.{eqb-true}
use Rattle.std.proofs.lemmas.Bool.Decides.{eqb_tells}
use Rattle.host_calls.specs.declared.damage.Damage.{Damage}
use Rattle.host_calls.specs.Directory.{Files}
use Rattle.start_journal.specs.declared.mark.Mark.{Mark}
use Rattle.start_journal.specs.declared.mark.Mark.TheVariants.{Removed, Started, Ended, Interrupted, Forgotten, Batch}
use Rattle.start_journal.specs.Journals.{queue_damage}
use Rattle.start_journal.specs.Marks.{is_decided}
use Rattle.spool_shows.specs.ByName.{HasFile, IsJobFile}
use Rattle.spool_shows.specs.FirstDamage.{IsDamagedStart, IsOpenStart, IsStartDamage, no_file, other_queue}
use Rattle.spool_shows.specs.JobFiles.{JobFile, file_of}
use Rattle.spool_shows.specs.Shown.{mark_damage, start_damage, starts_damage}
use Rattle.spool_shows.proofs.FileLemmas.{counted_is_file, file_is_counted, files_that_count}
use Rattle.spool_shows.proofs.Membership.{Has, found_has, not_found}
use Rattle.spool_shows.proofs.StartLemmas.{file_found, has_its_file, number_passes, queue_fits}

-- no number has two files
abbrev pub HaveOneFile : List Mark → Files → Type 0
HaveOneFile marks files = (one other : JobFile) → IsJobFile marks files one → IsJobFile marks files other
    → one.job.number ≡ other.job.number → one ≡ other

-- what a start that is not finished shows, by its file
abbrev undecided_damage : ℕ → ℕ → Option JobFile → Bool → Option Damage
undecided_damage place queue file decided = if decided then None else start_damage place queue file

module _ (marks : List Mark) (files : Files) where
  abbrev counted : List JobFile
  counted = files_that_count marks files

  -- the mark at a place is one
  same_mark : (place number queue : ℕ) (mark : Mark) → slice_get marks place ≡ Some mark → (is : IsOpenStart marks place number queue)
      → mark ≡ Started number queue is.second
  same_mark place number queue mark there is = let both : Some mark ≡ Some (Started number queue is.second) = sym there ∙ is.holds in cc

  -- a mark without damage, if it is such a start, has its file
  fine_mark : (place number queue : ℕ) (mark : Mark) → slice_get marks place ≡ Some mark → mark_damage marks (files_that_count marks files)
      place mark ≡ None → IsOpenStart marks place number queue → HasFile marks files number queue
  fine_mark place number queue mark there none is =
      has_its_file marks files place number queue is.second
      (subst (λ (of : Mark). mark_damage marks (files_that_count marks files) place of ≡ None)
      (same_mark place number queue mark there is) none) is.undecided

  -- and one whose start has its file is without damage
  mark_fine : HaveOneFile marks files → (place : ℕ) (mark : Mark) → slice_get marks place ≡ Some mark
      → ((number queue : ℕ) → IsOpenStart marks place number queue → HasFile marks files number queue)
      → mark_damage marks (files_that_count marks files) place mark ≡ None
  mark_fine once place (Started number queue second) there fine = by_test (is_decided number marks) refl where
    by_test : (decided : Bool) → is_decided number marks ≡ decided
        → undecided_damage place queue (file_of number (files_that_count marks files)) decided ≡ None
    by_test true decided = refl
    by_test false undecided =
        let file : HasFile marks files number queue =
        fine number queue (record { second = second; holds = there; undecided = undecided }) in
        ap (start_damage place queue) (ap (λ of. file_of of (files_that_count marks files)) (sym file.number_is)
        ∙ file_found marks files file.file file.is once)
        ∙ queue_fits place queue file.file file.queue_is
  mark_fine once place (Removed number) there fine = refl
  mark_fine once place (Ended number ending) there fine = refl
  mark_fine once place (Interrupted number) there fine = refl
  mark_fine once place (Forgotten number) there fine = refl
  mark_fine once place (Batch second) there fine = refl

  -- a start with damage
  record Damaged (place : ℕ) (damage : Damage) : Type 0 where
    number : ℕ
    queue : ℕ
    is : IsOpenStart marks place number queue
    damaged : IsDamagedStart marks files place number queue damage

  damaged_start : (place number queue : ℕ) (damage : Damage) (found : Option JobFile) → file_of number (files_that_count marks files)
      ≡ found → start_damage place queue found ≡ Some damage → IsDamagedStart marks files place number queue damage
  damaged_start place number queue damage None none is =
      no_file (λ file there same. not_found (λ (of : JobFile). of.job.number == number) (files_that_count marks files) file none
      (file_is_counted marks files file there) (number_passes file.job.number number same)) cc
  damaged_start place number queue damage (Some file) found is = by_test (file.job.queue == queue) refl is where
    holds : Has (files_that_count marks files) file × ((file.job.number == number) ≡ true)
    holds = found_has (λ (of : JobFile). of.job.number == number) (files_that_count marks files) file found

    by_test : (same : Bool) → (file.job.queue == queue) ≡ same → (if same then None else Some (queue_damage place queue)) ≡ Some damage
        → IsDamagedStart marks files place number queue damage
    by_test true same none = let impossible : None ≡ Some damage = none in cc
    by_test false apart some =
        other_queue file (counted_is_file marks files file holds.0) (eqb-true file.job.number number holds.1)
        (λ same. (let impossible : false ≡ true = sym apart ∙ number_passes file.job.queue queue same in cc)) cc

  damaged_mark : (place : ℕ) (damage : Damage) (mark : Mark) → slice_get marks place ≡ Some mark
      → mark_damage marks (files_that_count marks files) place mark ≡ Some damage → Damaged place damage
  damaged_mark place damage (Started number queue second) there is = by_test (is_decided number marks) refl is where
    by_test : (decided : Bool) → is_decided number marks ≡ decided
        → undecided_damage place queue (file_of number (files_that_count marks files)) decided ≡ Some damage → Damaged place damage
    by_test true decided none = let impossible : None ≡ Some damage = none in cc
    by_test false undecided some = record {
      number = number;
      queue = queue;
      is = record { second = second; holds = there; undecided = undecided };
      damaged = damaged_start place number queue damage (file_of number (files_that_count marks files)) refl some;
    }
  damaged_mark place damage (Removed number) there is = let impossible : None ≡ Some damage = is in cc
  damaged_mark place damage (Ended number ending) there is = let impossible : None ≡ Some damage = is in cc
  damaged_mark place damage (Interrupted number) there is = let impossible : None ≡ Some damage = is in cc
  damaged_mark place damage (Forgotten number) there is = let impossible : None ≡ Some damage = is in cc
  damaged_mark place damage (Batch second) there is = let impossible : None ≡ Some damage = is in cc

  start_damaged : HaveOneFile marks files → (place number queue : ℕ) (damage : Damage) → IsDamagedStart marks files place number queue
      damage → start_damage place queue (file_of number (files_that_count marks files)) ≡ Some damage
  start_damaged once place number queue damage (no_file none is) = by_found (file_of number (files_that_count marks files)) refl where
    by_found : (found : Option JobFile) → file_of number (files_that_count marks files) ≡ found
        → start_damage place queue found ≡ Some damage
    by_found None found = ap Some (sym is)
    by_found (Some file) found =
        let holds : Has (files_that_count marks files) file × ((file.job.number == number) ≡ true) =
        found_has (λ (of : JobFile). of.job.number == number) (files_that_count marks files) file found in
        absurd (none file (counted_is_file marks files file holds.0) (eqb-true file.job.number number holds.1))
  start_damaged once place number queue damage (other_queue file there same differ is) =
      ap (start_damage place queue) (ap (λ of. file_of of (files_that_count marks files)) (sym same)
      ∙ file_found marks files file there once)
      ∙ elim (eqb_tells file.job.queue queue) [
        | inl alike ↦ absurd (differ alike.1)
        | inr apart ↦ ap (λ b. if b then None else Some (queue_damage place queue)) apart.0 ∙ ap Some (sym is)
      ]

  mark_damaged : HaveOneFile marks files → (place number queue : ℕ) (damage : Damage) (mark : Mark)
      → slice_get marks place ≡ Some mark → IsOpenStart marks place number queue → IsDamagedStart marks files place number queue damage
      → mark_damage marks (files_that_count marks files) place mark ≡ Some damage
  mark_damaged once place number queue damage mark there is damaged =
      subst (λ (of : Mark). mark_damage marks (files_that_count marks files) place of ≡ Some damage)
      (sym (same_mark place number queue mark there is))
      (ap (undecided_damage place queue (file_of number (files_that_count marks files))) is.undecided
      ∙ start_damaged once place number queue damage damaged)

  -- these marks are there from the place on
  abbrev StandFrom : ℕ → List Mark → Type 0
  StandFrom place list = (at : ℕ) → slice_get list at ≡ slice_get marks (place + at)

  here : (place : ℕ) (mark : Mark) (later : List Mark) → StandFrom place (mark ∷ later) → slice_get marks place ≡ Some mark
  here place mark later stand = let same : place + 0 ≡ place = omega arith in sym (stand 0 ∙ ap (slice_get marks) same)

  after : (place : ℕ) (mark : Mark) (later : List Mark) → StandFrom place (mark ∷ later) → StandFrom (place + 1) later
  after place mark later stand at = let same : place + suc at ≡ place + 1 + at = omega arith in stand (suc at) ∙ ap (slice_get marks) same

  -- each such start before the place has its file
  abbrev AreFineBefore : ℕ → Type 0
  AreFineBefore place = (other number queue : ℕ) → other < place → IsOpenStart marks other number queue → HasFile marks files number queue

  starts_first : (place : ℕ) (list : List Mark) (damage : Damage) → StandFrom place list → AreFineBefore place
      → starts_damage marks (files_that_count marks files) place list ≡ Some damage → IsStartDamage marks files damage
  starts_first place [] damage stand fine is = let impossible : None ≡ Some damage = is in cc
  starts_first place (mark ∷ later) damage stand fine is = by_mark (mark_damage marks (files_that_count marks files) place mark) refl
      (starts_first (place + 1) later damage (after place mark later stand))
    where
      by_mark : (found : Option Damage) → mark_damage marks (files_that_count marks files) place mark ≡ found → (AreFineBefore (place + 1)
          → starts_damage marks (files_that_count marks files) (place + 1) later ≡ Some damage → IsStartDamage marks files damage)
          → IsStartDamage marks files damage
      by_mark (Some one) found go =
          let whole : Some one ≡ Some damage =
          sym (ap (λ o. option_or o (starts_damage marks (files_that_count marks files) (place + 1) later)) found) ∙ is in
          let same : one ≡ damage = cc in
          let start : Damaged place damage = damaged_mark place damage mark (here place mark later stand) (found ∙ ap Some same) in
          record { place = place; number = start.number; queue = start.queue; is = start.is; earlier = fine; damaged = start.damaged }
      by_mark None none go =
          go (λ other number queue less start. elim (eq-or-lt_of_le (let most : other ≤ place = omega arith in most)) [
            | inl same ↦ fine_mark place number queue mark (here place mark later stand) none
                (subst (λ at. IsOpenStart marks at number queue) same start)
            | inr before ↦ fine other number queue before start
          ])
          (sym (ap (λ o. option_or o (starts_damage marks (files_that_count marks files) (place + 1) later)) none) ∙ is)

  starts_found : HaveOneFile marks files → (place : ℕ) (list : List Mark) (damage : Damage)
      → StandFrom place list → (is : IsStartDamage marks files damage) → place ≤ is.place
      → starts_damage marks (files_that_count marks files) place list ≡ Some damage
  starts_found once place [] damage stand is least =
      let same : place + (is.place - place) ≡ is.place = omega arith in
      let impossible : None ≡ Some (Started is.number is.queue is.is.second) = stand (is.place - place)
      ∙ ap (slice_get marks) same ∙ is.is.holds in
      cc
  starts_found once place (mark ∷ later) damage stand is least = elim (eq-or-lt_of_le least) [
    | inl same ↦
        ap (λ o. option_or o (starts_damage marks (files_that_count marks files) (place + 1) later))
        (mark_damaged once place is.number is.queue damage mark (here place mark later stand)
        (subst (λ at. IsOpenStart marks at is.number is.queue) (sym same) is.is)
        (subst (λ at. IsDamagedStart marks files at is.number is.queue damage) (sym same) is.damaged))
    | inr less ↦
        ap (λ o. option_or o (starts_damage marks (files_that_count marks files) (place + 1) later))
        (mark_fine once place mark (here place mark later stand) (λ number queue start. is.earlier place number queue less start))
        ∙ starts_found once (place + 1) later damage (after place mark later stand) is (omega arith)
  ]

  -- of the whole journal
  from_none : StandFrom 0 marks
  from_none at = let same : at ≡ 0 + at = omega arith in ap (slice_get marks) same

  pub first_start : (damage : Damage) → starts_damage marks (files_that_count marks files) 0 marks ≡ Some damage
      → IsStartDamage marks files damage
  first_start damage is = starts_first 0 marks damage from_none (λ other number queue less start. absurd (omega arith)) is

  pub start_first : HaveOneFile marks files → (damage : Damage) → IsStartDamage marks files damage
      → starts_damage marks (files_that_count marks files) 0 marks ≡ Some damage
  start_first once damage is = starts_found once 0 marks damage from_none is (omega arith)
