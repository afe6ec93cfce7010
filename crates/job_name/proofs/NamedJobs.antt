-- Names and the jobs that they name, as they compute.
use Rattle.std.proofs.Common.{◌≡◌, ◌+◌, ◌≤◌, ℕ, Bool, true, false, Option, Some, None, List, length, ap, sym, subst, ◌∙◌, refl, arith, eq-eqb}
use Rattle.std.specs.Prelude.{◌==◌, ◌&&◌, slice_index, slice_range, nat_le, if◌then◌else◌}
use Rattle.std.specs.Char.{is_ascii_alphabetic}
use Rattle.std.specs.Option.{option_or}
use Rattle.std.proofs.lemmas.Bool.Decides.{nat_tests}
use Rattle.host_calls.specs.declared.clock_seconds.TheConstants.{LAST_MINUTE}
use Rattle.text_reader.specs.HexValues.{number_in}
use Rattle.std.proofs.lemmas.Bool.{and_from, and_parts, eqb-true}
use Rattle.text_reader.proofs.ValueLemmas.{number_given, number_spelled}
use Rattle.spool_model.specs.Numbers.{number_digits}
use Rattle.job_name.specs.JobName.{IsInRange, NamedJob, SpellsJobName, job_in_range, job_named, job_spelled}
use Rattle.job_name.proofs.JobNameLemmas.{one_name, one_text}

-- a name that spells a job in a form is read in it
spelled_given : (name : List ℕ) (queue number minute : ℕ) (new_form : Bool) → SpellsJobName name queue number minute new_form
    → job_spelled new_form name ≡ Some (record { queue = queue; number = number; minute = minute; new_form = new_form })
spelled_given name queue number minute new_form spelled =
    let least : nat_le 1 number ≡ true = (let drawn : 1 ≤ number = spelled.in_range.drawn in grind (arith, nat_tests)) in
    let most : nat_le minute LAST_MINUTE ≡ true =
    (let in_calendar : minute ≤ LAST_MINUTE = spelled.in_range.in_calendar in grind (arith, nat_tests)) in
    let tests : (is_ascii_alphabetic queue && nat_le 1 number && nat_le minute LAST_MINUTE) ≡ true =
    and_from _ _ (and_from (is_ascii_alphabetic queue) (nat_le 1 number) spelled.in_range.letter least) most in
    let digits : Option ℕ = number_in (slice_range name 1 (1 + number_digits new_form)) in
    let eight : Option ℕ = number_in (slice_range name (1 + number_digits new_form) (9 + number_digits new_form)) in
    ap (λ b. if b then job_in_range new_form (slice_index name 0) digits eight else None)
    (eq-eqb (length name) (9 + number_digits new_form) spelled.counted)
    ∙ ap (λ letter. job_in_range new_form letter digits eight) spelled.first
    ∙ ap (λ some. job_in_range new_form queue some eight)
    (number_given (slice_range name 1 (1 + number_digits new_form)) number spelled.next_digits)
    ∙ ap (job_in_range new_form queue (Some number))
    (number_given (slice_range name (1 + number_digits new_form) (9 + number_digits new_form)) minute spelled.last_eight)
    ∙ ap (λ b. if b then Some (record { queue = queue; number = number; minute = minute; new_form = new_form }) else None) tests

-- a job that is in range
record IsJobInRange (new_form : Bool) (queue : ℕ) (number minute : Option ℕ) (job : NamedJob) : Type 0 where
  letter : queue ≡ job.queue
  number_is : number ≡ Some job.number
  minute_is : minute ≡ Some job.minute
  form : job.new_form ≡ new_form
  in_range : IsInRange job.queue job.number job.minute

in_range_is : (new_form : Bool) (queue : ℕ) (number minute : Option ℕ) (job : NamedJob)
    → job_in_range new_form queue number minute ≡ Some job → IsJobInRange new_form queue number minute job
in_range_is new_form queue None minute job is = cc
in_range_is new_form queue (Some number) None job is = cc
in_range_is new_form queue (Some number) (Some minute) job is =
    by_test (is_ascii_alphabetic queue && nat_le 1 number && nat_le minute LAST_MINUTE) refl is
  where
    found : NamedJob
    found = record { queue = queue; number = number; minute = minute; new_form = new_form }

    by_test : (passes : Bool) → (is_ascii_alphabetic queue && nat_le 1 number && nat_le minute LAST_MINUTE) ≡ passes
        → (if passes then Some found else None) ≡ Some job → IsJobInRange new_form queue (Some number) (Some minute) job
    by_test true tests same =
        let job_is : found ≡ job = cc in
        let prefix : ((is_ascii_alphabetic queue && nat_le 1 number) ≡ true) × (nat_le minute LAST_MINUTE ≡ true) =
        and_parts (is_ascii_alphabetic queue && nat_le 1 number) (nat_le minute LAST_MINUTE) tests in
        let first : (is_ascii_alphabetic queue ≡ true) × (nat_le 1 number ≡ true) =
        and_parts (is_ascii_alphabetic queue) (nat_le 1 number) prefix.0 in
        subst (IsJobInRange new_form queue (Some number) (Some minute)) job_is (record {
          letter = refl;
          number_is = refl;
          minute_is = refl;
          form = refl;
          in_range = record {
            letter = first.0;
            drawn = (let least : nat_le 1 number ≡ true = first.1 in grind (arith, nat_tests));
            in_calendar = (let most : nat_le minute LAST_MINUTE ≡ true = prefix.1 in grind (arith, nat_tests));
          };
        })
    by_test false tests same = cc

-- what is read in a form is spelled so, and has it
read_spelled : (new_form : Bool) (name : List ℕ) (job : NamedJob) → job_spelled new_form name ≡ Some job
    → SpellsJobName name job.queue job.number job.minute job.new_form
read_spelled new_form name job is = by_test (length name == 9 + number_digits new_form) refl is where
  digits : Option ℕ
  digits = number_in (slice_range name 1 (1 + number_digits new_form))

  eight : Option ℕ
  eight = number_in (slice_range name (1 + number_digits new_form) (9 + number_digits new_form))

  by_test : (counted : Bool) → (length name == 9 + number_digits new_form) ≡ counted
      → (if counted then job_in_range new_form (slice_index name 0) digits eight else None) ≡ Some job
      → SpellsJobName name job.queue job.number job.minute job.new_form
  by_test true counted found =
      let inside : IsJobInRange new_form (slice_index name 0) digits eight job = in_range_is new_form _ digits eight job found in
      subst (SpellsJobName name job.queue job.number job.minute) (sym inside.form) (record {
        counted = eqb-true (length name) (9 + number_digits new_form) counted;
        in_range = inside.in_range;
        first = inside.letter;
        next_digits = number_spelled (slice_range name 1 (1 + number_digits new_form)) job.number inside.number_is;
        last_eight =
            number_spelled (slice_range name (1 + number_digits new_form) (9 + number_digits new_form)) job.minute inside.minute_is;
      })
  by_test false other found = cc

pub name_spelled : (name : List ℕ) (job : NamedJob) → job_named name ≡ Some job
    → SpellsJobName name job.queue job.number job.minute job.new_form
name_spelled name job is = by_form (job_spelled true name) refl is where
  by_form : (found : Option NamedJob) → job_spelled true name ≡ found → option_or found (job_spelled false name) ≡ Some job
      → SpellsJobName name job.queue job.number job.minute job.new_form
  by_form (Some other) found same = read_spelled true name job (found ∙ same)
  by_form None found same = read_spelled false name job same

-- a name that spells a job is named after it
pub name_given : (name : List ℕ) (queue number minute : ℕ) (new_form : Bool) → SpellsJobName name queue number minute new_form
    → job_named name ≡ Some (record { queue = queue; number = number; minute = minute; new_form = new_form })
name_given name queue number minute true spelled =
    ap (λ found. option_or found (job_spelled false name)) (spelled_given name queue number minute true spelled)
name_given name queue number minute false spelled = by_form (job_spelled true name) refl where
  by_form : (found : Option NamedJob) → job_spelled true name ≡ found
      → job_named name ≡ Some (record { queue = queue; number = number; minute = minute; new_form = false })
  by_form (Some other) found =
      let wider : SpellsJobName name other.queue other.number other.minute other.new_form = read_spelled true name other found in
      let same : (queue ≡ other.queue) × (number ≡ other.number) × (minute ≡ other.minute) × (false ≡ other.new_form) =
      one_name name other.queue other.number other.minute queue number minute other.new_form false wider spelled in
      ap (λ found. option_or found (job_spelled false name)) found
      ∙ ap Some (λ i. record { queue = sym same.0 i; number = sym same.1 i; minute = sym same.2 i; new_form = sym same.3 i })
  by_form None found = ap (λ found. option_or found (job_spelled false name)) found ∙ spelled_given name queue number minute false spelled

-- a job has one name in each form
pub one_job_name : (first second : List ℕ) (job : NamedJob) → job_named first ≡ Some job → job_named second ≡ Some job → first ≡ second
one_job_name first second job of_first of_second =
    one_text first second job.queue job.number job.minute job.new_form (name_spelled first job of_first) (name_spelled second job of_second)
