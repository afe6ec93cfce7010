-- What a caller has: its checks, and what refuses it.
use Rattle.std.proofs.Common.{◌≡◌, Bool, true, false, List, ◌∷◌, sym, ap, ◌∙◌, refl, cond}
use Rattle.std.specs.Prelude.{Option, Some, None}
use Rattle.job_script.specs.Check.{first_fault, has_room, is_directory, is_user_name}
use Rattle.job_script.specs.declared.context.Context.{Context}
use Rattle.job_script.specs.declared.fault.ScriptFault.{ScriptFault}
use Rattle.job_script.specs.declared.fault.ScriptFault.TheVariants as script
use Rattle.listing_text.specs.declared.cause.Cause.TheVariants.{Refused}
use Rattle.listing_text.specs.declared.refusal.Refusal.{Refusal}
use Rattle.listing_text.specs.declared.refusal.Refusal.TheVariants.{BadDirectory, BadUser, EnvironmentTooLarge}
use Rattle.tool_output.specs.Causes.{cause_of_script}
use Rattle.command_rules.specs.Checks.{check_of, is_earlier_check, of_input, of_lock, of_variables, of_zone}
use Rattle.command_rules.specs.Verdict.{directory_check, first_refusal, user_check, variables_check}

-- a check that passes leaves the decision to the later ones
pub pass : (check : Option Refusal) (later : List (Option Refusal)) → check ≡ None → first_refusal (check ∷ later) ≡ first_refusal later
pass None later is = refl
pass (Some refusal) later is = cc

-- and one that refuses decides
pub stop : (check : Option Refusal) (later : List (Option Refusal)) (refusal : Refusal) → check ≡ Some refusal →
    first_refusal (check ∷ later) ≡ Some refusal
stop None later refusal is = cc
stop (Some other) later refusal is = is

-- what the caller has passes its checks
pub record HasPassed (context : Context) : Type 0 where
  pub user : user_check context ≡ None
  pub directory : directory_check context ≡ None
  pub variables : variables_check context ≡ None

-- the first fault of a context, by its three tests
fault_by : (context : Context) (user directory room : Bool) → is_user_name context.user ≡ user
    → is_directory context.directory ≡ directory →
    has_room context.environment ≡ room →
    first_fault context
    ≡ cond user (cond directory (cond room None (Some script.EnvironmentTooLarge)) (Some script.BadDirectory)) (Some script.BadUser)
fault_by context false directory room is_user is_way is_room = rw is_user refl
fault_by context true false room is_user is_way is_room = rw (is_user, is_way) refl
fault_by context true true false is_user is_way is_room = rw (is_user, is_way, is_room) refl
fault_by context true true true is_user is_way is_room = rw (is_user, is_way, is_room) refl

passed_by : (context : Context) (user directory room : Bool) → is_user_name context.user ≡ user
    → is_directory context.directory ≡ directory →
    has_room context.environment ≡ room → first_fault context ≡ None → HasPassed context
passed_by context false directory room is_user is_way is_room none =
    let two : None ≡ Some script.BadUser = sym none ∙ fault_by context false directory room is_user is_way is_room in cc
passed_by context true false room is_user is_way is_room none =
    let two : None ≡ Some script.BadDirectory = sym none ∙ fault_by context true false room is_user is_way is_room in cc
passed_by context true true false is_user is_way is_room none =
    let two : None ≡ Some script.EnvironmentTooLarge = sym none ∙ fault_by context true true false is_user is_way is_room in cc
passed_by context true true true is_user is_way is_room none = record {
  user = rw is_user refl;
  directory = rw is_way refl;
  variables = rw is_room refl;
}

pub context_passes : (context : Context) → first_fault context ≡ None → HasPassed context
context_passes context none =
    passed_by context (is_user_name context.user) (is_directory context.directory) (has_room context.environment) refl refl refl none

-- what the caller has is refused
pub record IsContextRefused (fault : ScriptFault) (context : Context) : Type 0 where
  pub refusal : Refusal
  pub is : cause_of_script fault ≡ Refused refusal
  pub verdict : (later : List (Option Refusal)) →
      first_refusal (user_check context ∷ directory_check context ∷ variables_check context ∷ later) ≡ Some refusal
  pub early : is_earlier_check (check_of refusal) of_lock ≡ true
  pub before_clock : is_earlier_check of_variables (check_of refusal) ≡ false
  pub before_zone : is_earlier_check of_zone (check_of refusal) ≡ false
  pub before_input : is_earlier_check of_input (check_of refusal) ≡ false

pub some_one : {A : Type 0} (a b : A) → Some a ≡ Some b → a ≡ b
some_one a b is = cc

refused_by : (context : Context) (fault : ScriptFault) (user directory room : Bool) → is_user_name context.user ≡ user →
    is_directory context.directory ≡ directory → has_room context.environment ≡ room → first_fault context ≡ Some fault →
    IsContextRefused fault context
refused_by context fault false directory room is_user is_way is_room some =
    let same : script.BadUser ≡ fault =
    some_one script.BadUser fault (sym (fault_by context false directory room is_user is_way is_room) ∙ some) in
    record {
      refusal = BadUser;
      is = sym (ap cause_of_script same);
      verdict = λ later. stop (user_check context) _ BadUser (rw is_user refl);
      early = refl;
      before_clock = refl;
      before_zone = refl;
      before_input = refl;
    }
refused_by context fault true false room is_user is_way is_room some =
    let same : script.BadDirectory ≡ fault =
    some_one script.BadDirectory fault (sym (fault_by context true false room is_user is_way is_room) ∙ some) in
    record {
      refusal = BadDirectory;
      is = sym (ap cause_of_script same);
      verdict = λ later. pass (user_check context) _ (rw is_user refl) ∙ stop (directory_check context) _ BadDirectory (rw is_way refl);
      early = refl;
      before_clock = refl;
      before_zone = refl;
      before_input = refl;
    }
refused_by context fault true true false is_user is_way is_room some =
    let same : script.EnvironmentTooLarge ≡ fault =
    some_one script.EnvironmentTooLarge fault (sym (fault_by context true true false is_user is_way is_room) ∙ some) in
    record {
      refusal = EnvironmentTooLarge;
      is = sym (ap cause_of_script same);
      verdict = λ later. pass (user_check context) _ (rw is_user refl) ∙ pass (directory_check context) _ (rw is_way refl)
          ∙ stop (variables_check context) _ EnvironmentTooLarge (rw is_room refl);
      early = refl;
      before_clock = refl;
      before_zone = refl;
      before_input = refl;
    }
refused_by context fault true true true is_user is_way is_room some =
    let two : None ≡ Some fault = sym (fault_by context true true true is_user is_way is_room) ∙ some in cc

pub context_refused : (context : Context) (fault : ScriptFault) → first_fault context ≡ Some fault → IsContextRefused fault context
context_refused context fault some =
    refused_by context fault (is_user_name context.user) (is_directory context.directory) (has_room context.environment) refl refl refl some
