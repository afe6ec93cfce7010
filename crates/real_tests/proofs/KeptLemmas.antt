-- What the witness notes of a call is what his model did.
use Rattle.std.proofs.Common.{◌≡◌, ◌⊎◌, ◌∙◌, ◌++◌, ◌∷◌, [], ℕ, Bool, true, false, List, Result, ap, sym, subst, refl, inl, inr}
use Rattle.std.specs.Prelude.{◌≢◌, Contains, IsSome, Option, Some, None, Ok, Err, is_ok}
use Rattle.std.specs.FinMap as map
use Rattle.std.specs.List.{All, fold}
use Rattle.std.proofs.lemmas.List.Elements.{All-contains}
use Rattle.std.proofs.lemmas.List.Sums.{fold-append}
use Rattle.host_calls.proofs.WorldLemmas.{at_end, leaves_weaker}
use Rattle.host_calls.specs.declared.child.Asked.{Asked}
use Rattle.host_calls.specs.declared.child.Child.{Child}
use Rattle.host_calls.specs.declared.child.Ending.{Ending}
use Rattle.host_calls.specs.declared.child.Handed.{Handed}
use Rattle.host_calls.specs.declared.fault.HostFault.{HostFault}
use Rattle.host_calls.specs.declared.fault.HostFault.TheVariants.{Failed, Memory}
use Rattle.host_calls.specs.declared.fault.StartFault.{StartFault}
use Rattle.host_calls.specs.declared.fault.StartFault.TheVariants.{Failed as NoStart, Memory as NoMemory}
use Rattle.host_calls.specs.Directory.{Directory, Files, reading_of}
use Rattle.host_calls.specs.World.{FileCall, IsWithin, LeavesOnly, Outcome, StartCall, StartOutcome, WithinCall}
use Rattle.memory_host.specs.Host.{memory_world}
use Rattle.memory_host.specs.declared.memory_host.MemoryHost.{MemoryHost}
use Rattle.std.specs.declared.snapshot.Snapshot.{Snapshot}
use Rattle.real_tests.specs.declared.step.Step.{Step}
use Rattle.real_tests.specs.declared.step.Step.TheVariants.{Changed, HandedOver}
use Rattle.real_tests.specs.Kept.{AgreesWith, Past, bytes_or_none, directory_of_model, handed_from, kept_world, no_past, past_after, verdict, world_with}

-- the past with the moment before a call
abbrev past_with : MemoryHost → Past → Past
past_with model past =
    record { handed = past.handed; before = record { directory = directory_of_model model; handed = past.handed } ∷ past.before }

-- what the verdict says is so of the directory
by_verdict : (done part : Directory → Directory → Type 0) (old new : MemoryHost) (past : Past) (asked : List Asked)
    (result : Result Unit HostFault)
    → Outcome done part (memory_world old) (memory_world new) result
    → Outcome done part (world_with old past asked) (world_with new (past_with old past) asked) (verdict result)
by_verdict done part old new past asked (Ok value) is = is
by_verdict done part old new past asked (Err Failed) is = is
by_verdict done part old new past asked (Err Memory) is = inl (ap (λ world. world.now.directory) is)

-- a call of the model is one of the witness, with the moment before it noted
by_call : (done part : Directory → Directory → Type 0) (old new : MemoryHost) (past : Past) (asked : List Asked)
    (result : Result Unit HostFault)
    → FileCall done part (memory_world old) (memory_world new) result
    → FileCall done part (world_with old past asked) (world_with new (past_with old past) asked) (verdict result)
by_call done part old new past asked result call =
    let within : Files → List Handed → Type 0 = λ image handed. IsWithin done (directory_of_model old) image in
    let leaves : LeavesOnly within (memory_world old) (memory_world new) =
    leaves_weaker (WithinCall done (memory_world old).now) within (memory_world old) (memory_world new)
    (λ image handed is. is.0) call.leaves in
    record {
      outcome = by_verdict done part old new past asked result call.outcome;
      handed = refl;
      asked = refl;
      leaves = record {
        more = record { directory = directory_of_model new; handed = past.handed } ∷ [];
        run = refl;
        each = (λ image is. (at_end within (memory_world old) (memory_world new) leaves (λ image is. inl is) image is, refl), tt);
      };
    }

-- the same, as the code of the witness has it
pub keeps_call : (done part : Directory → Directory → Type 0) (old new : MemoryHost) (steps more : List Step) (asked : List Asked)
    (before : Snapshot MemoryHost)
    (result kept : Result Unit HostFault) → before.value ≡ old → more ≡ steps ++ Changed before ∷ []
    → FileCall done part (memory_world old) (memory_world new) result → kept ≡ verdict result
    → FileCall done part (kept_world old steps asked) (kept_world new more asked) kept
keeps_call done part old new steps more asked before result kept is noted call judged =
    let past : Past = fold past_after no_past steps in
    let noted_past : fold past_after no_past more ≡ past_with old past =
    ap (fold past_after no_past) noted ∙ fold-append past_after no_past steps (Changed before ∷ [])
    ∙ ap (λ model. past_with model past) is in
    subst (λ result. FileCall done part (kept_world old steps asked) (kept_world new more asked) result) (sym judged)
    (subst (λ later. FileCall done part (kept_world old steps asked) (world_with new later asked) (verdict result)) (sym noted_past)
    (by_call done part old new past asked result call))

-- the bytes of a name that exists
some_bytes : (found : Option (List ℕ)) → IsSome found → found ≡ Some (bytes_or_none found)
some_bytes (Some bytes) some = refl
some_bytes None some = Prim.search Rattle.std.proofs.Common.rules

-- the past with the moment before a start, and what it started
abbrev past_with_start : MemoryHost → ℕ → List ℕ → ℕ → Bool → Past → Past
past_with_start model number name nice started past = record {
  handed = past.handed ++ handed_from (directory_of_model model) number name nice started ∷ [];
  before = record { directory = directory_of_model model; handed = past.handed } ∷ past.before;
}

by_start_outcome : (model : MemoryHost) (past : Past) (asked : List Asked) (number : ℕ) (name : List ℕ) (nice : ℕ)
    (result : Result Child StartFault)
    → result ≢ Err NoMemory → IsSome (map.get (reading_of (directory_of_model model)) name)
    → StartOutcome number name nice (world_with model past asked)
    (world_with model (past_with_start model number name nice (is_ok result) past) asked) result
by_start_outcome model past asked number name nice (Ok child) room some = record { script = _; read = some_bytes _ some; handed = refl }
by_start_outcome model past asked number name nice (Err NoStart) room some = record { script = _; read = some_bytes _ some; handed = refl }
by_start_outcome model past asked number name nice (Err NoMemory) room some = absurd (room refl)

by_start : (model : MemoryHost) (past : Past) (asked : List Asked) (number : ℕ) (name : List ℕ) (nice : ℕ)
    (result : Result Child StartFault)
    → result ≢ Err NoMemory → IsSome (map.get (reading_of (directory_of_model model)) name)
    → StartCall number name nice (world_with model past asked)
    (world_with model (past_with_start model number name nice (is_ok result) past) asked) result
by_start model past asked number name nice result room some = record {
  outcome = by_start_outcome model past asked number name nice result room some;
  directory = refl;
  asked = refl;
  leaves = record {
    more = (world_with model (past_with_start model number name nice (is_ok result) past) asked).now ∷ [];
    run = refl;
    each = (λ image is. (is, inr refl), tt);
  };
}

-- the same, as the code of the witness has it
pub keeps_start : (model : MemoryHost) (steps more : List Step) (asked : List Asked) (before : Snapshot MemoryHost) (number : ℕ)
    (name : List ℕ) (nice : ℕ)
    (started : Bool) (result : Result Child StartFault) → before.value ≡ model → started ≡ is_ok result
    → more ≡ steps ++ HandedOver before number name nice started ∷ []
    → result ≢ Err NoMemory → IsSome (map.get (reading_of (directory_of_model model)) name)
    → StartCall number name nice (kept_world model steps asked) (kept_world model more asked) result
keeps_start model steps more asked before number name nice started result is was noted room some =
    let past : Past = fold past_after no_past steps in
    let noted_past : fold past_after no_past more ≡ past_with_start model number name nice (is_ok result) past =
    ap (fold past_after no_past) noted ∙ fold-append past_after no_past steps (HandedOver before number name nice started ∷ [])
    ∙ ap (λ model. past_with_start model number name nice started past) is
    ∙ ap (λ started. past_with_start model number name nice started past) was in
    subst (λ later. StartCall number name nice (kept_world model steps asked) (world_with model later asked) result) (sym noted_past)
    (by_start model past asked number name nice result room some)

-- an answer that agrees with all before it gives an ending again
pub gives_again : (asked : List Asked) (child : Child) (answer : Option Ending) → All (AgreesWith child answer) asked
    → (ending : Ending) → Contains asked (record { child = child; answer = Some ending }) → answer ≡ Some ending
gives_again asked child answer all ending has = All-contains (AgreesWith child answer) asked _ all has ending refl
