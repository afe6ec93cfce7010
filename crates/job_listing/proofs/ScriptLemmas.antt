-- Scripts put one after another.
use Rattle.std.proofs.Common.{◌≡◌, ℕ, ◌+◌, ◌<◌, Bool, true, List, [], ◌∷◌, ◌++◌, length, take, drop, get_or, refl, sym, ap, subst, ◌∙◌, append-nil, append_assoc, arith}
use Rattle.std.specs.Prelude.{Err, IsErrAnd, Ok, Result}
use Rattle.std.proofs.Math.Seq.{take-append_seam}
use Rattle.std.proofs.lemmas.List.{take-append-drop, take_more}
use Rattle.host_calls.specs.World.{World}
use Rattle.step_runs.specs.Current.{IsCurrent, Kept}
use Rattle.spool_model.specs.JobTable.{JobTable, entry_at}
use Rattle.tool_output.specs.declared.command_error.CommandError.{CommandError}
use Rattle.command_rules.specs.Requested.{script_in, scripts_of}
use Rattle.tool_output.specs.Sinks.{IsPut, IsPutInPart, SinkAt}
use Rattle.job_listing.specs.Scripts.{PutsScripts}

-- scripts of two lists of numbers
scripts_join : (table : JobTable) (prefix later : List ℕ)
    → scripts_of table (prefix ++ later) ≡ scripts_of table prefix ++ scripts_of table later
scripts_join table [] later = refl
scripts_join table (number ∷ prefix) later =
    ap (λ (rest : List ℕ). script_in (entry_at table number) ++ rest) (scripts_join table prefix later)
    ∙ sym (append_assoc (script_in (entry_at table number)) (scripts_of table prefix) (scripts_of table later))

-- nothing was put
pub none_put : (files output : Bool) (kept : Kept) (old : World) (was : SinkAt) (done : Unit {0})
    → PutsScripts files output kept [] old old was was (Ok done)
none_put files output kept old was done = record {
  looks = λ known. refl;
  comes = tt;
  failed = λ is. absurd (cc);
  later = omega arith;
  puts = λ known shown table current. record { content = sym (append-nil was.content); later = omega arith };
}

module _ (files output : Bool) (kept : Kept) (numbers : List ℕ) (index or : ℕ) (old between new : World) (was mid is : SinkAt)
    (done : Unit {0}) (inside : index < length numbers)
    (first : PutsScripts files output kept (take index numbers) old between was mid (Ok done)) where
  -- what was current before is so after a call that only looks
  still_current : (table : JobTable) → files ≡ true → IsCurrent kept old.now.directory table → IsCurrent kept between.now.directory table
  still_current table known current = subst (λ (world : World). IsCurrent kept world.now.directory table) (sym (first.looks known)) current

  -- one more script
  pub one_more : (value : Unit {0}) → PutsScripts files output kept (get_or numbers index or ∷ []) between new mid is (Ok value)
      → PutsScripts files output kept (take (index + 1) numbers) old new was is (Ok done)
  one_more value second = record {
    looks = λ known. second.looks known ∙ first.looks known;
    comes = tt;
    failed = λ is. absurd (cc);
    later = omega (arith, first.later, second.later);
    puts = λ known shown table current.
        let before : IsPut (scripts_of table (take index numbers)) was mid = first.puts known shown table current in
        let after : IsPut (scripts_of table (get_or numbers index or ∷ [])) mid is =
        second.puts known shown table (still_current table known current) in
        let prefix : take (index + 1) numbers ≡ take index numbers ++ get_or numbers index or ∷ [] = take_more numbers index or inside in
        record {
          content =
              after.content
              ∙ ap (λ (content : List ℕ). content ++ scripts_of table (get_or numbers index or ∷ [])) before.content
              ∙ append_assoc was.content (scripts_of table (take index numbers)) (scripts_of table (get_or numbers index or ∷ []))
              ∙ ap (λ (text : List ℕ). was.content ++ text) (sym (scripts_join table (take index numbers) (get_or numbers index or ∷ [])))
              ∙ ap (λ (some : List ℕ). was.content ++ scripts_of table some) (sym prefix);
          later = omega (arith, before.later, after.later);
        };
  }

  -- a prefix of the next one, after those before it, is a prefix of them all
  prefix_put : (table : JobTable) (count : ℕ) → (rest : List ℕ) × (scripts_of table numbers
      ≡ (scripts_of table (take index numbers) ++ take count (scripts_of table (get_or numbers index or ∷ []))) ++ rest)
  prefix_put table count =
      let before : List ℕ = scripts_of table (take index numbers) in
      let one : List ℕ = scripts_of table (get_or numbers index or ∷ []) in
      let later : List ℕ = scripts_of table (drop (index + 1) numbers) in
      let all : scripts_of table numbers ≡ (before ++ one) ++ later =
      ap (scripts_of table) (sym (take-append-drop (index + 1) numbers))
      ∙ scripts_join table (take (index + 1) numbers) (drop (index + 1) numbers)
      ∙ ap (λ (some : List ℕ). scripts_of table some ++ later) (take_more numbers index or inside)
      ∙ ap (λ (text : List ℕ). text ++ later) (scripts_join table (take index numbers) (get_or numbers index or ∷ [])) in
      let split : before ++ one ≡ (before ++ take count one) ++ drop count one =
      ap (λ (text : List ℕ). before ++ text) (sym (take-append-drop count one))
      ∙ sym (append_assoc before (take count one) (drop count one)) in (
        drop count one ++ later,
        all ∙ ap (λ (text : List ℕ). text ++ later) split ∙ append_assoc (before ++ take count one) (drop count one) later,
      )

  part_put : (table : JobTable) → IsPut (scripts_of table (take index numbers)) was mid
      → IsPutInPart (scripts_of table (get_or numbers index or ∷ [])) mid is → IsPutInPart (scripts_of table numbers) was is
  part_put table before after =
      let prefix : List ℕ = scripts_of table (take index numbers) ++ take after.count (scripts_of table (get_or numbers index or ∷ [])) in
      let rest = prefix_put table after.count in
      record {
        count = length prefix;
        content =
            after.content
            ∙ ap (λ (content : List ℕ). content ++ take after.count (scripts_of table (get_or numbers index or ∷ []))) before.content
            ∙ append_assoc was.content (scripts_of table (take index numbers))
            (take after.count (scripts_of table (get_or numbers index or ∷ [])))
            ∙ ap (λ (text : List ℕ). was.content ++ text) (sym (take-append_seam prefix rest.0))
            ∙ ap (λ (text : List ℕ). was.content ++ take (length prefix) text) (sym rest.1);
        later = omega (arith, before.later, after.later);
      }

  -- and a prefix of the next one, where it stopped
  pub stopped_here : (stopped : CommandError)
      → PutsScripts files output kept (get_or numbers index or ∷ []) between new mid is (Err stopped)
      → PutsScripts files output kept numbers old new was is (Err stopped)
  stopped_here stopped second = record {
    looks = λ known. second.looks known ∙ first.looks known;
    comes = second.comes;
    failed = λ fault. (omega (arith, first.later, second.failed (cc)));
    later = omega (arith, first.later, second.later);
    puts = λ known shown table current.
        part_put table (first.puts known shown table current) (second.puts known shown table (still_current table known current));
  }

  -- the same for what a question mark hands on
  pub stopped_by_mark : (stopped : CommandError) (result : Result (Unit {0}) CommandError) → IsErrAnd result (λ other. other ≡ stopped)
      → PutsScripts files output kept (get_or numbers index or ∷ []) between new mid is (Err stopped)
      → PutsScripts files output kept numbers old new was is result
  stopped_by_mark stopped (Ok value) same second = absurd same
  stopped_by_mark stopped (Err other) same second =
      subst (λ (cause : CommandError). PutsScripts files output kept numbers old new was is (Err cause)) (sym same)
      (stopped_here stopped second)
