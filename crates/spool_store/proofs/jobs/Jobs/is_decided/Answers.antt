use Rattle.std.proofs.Common.{true, false, sym, ap, subst, ◌≡◌, ◌∙◌, refl, map, inl, inr}
use Rattle.std.specs.Prelude.{IsSome}
use Rattle.std.proofs.lemmas.Bool.Decides.{eqb_tells}
use Rattle.spool_model.specs.declared.entry.Entry.TheVariants.{Done}
use Rattle.spool_store.specs.Listed.{entry_under}
use Rattle.spool_store.specs.Rows.{decided_entry}
use Rattle.spool_store.proofs.Edits.{test_from}
use Rattle.spool_store.proofs.Listing.{decided_is_done, done_is_decided}
use Rattle.std.proofs.lemmas.Bool.{eqb-true}
use Rattle.spool_store.proofs.Places.{found_at, none_at, other_at}
use Rattle.spool_store.proofs.jobs.Jobs.is_decided.Goals as goal

pub returns-in-Some : goal.returns-in-Some
returns-in-Some c =
    let done = c.in-Some.done.now in (
      λ test. (
        done.fate,
        decided_is_done c.self.inside.last c.self.inside.rows.items c.self.inside.decided.items c.self.inside.last_batch c.args.self.now
            c.self.view_is c.self.invariant.listed c.args.number (Done done.fate)
            (ap (entry_under (map decided_entry c.self.inside.decided.items)) (sym (eqb-true done.number c.args.number test))
            ∙ found_at decided_entry c.self.inside.decided.items _ c.decided_place.result done c.deref.ensures.value
            (test_from _ c.self.invariant.listed.decided_rise) c.in-Some.ensures.lookup.3),
      ),
      λ is. elim (eqb_tells done.number c.args.number) [
        | inl same ↦ same.0
        | inr apart ↦ absurd (other_at decided_entry c.self.inside.decided.items _ _ c.decided_place.result c.args.number done
            c.deref.ensures.value c.deref-2.ensures.value (test_from _ c.self.invariant.listed.decided_rise) c.decided_place.ensures.place
            c.in-Some.ensures.lookup.3 apart.1
            (subst IsSome (sym (done_is_decided c.self.inside.last c.self.inside.rows.items c.self.inside.decided.items
            c.self.inside.last_batch c.args.self.now c.self.view_is c.args.number is.0 is.1).1) refl))
      ],
    )

pub returns-in-None : goal.returns-in-None
returns-in-None c = (
  λ test. absurd (let impossible : false ≡ true = test in cc),
  λ is. absurd (none_at decided_entry c.self.inside.decided.items _ _ c.decided_place.result c.args.number c.deref.ensures.value
      c.deref-2.ensures.value (test_from _ c.self.invariant.listed.decided_rise) c.decided_place.ensures.place c.in-None.ensures.lookup.3
      (subst IsSome (sym (done_is_decided c.self.inside.last c.self.inside.rows.items c.self.inside.decided.items c.self.inside.last_batch
      c.args.self.now c.self.view_is c.args.number is.0 is.1).1) refl)),
)
