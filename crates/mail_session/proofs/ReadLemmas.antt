-- What files of mail read as once notices were sent.
use Rattle.std.proofs.Common.{◌≡◌, ◌∙◌, ◌++◌, ℕ, Bool, true, false, List, [], ◌∷◌, length, refl, sym, ap, subst, inl, inr, arith}
use Rattle.std.specs.Prelude.{IfOk, IsSome, Option, Result, Ok, Err, nat_eq}
use Rattle.std.specs.Cmp.Lexicographic.{bytes_decides, pointwise}
use Rattle.std.specs.FinMap as finite
use Rattle.std.proofs.lemmas.Bool.{or_parts}
use Rattle.std.proofs.lemmas.List.Folds.{list_any-append}
use Rattle.host_calls.specs.declared.child.Child.{Child}
use Rattle.host_calls.specs.declared.fault.HostFault.{HostFault}
use Rattle.host_calls.specs.Directory.{reading_of}
use Rattle.host_calls.specs.World.{World, reading}
use Rattle.spool_shows.proofs.Membership.{contained, has_contained, has_either, one_passes}
use Rattle.whole_file.specs.Placement.{IsPlaced}
use Rattle.mail_notes.specs.Names.{mail_file, mail_temp, notice_file}
use Rattle.mail_session.specs.NoticeFiles.{ReadsBeside, is_notice_of}
use Rattle.mail_session.specs.inside.SentNotice.{IsHandingOver, Places}
use Rattle.mail_session.proofs.NotingLemmas.{notice_apart}

-- the file of notes is no notice
pub notes_are_no_notice : (number : ℕ) → mail_file ≡ notice_file number → ⊥
notes_are_no_notice number is = let unequal : ◌≡◌ {A = ℕ} 5 13 = ap length is in omega arith

-- nothing was sent, and the files read as before
pub reads_none : (world : World) → ReadsBeside [] world world
reads_none world = record { placed = λ number among. absurd (has_contained [] number among); stay = λ name temp notes none. refl }

-- the notes were placed
pub reads_placed : (text : List ℕ) (old new : World) → IsPlaced mail_temp mail_file text old.now.directory new.now.directory
    → ReadsBeside [] old new
reads_placed text old new placed = record {
  placed = λ number among. absurd (has_contained [] number among);
  stay = λ name temp notes none. placed.others name (λ either. elim either [
    | inl is ↦ temp is
    | inr is ↦ notes is
  ]);
}

apart : (name other : List ℕ) → pointwise nat_eq name other ≡ false → name ≡ other → ⊥
apart name other test same = let impossible : true ≡ false = sym ((bytes_decides name other).1 same) ∙ test in cc

-- a notice was placed, and the notes
pub reads_sent : (number : ℕ) (script text : List ℕ) (old middle new : World) → Places (notice_file number) script old middle (Ok tt)
    → Places mail_file text middle new (Ok tt) →
    IsSome (finite.get (reading new) (notice_file number)) → ReadsBeside (number ∷ []) old new
reads_sent number script text old middle new first then held = record {
  placed = λ other among. elim (has_contained (number ∷ []) other among) [
    | inl same ↦ subst (λ (n : ℕ). IsSome (finite.get (reading new) (notice_file n))) same held
    | inr none ↦ absurd none
  ];
  stay = λ name temp notes none.
      then.placed.others name (λ either. elim either [
        | inl is ↦ temp is
        | inr is ↦ notes is
      ])
      ∙ first.placed.others name (λ either. elim either [
        | inl is ↦ temp is
        | inr is ↦ apart name (notice_file number) (or_parts (pointwise nat_eq name (notice_file number)) false none).0 is
      ]);
}

-- the files read as before where the directory stays
pub reads_on : (numbers : List ℕ) (old middle new : World) → new.now.directory ≡ middle.now.directory → ReadsBeside numbers old middle
    → ReadsBeside numbers old new
reads_on numbers old middle new directory reads = record {
  placed =
      λ number among. subst (λ at. IsSome (finite.get (reading_of at) (notice_file number))) (sym directory) (reads.placed number among);
  stay = λ name temp notes none. ap (λ at. finite.get (reading_of at) name) directory ∙ reads.stay name temp notes none;
}

-- Notices after others.
module _ (first later : List ℕ) (start middle end : World) (one : ReadsBeside first start middle)
    (other : ReadsBeside later middle end) where
  later_among : (name : List ℕ) → is_notice_of later name ≡ true → IsSome (finite.get (reading end) name)
  later_among name among =
      let found = one_passes (λ number. pointwise nat_eq name (notice_file number)) later among in
      subst (λ (n : List ℕ). IsSome (finite.get (reading end) n)) (sym ((bytes_decides name (notice_file found.0)).0 found.2))
      (other.placed found.0 (contained later found.0 found.1))

  still_there : (number : ℕ) (test : Bool) → is_notice_of later (notice_file number) ≡ test
      → IsSome (finite.get (reading middle) (notice_file number)) → IsSome (finite.get (reading end) (notice_file number))
  still_there number true among there = later_among (notice_file number) among
  still_there number false none there =
      subst IsSome
      (sym (other.stay (notice_file number) (λ is. notice_apart number (sym is)) (λ is. notes_are_no_notice number (sym is)) none)) there

  pub reads_then : ReadsBeside (first ++ later) start end
  reads_then = record {
    placed = λ number among. elim (has_either first later number (has_contained (first ++ later) number among)) [
      | inl before ↦ still_there number (is_notice_of later (notice_file number)) refl (one.placed number (contained first number before))
      | inr now ↦ other.placed number (contained later number now)
    ];
    stay = λ name temp notes none.
        let parts = or_parts (is_notice_of first name) (is_notice_of later name)
        (sym (list_any-append (λ number. pointwise nat_eq name (notice_file number)) first later) ∙ none) in
        other.stay name temp notes parts.1 ∙ one.stay name temp notes parts.0;
  }

-- by the answer of a sending
pub reads_after : (number : ℕ) (result : Result (Option Child) HostFault) (old middle new : World) → ReadsBeside (number ∷ []) old middle
    → IsHandingOver number middle new result →
    IfOk result (λ child. ReadsBeside (number ∷ []) old new)
reads_after number (Ok child) old middle new reads over = reads_on (number ∷ []) old middle new over.directory reads
reads_after number (Err fault) old middle new reads over = tt

-- by that of several
pub reads_both : (first later : List ℕ) (start middle end : World) (result : Result (Unit {0}) HostFault) → ReadsBeside first start middle
    → IfOk result (λ done. ReadsBeside later middle end) →
    IfOk result (λ done. ReadsBeside (first ++ later) start end)
reads_both first later start middle end (Ok done) one other = reads_then first later start middle end one other
reads_both first later start middle end (Err fault) one other = tt
