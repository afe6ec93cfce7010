-- Whatever leaves alone all files but the store's leaves the notes and the mark alone.
use Rattle.std.proofs.Common.{◌≡◌, ◌+◌, List, [], ◌∷◌, ap, length, map, refl, arith}
use Rattle.std.specs.Prelude.{Option, Some, None, is_none, is_some, not}
use Rattle.std.specs.List.{filter}
use Rattle.std.proofs.lemmas.List.Filters.{length-filter_both}
use Rattle.host_calls.specs.declared.child.Handed.{Handed}
use Rattle.host_calls.specs.Directory.{Files}
use Rattle.host_calls.specs.World.{Moment}
use Rattle.host_calls.proofs.WorldLemmas.{leaves_weaker}
use Rattle.job_script.specs.HeaderIn.{header_in}
use Rattle.at_mail.specs.Once.{LeavesNotes, is_notice, notice_numbers}
use Rattle.mail_notes.specs.Names.{mail_file}
use Rattle.cron_session.specs.MarkNames.{mark_file}
use Rattle.cron_session.proofs.NameLemmas.{file_beside}
use Rattle.later_day.specs.LaterEffects.{IsBesideTheStore, is_of_job, of_jobs}
use Rattle.later_day.specs.EventsLaws.{BesideTheStorePass}
use Rattle.later_day.proofs.NamesApart.{mail_is_no_spool_name}

none_or_some : {X : Type 0} (found : Option X) → is_none found ≡ not (is_some found)
none_or_some None = refl
none_or_some (Some value) = refl

none_counted : {X : Type 0} (list : List X) → length list ≡ 0 → list ≡ []
none_counted [] counted = refl
none_counted (value ∷ list) counted = absurd (omega (arith, counted))

-- among scripts that are all for jobs there is no notice
pub jobs_are_no_notices : (given : List Handed) → of_jobs given ≡ given → notice_numbers given ≡ []
jobs_are_no_notices given jobs =
    let both : length (of_jobs given) + length (filter is_notice given) ≡ length given =
    length-filter_both is_of_job is_notice (λ handed. none_or_some (header_in handed.script)) given in
    let all : length (of_jobs given) ≡ length given = ap length jobs in
    let none : filter is_notice given ≡ [] = none_counted (filter is_notice given) (omega (arith, both, all)) in
    ap (λ (notices : List Handed). map (λ (handed : Handed). handed.number) notices) none

leaves_notes : (start : Moment) (image : Files) (handed : List Handed) → IsBesideTheStore start image handed →
    LeavesNotes start image handed
leaves_notes start image handed is = record {
  from = is.others.from;
  was = is.others.was;
  same = is.others.others mail_file mail_is_no_spool_name;
  given = is.given;
  grown = is.grown;
  no_notice = jobs_are_no_notices is.given is.jobs;
}

pub beside_the_store_pass : BesideTheStorePass
beside_the_store_pass old new rest = record {
  mail = record {
    leaves = leaves_weaker (IsBesideTheStore old.now) (LeavesNotes old.now) old new (leaves_notes old.now) rest.leaves;
    now = λ image is. leaves_notes old.now image new.now.handed (rest.now image is);
  };
  mark = λ image is.
      let at : IsBesideTheStore old.now image new.now.handed = rest.now image is in
      (at.others.from, at.others.was, at.others.others mark_file file_beside);
}
