-- Visits of directories, and what is left in them.
use Rattle.std.proofs.Common.{◌≡◌, ◌≤◌, ◌++◌, [], ◌∷◌, ℕ, Bool, true, List, take, length, arith, refl, sym, ap, subst, ◌∙◌, inl, inr, append-nil}
use Rattle.std.specs.Prelude.{Result, Ok, Err, IfOk, IfErr, IsErr, IsErrAnd, false}
use Rattle.tool_output.specs.Outside.{DirectoryAt, StreamAt}
use Rattle.at_words.specs.Answers.{Answers}
use Rattle.at_words.specs.declared.fault.WordsFault.{WordsFault}
use Rattle.at_words.specs.declared.fault.WordsFault.TheVariants as words
use Rattle.tool_output.specs.Causes.{cause_in, cause_of_entry, cause_of_host, error_of, words_cause}
use Rattle.tool_output.specs.declared.command_error.CommandError.{CommandError}
use Rattle.tool_output.specs.Sinks.{IsPut, IsPutInPart, SinkAt}
use Rattle.host_calls.proofs.WorldLemmas.{goes_on_none}
use Rattle.tool_output.proofs.PutLemmas.{part_of_put}
use Rattle.host_calls.specs.Causes.{Rose}
use Rattle.host_calls.specs.declared.damage.Damage.{Damage}
use Rattle.host_calls.specs.declared.fault.EnterFault.{EnterFault}
use Rattle.host_calls.specs.declared.fault.EnterFault.TheVariants as entry
use Rattle.host_calls.specs.declared.fault.HostFault.{HostFault}
use Rattle.host_calls.specs.declared.fault.HostFault.TheVariants as host
use Rattle.host_calls.specs.Directory.{Files, IsImage}
use Rattle.host_calls.specs.World.{TimePasses, World, reading}
use Rattle.listing_text.specs.declared.cause.Cause.{Cause}
use Rattle.listing_text.specs.declared.cause.Cause.TheVariants.{Done, Refused, FileFault, OutputFault, Busy, Memory}
use Rattle.listing_text.specs.declared.refusal.Refusal.TheVariants.{TargetNotEmpty}
use Rattle.spool_faults.specs.Faults.{faults_of}
use Rattle.spool_faults.specs.Listed.{LeavesDirectory}
use Rattle.spool_check.specs.SalvageOutcome.{IsTargetRefused, IsSalvaging}
use Rattle.spool_check.specs.declared.fault.SalvageFault.{SalvageFault}
use Rattle.spool_check.specs.declared.fault.SalvageFault.TheVariants as fault
use Rattle.whole_file.specs.Others.{ChangesFiles}
use Rattle.whole_file.proofs.OthersLemmas.{changes_none}
use Rattle.spool_check.specs.CheckOutcome.{Checks, ChecksAsRequested, FindsBy, IsChecked, IsSalvaged, MayEndCheck, PrintsFaultsBy, Writes, WritesBy, WritesWhere}
use Rattle.spool_check.specs.inside.CheckParts.{IsDiagnosisCause, IsSalvageCause, IsReportCause, ReportsFaults, cause_by, salvage_cause}
use Rattle.spool_check.specs.Outside.{HasRisenInEither, DirectoriesAt, Visit, handed}
use Rattle.spool_check.specs.FaultLines.{fault_lines, cause_of_faults}

-- Visits.

pub leaves_same : (world : World) → LeavesDirectory world world
leaves_same world = record { same = refl; files = changes_none (IsImage world.now.directory) world }

-- none was made
abbrev pub visit_none : (at : DirectoryAt) → Visit at at
visit_none at = record {
  first = at.world;
  last = at.world;
  begun = λ tells. goes_on_none at.world at.world refl;
  over = λ tells. goes_on_none at.world at.world refl;
  alone = λ tells alone. (refl, refl);
}

-- the session could not begin
abbrev pub visit_refused : (old new : DirectoryAt) → (old.tells ≡ true → TimePasses old.world new.world)
    → (old.tells ≡ true → old.alone ≡ true → new.world ≡ old.world) → Visit old new
visit_refused old new goes same = record {
  first = new.world;
  last = new.world;
  begun = goes;
  over = λ tells. goes_on_none new.world new.world refl;
  alone = λ tells alone. (same tells alone, refl);
}

-- it began and ended
abbrev pub visit_made : (old new : DirectoryAt) (first last : World) → (old.tells ≡ true → TimePasses old.world first)
    → (old.tells ≡ true → old.alone ≡ true → first ≡ old.world) → (old.tells ≡ true → TimePasses last new.world)
    → (old.tells ≡ true → old.alone ≡ true → new.world ≡ last) → Visit old new
visit_made old new first last begun same over left = record {
  first = first;
  last = last;
  begun = begun;
  over = over;
  alone = λ tells alone. (same tells alone, sym (left tells alone));
}

-- Answers.

pub not_ok : {T E : Type 0} (result : Result T E) (P : T → Type 0) → IsErr result → IfOk result P
not_ok (Ok value) P is = let impossible : false ≡ true = is in cc
not_ok (Err fault) P is = tt

pub stop_by : (result : Result Cause CommandError) (stopped : CommandError) → IsErrAnd result (λ other. other ≡ stopped)
    → cause_by result ≡ stopped.cause
stop_by (Ok value) stopped is = absurd is
stop_by (Err other) stopped is = ap (λ (error : CommandError). error.cause) is

-- What is left in the new directory.

pub writes_none : (files : Files) (to : DirectoryAt) (cause : Cause) → WritesBy cause files to.world to.world → Writes files to to cause
writes_none files to cause by = record {
  visit = visit_none to;
  leaves = λ tells. changes_none (IsSalvaging files to.world.now.directory) to.world;
  by = λ tells. by;
}

looking_writes : (files : Files) (world : World) (cause : Cause) → IsDiagnosisCause cause → WritesBy cause files world world
looking_writes files world FileFault of = tt
looking_writes files world Busy of = refl
looking_writes files world Memory of = tt
looking_writes files world _ of = absurd of

telling_writes : (files : Files) (world : World) (cause : Cause) → IsReportCause cause → WritesBy cause files world world
telling_writes files world OutputFault of = refl
telling_writes files world Memory of = tt
telling_writes files world _ of = absurd of

pub stopped_looking : (files : Files) (to : DirectoryAt) (cause : Cause) → IsDiagnosisCause cause → Writes files to to cause
stopped_looking files to cause of = writes_none files to cause (looking_writes files to.world cause of)

pub stopped_telling : (files : Files) (to : DirectoryAt) (cause : Cause) → IsReportCause cause → Writes files to to cause
stopped_telling files to cause of = writes_none files to cause (telling_writes files to.world cause of)

-- the new directory could not be entered
pub entry_looking : (fault : EnterFault) → IsDiagnosisCause (cause_of_entry fault)
entry_looking entry.Taken = tt
entry_looking entry.Failed = tt
entry_looking entry.Memory = tt

pub entry_writes : {T : Type 0} (files : Files) (old new : DirectoryAt) (fault : EnterFault) (result : Result T CommandError)
    → IsErrAnd result (λ stopped. stopped ≡ error_of (cause_of_entry fault)) → (old.tells ≡ true → TimePasses old.world new.world)
    → (old.tells ≡ true → old.alone ≡ true → new.world ≡ old.world) → Writes files old new (cause_in result)
entry_writes files old new fault (Ok value) is goes same = absurd is
entry_writes files old new fault (Err stopped) is goes same =
    let entered : Writes files old new (cause_of_entry fault) = record {
      visit = visit_refused old new goes same;
      leaves = λ tells. changes_none (IsSalvaging files new.world.now.directory) new.world;
      by = λ tells. looking_writes files new.world (cause_of_entry fault) (entry_looking fault);
    } in
    subst (λ (error : CommandError). Writes files old new error.cause) (sym is) entered

-- it was filled, or not
pub filled_writes : (files : Files) (old new : DirectoryAt) (visit : Visit old new)
    → (old.tells ≡ true → ChangesFiles (IsSalvaging files visit.first.now.directory) visit.first visit.last)
    → (old.tells ≡ true → IsSalvaged files visit.first visit.last) → Writes files old new Done
filled_writes files old new visit changes filled = record { visit = visit; leaves = changes; by = filled }

fault_writes : (files : Files) (first last : World) (of : SalvageFault) → (of ≡ fault.NotEmpty → IsTargetRefused first last)
    → WritesBy (salvage_cause of) files first last
fault_writes files first last fault.FromFailed refused = tt
fault_writes files first last fault.ToFailed refused = tt
fault_writes files first last fault.NotEmpty refused = refused refl
fault_writes files first last fault.Memory refused = tt

pub unfilled_writes : (files : Files) (old new : DirectoryAt) (visit : Visit old new) (of : SalvageFault) (stopped : CommandError) → stopped
    ≡ error_of (salvage_cause of) → (old.tells ≡ true → ChangesFiles (IsSalvaging files visit.first.now.directory) visit.first visit.last)
    → (old.tells ≡ true → of ≡ fault.NotEmpty → IsTargetRefused visit.first visit.last) → Writes files old new stopped.cause
unfilled_writes files old new visit of stopped is changes refused =
    let writes : Writes files old new (salvage_cause of) =
    record { visit = visit; leaves = changes; by = λ tells. fault_writes files visit.first visit.last of (refused tells) } in
    subst (λ (error : CommandError). Writes files old new error.cause) (sym is) writes

-- all faults were told, with the new directory written or not
pub verdict_writes : (files : Files) (old new : DirectoryAt) (faults : List Damage) (cause : Cause) → cause ≡ cause_of_faults faults
    → Writes files old new Done → Writes files old new cause
verdict_writes files old new [] cause is writes = subst (Writes files old new) (sym is) writes
verdict_writes files old new (one ∷ later) cause is writes =
    subst (Writes files old new) (sym is) (record { visit = writes.visit; leaves = writes.leaves; by = writes.by })

-- What is found.

pub verdict_finds : (faults : List Damage) (cause : Cause) → cause ≡ cause_of_faults faults → FindsBy cause faults
verdict_finds [] cause is = subst (λ (of : Cause). FindsBy of []) (sym is) refl
verdict_finds (one ∷ later) cause is = subst (λ (of : Cause). FindsBy of (one ∷ later)) (sym is) (λ none. cc)

pub looking_finds : (faults : List Damage) (cause : Cause) → IsDiagnosisCause cause → FindsBy cause faults
looking_finds faults FileFault of = tt
looking_finds faults Busy of = tt
looking_finds faults Memory of = tt
looking_finds faults _ of = absurd of

pub telling_finds : (faults : List Damage) (cause : Cause) → IsReportCause cause → FindsBy cause faults
telling_finds faults OutputFault of = tt
telling_finds faults Memory of = tt
telling_finds faults _ of = absurd of

pub saving_finds : (faults : List Damage) (cause : Cause) → IsSalvageCause cause → FindsBy cause faults
saving_finds faults FileFault of = tt
saving_finds faults Busy of = tt
saving_finds faults Memory of = tt
saving_finds faults (Refused TargetNotEmpty) of = tt
saving_finds faults _ of = absurd of

-- What is put.

silent_part : (lines : List ℕ) (at : SinkAt) → IsPutInPart lines at at
silent_part lines at = record { count = 0; content = sym (append-nil at.content); later = omega arith }

pub looking_prints : (lines : List ℕ) (at : SinkAt) (cause : Cause) → IsDiagnosisCause cause → PrintsFaultsBy cause lines at at
looking_prints lines at FileFault of = silent_part lines at
looking_prints lines at Busy of = silent_part lines at
looking_prints lines at Memory of = silent_part lines at
looking_prints lines at _ of = absurd of

saving_prints : (lines : List ℕ) (old new : SinkAt) (cause : Cause) → IsSalvageCause cause → IsPut lines old new
    → PrintsFaultsBy cause lines old new
saving_prints lines old new FileFault of put = part_of_put lines old new put
saving_prints lines old new Busy of put = part_of_put lines old new put
saving_prints lines old new Memory of put = part_of_put lines old new put
saving_prints lines old new (Refused TargetNotEmpty) of put = put
saving_prints lines old new _ of put = absurd of

told_all : (faults : List Damage) (lines : List ℕ) (old new : SinkAt) (verdict : Cause) → verdict ≡ cause_of_faults faults
    → PrintsFaultsBy verdict lines old new → IsPut lines old new
told_all [] lines old new verdict is prints = subst (λ (of : Cause). PrintsFaultsBy of lines old new) is prints
told_all (one ∷ later) lines old new verdict is prints = subst (λ (of : Cause). PrintsFaultsBy of lines old new) is prints

pub stopped_saving : (faults : List Damage) (lines : List ℕ) (old new : SinkAt) (verdict cause : Cause) → verdict ≡ cause_of_faults faults
    → PrintsFaultsBy verdict lines old new → IsSalvageCause cause → PrintsFaultsBy cause lines old new
stopped_saving faults lines old new verdict cause is prints of =
    saving_prints lines old new cause of (told_all faults lines old new verdict is prints)

-- Why it may end.

looking_may_end : (salvage : Bool) (cause : Cause) → IsDiagnosisCause cause → MayEndCheck salvage cause
looking_may_end salvage FileFault of = tt
looking_may_end salvage Busy of = tt
looking_may_end salvage Memory of = tt
looking_may_end salvage cause of = absurd of

telling_may_end : (salvage : Bool) (cause : Cause) → IsReportCause cause → MayEndCheck salvage cause
telling_may_end salvage OutputFault of = tt
telling_may_end salvage Memory of = tt
telling_may_end salvage cause of = absurd of

saving_may_end : (cause : Cause) → IsSalvageCause cause → MayEndCheck true cause
saving_may_end FileFault of = tt
saving_may_end Busy of = tt
saving_may_end Memory of = tt
saving_may_end (Refused TargetNotEmpty) of = refl
saving_may_end cause of = absurd of

verdict_may_end : (salvage : Bool) (faults : List Damage) (cause : Cause) → cause ≡ cause_of_faults faults → MayEndCheck salvage cause
verdict_may_end salvage [] cause is = subst (MayEndCheck salvage) (sym is) tt
verdict_may_end salvage (one ∷ later) cause is = subst (MayEndCheck salvage) (sym is) tt

-- The parts together.

looking_where : (salvage tells : Bool) (files : Files) (to : DirectoryAt) (cause : Cause) → IsDiagnosisCause cause
    → WritesWhere salvage tells files to to cause
looking_where true tells files to cause of = λ told. stopped_looking files to cause of
looking_where false tells files to cause of = refl

-- nothing was told
pub look_stopped : (salvage tells : Bool) (first last : World) (to : DirectoryAt) (at : StreamAt) (cause : Cause)
    → (tells ≡ true → LeavesDirectory first last) → IsDiagnosisCause cause → Checks salvage tells first last to to at at cause
look_stopped salvage tells first last to at cause leaves of = record {
  leaves = leaves;
  prints = λ told out. looking_prints (fault_lines (faults_of (reading first))) at.sink cause of;
  finds = λ told. looking_finds (faults_of (reading first)) cause of;
  may_end = looking_may_end salvage cause of;
  writes = looking_where salvage tells (reading first) to cause of;
}

-- the directory could not be surveyed
host_looking : (fault : HostFault) → IsDiagnosisCause (cause_of_host fault)
host_looking host.Failed = tt
host_looking host.Memory = tt

pub host_stop : (result : Result Cause CommandError) (fault : HostFault) → IsErrAnd result (λ made. made ≡ error_of (cause_of_host fault))
    → IsDiagnosisCause (cause_by result)
host_stop (Ok cause) fault is = absurd is
host_stop (Err stopped) fault is = subst (λ (error : CommandError). IsDiagnosisCause error.cause) (sym is) (host_looking fault)

pub entry_stop : (result : Result Cause CommandError) (fault : EnterFault)
    → IsErrAnd result (λ made. made ≡ error_of (cause_of_entry fault)) → IsDiagnosisCause (cause_by result)
entry_stop (Ok cause) fault is = absurd is
entry_stop (Err stopped) fault is = subst (λ (error : CommandError). IsDiagnosisCause error.cause) (sym is) (entry_looking fault)

-- the lines could not be put
telling_where : (salvage tells : Bool) (files : Files) (to : DirectoryAt) (cause : Cause) → IsReportCause cause
    → WritesWhere salvage tells files to to cause
telling_where true tells files to cause of = λ told. stopped_telling files to cause of
telling_where false tells files to cause of = refl

pub tell_stopped : (salvage tells : Bool) (first last : World) (to : DirectoryAt) (list : List Damage) (was is : StreamAt)
    (stopped : CommandError) → (tells ≡ true → LeavesDirectory first last) → (tells ≡ true → list ≡ faults_of (reading first))
    → ReportsFaults was.tells list was.sink is.sink (Err stopped) → Checks salvage tells first last to to was is stopped.cause
tell_stopped salvage tells first last to list was is stopped leaves same told = record {
  leaves = leaves;
  prints = λ known out.
      subst (λ (faults : List Damage). PrintsFaultsBy stopped.cause (fault_lines faults) was.sink is.sink) (same known) (told.prints out);
  finds = λ known. telling_finds (faults_of (reading first)) stopped.cause told.stopped;
  may_end = telling_may_end salvage stopped.cause told.stopped;
  writes = telling_where salvage tells (reading first) to stopped.cause told.stopped;
}

-- all faults were told
pub record Told (tells : Bool) (first : World) (was is : StreamAt) (verdict : Cause) : Type 0 where
  pub verdict_is : tells ≡ true → verdict ≡ cause_of_faults (faults_of (reading first))
  pub may_end : (salvage : Bool) → MayEndCheck salvage verdict
  pub prints : tells ≡ true → was.tells ≡ true → PrintsFaultsBy verdict (fault_lines (faults_of (reading first))) was.sink is.sink

pub tell_done : (tells : Bool) (first : World) (list : List Damage) (was is : StreamAt) (verdict : Cause) → (tells ≡ true
    → list ≡ faults_of (reading first)) → ReportsFaults was.tells list was.sink is.sink (Ok verdict) → Told tells first was is verdict
tell_done tells first list was is verdict same told = record {
  verdict_is = λ known. told.verdict ∙ ap cause_of_faults (same known);
  may_end = λ salvage. verdict_may_end salvage list verdict told.verdict;
  prints = λ known out.
      subst (λ (faults : List Damage). PrintsFaultsBy verdict (fault_lines faults) was.sink is.sink) (same known) (told.prints out);
}

-- the new directory could not be written
pub save_stopped : (tells : Bool) (first last : World) (to_old to_new : DirectoryAt) (was is : StreamAt) (verdict cause : Cause)
    → (tells ≡ true → LeavesDirectory first last) → Told tells first was is verdict → IsSalvageCause cause
    → (tells ≡ true → Writes (reading first) to_old to_new cause) → Checks true tells first last to_old to_new was is cause
save_stopped tells first last to_old to_new was is verdict cause leaves told of writes = record {
  leaves = leaves;
  prints = λ known out. stopped_saving (faults_of (reading first)) (fault_lines (faults_of (reading first))) was.sink is.sink verdict cause
      (told.verdict_is known) (told.prints known out) of;
  finds = λ known. saving_finds (faults_of (reading first)) cause of;
  may_end = saving_may_end cause of;
  writes = writes;
}

-- it was written
pub save_done : (tells : Bool) (first last : World) (to_old to_new : DirectoryAt) (was is : StreamAt) (verdict : Cause)
    → (tells ≡ true → LeavesDirectory first last) → Told tells first was is verdict
    → (tells ≡ true → Writes (reading first) to_old to_new Done) → Checks true tells first last to_old to_new was is verdict
save_done tells first last to_old to_new was is verdict leaves told writes = record {
  leaves = leaves;
  prints = told.prints;
  finds = λ known. verdict_finds (faults_of (reading first)) verdict (told.verdict_is known);
  may_end = told.may_end true;
  writes = λ known. verdict_writes (reading first) to_old to_new (faults_of (reading first)) verdict (told.verdict_is known) (writes known);
}

-- without a salvage
pub listed : (tells : Bool) (first last : World) (to : DirectoryAt) (list : List Damage) (was is : StreamAt)
    (result : Result Cause CommandError) → (tells ≡ true → LeavesDirectory first last) → (tells ≡ true → list ≡ faults_of (reading first))
    → ReportsFaults was.tells list was.sink is.sink result → Checks false tells first last to to was is (cause_by result)
listed tells first last to list was is (Ok verdict) leaves same told =
    let all : Told tells first was is verdict = tell_done tells first list was is verdict same told in
    record {
      leaves = leaves;
      prints = all.prints;
      finds = λ known. verdict_finds (faults_of (reading first)) verdict (all.verdict_is known);
      may_end = all.may_end false;
      writes = refl;
    }
listed tells first last to list was is (Err stopped) leaves same told =
    tell_stopped false tells first last to list was is stopped leaves same told

-- no file and no lock is at fault where the lines are recorded
telling_no_file : (cause : Cause) → IsReportCause cause → ¬ (cause ≡ FileFault)
telling_no_file OutputFault of = λ is. cc
telling_no_file Memory of = λ is. cc
telling_no_file _ of = absurd of

telling_no_lock : (cause : Cause) → IsReportCause cause → ¬ (cause ≡ Busy)
telling_no_lock OutputFault of = λ is. cc
telling_no_lock Memory of = λ is. cc
telling_no_lock _ of = absurd of

verdict_no_fault : (faults : List Damage) → ¬ (cause_of_faults faults ≡ FileFault) × ¬ (cause_of_faults faults ≡ Busy)
verdict_no_fault [] = (λ is. cc, λ is. cc)
verdict_no_fault (one ∷ later) = (λ is. cc, λ is. cc)

pub tells_no_file : (tells : Bool) (list : List Damage) (was is : SinkAt) (result : Result Cause CommandError)
    → ReportsFaults tells list was is result → ¬ (cause_by result ≡ FileFault)
tells_no_file tells list was is (Ok verdict) told = λ same. (verdict_no_fault list).0 (sym told.verdict ∙ same)
tells_no_file tells list was is (Err stopped) told = telling_no_file stopped.cause told.stopped

pub tells_no_lock : (tells : Bool) (list : List Damage) (was is : SinkAt) (result : Result Cause CommandError)
    → ReportsFaults tells list was is result → ¬ (cause_by result ≡ Busy)
tells_no_lock tells list was is (Ok verdict) told = λ same. (verdict_no_fault list).1 (sym told.verdict ∙ same)
tells_no_lock tells list was is (Err stopped) told = telling_no_lock stopped.cause told.stopped

-- the words could not be read, or request nothing
unread : (asked : Result Bool WordsFault) (old : DirectoriesAt) → ChecksAsRequested asked old old Memory
unread (Ok salvage) old = record {
  visit = visit_none old.from;
  checks = look_stopped salvage old.from.tells old.from.world old.from.world old.to old.out Memory (λ told. leaves_same old.from.world) tt;
}
unread (Err fault) old = (refl, inr refl)

pub does_nothing : (asked : Result Bool WordsFault) (old : DirectoriesAt) (fault : WordsFault) → Answers asked (Err fault)
    → ChecksAsRequested asked old old (words_cause fault)
does_nothing asked old words.Usage answers =
    subst (λ (of : Result Bool WordsFault). ChecksAsRequested of old old (words_cause words.Usage)) answers (refl, inl refl)
does_nothing asked old words.BadQueue answers =
    subst (λ (of : Result Bool WordsFault). ChecksAsRequested of old old (words_cause words.BadQueue)) answers (refl, inl refl)
does_nothing asked old words.Memory answers = unread asked old
