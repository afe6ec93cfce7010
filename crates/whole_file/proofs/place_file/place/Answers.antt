use Rattle.whole_file.proofs.PlaceLemmas.{made_held, to_end, to_made, to_placed, to_renamed, to_synced, to_whole, whole_held}
use Rattle.whole_file.proofs.place_file.place.Goals as goal

pub returns-in_err-create-clause-files : goal.returns-in_err-create-clause-files
returns-in_err-create-clause-files g c = λ tells. to_made c.args.temp.now c.args.target.now c.args.bytes.now
    (g.H.Host.world c.args.host.now) c.requires.differ (c.requires.no_temp tells) _ c.create.result (c.create.ensures.files tells)

pub sync-requires-clause-held : goal.sync-requires-clause-held
sync-requires-clause-held g c = λ tells. made_held c.args.temp.now c.args.bytes.now _ _ (c.in_ok-create.ensures.files tells).outcome

pub returns-in_err-sync-clause-files : goal.returns-in_err-sync-clause-files
returns-in_err-sync-clause-files g c =
    λ tells. to_synced c.args.temp.now c.args.target.now c.args.bytes.now (g.H.Host.world c.args.host.now) c.requires.differ
    (c.requires.no_temp tells) _ _ c.in_ok-create.field-0 c.sync.result (c.in_ok-create.ensures.files tells) (c.sync.ensures.files tells)

pub rename-requires-clause-held : goal.rename-requires-clause-held
rename-requires-clause-held g c = λ tells. whole_held c.args.temp.now c.args.bytes.now _ _ (to_whole c.args.temp.now c.args.target.now
    c.args.bytes.now (g.H.Host.world c.args.host.now) c.requires.differ (c.requires.no_temp tells) _ _ c.in_ok-create.field-0
    c.in_ok-sync.field-0 (c.in_ok-create.ensures.files tells) (c.in_ok-sync.ensures.files tells))

pub returns-in_err-rename-clause-files : goal.returns-in_err-rename-clause-files
returns-in_err-rename-clause-files g c = λ tells. to_renamed c.args.temp.now c.args.target.now c.args.bytes.now
    (g.H.Host.world c.args.host.now) c.requires.differ (c.requires.no_temp tells) _ _ _ c.in_ok-create.field-0 c.in_ok-sync.field-0
    c.rename.result (c.in_ok-create.ensures.files tells) (c.in_ok-sync.ensures.files tells) (c.rename.ensures.files tells)

pub returns-clause-files : goal.returns-clause-files
returns-clause-files g c = λ tells.
    to_end c.args.temp.now c.args.target.now c.args.bytes.now (g.H.Host.world c.args.host.now) c.requires.differ (c.requires.no_temp tells)
    _ _ _ _ c.in_ok-create.field-0 c.in_ok-sync.field-0 c.in_ok-rename.field-0 c.sync_names.result (c.in_ok-create.ensures.files tells)
    (c.in_ok-sync.ensures.files tells) (c.in_ok-rename.ensures.files tells) (c.sync_names.ensures.files tells)

pub returns-clause-placed : goal.returns-clause-placed
returns-clause-placed g c = λ tells. to_placed c.args.temp.now c.args.target.now c.args.bytes.now (g.H.Host.world c.args.host.now)
    c.requires.differ (c.requires.no_temp tells) _ _ _ _ c.in_ok-create.field-0 c.in_ok-sync.field-0 c.in_ok-rename.field-0
    c.sync_names.result (c.in_ok-create.ensures.files tells) (c.in_ok-sync.ensures.files tells) (c.in_ok-rename.ensures.files tells)
    (c.sync_names.ensures.files tells)
