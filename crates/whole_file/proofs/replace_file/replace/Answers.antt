use Rattle.whole_file.proofs.ReplaceLemmas.{cleared_alone, placed_since, replaced}
use Rattle.whole_file.proofs.replace_file.replace.Goals as goal

pub returns-in_err-clear_left-clause-files : goal.returns-in_err-clear_left-clause-files
returns-in_err-clear_left-clause-files g c = λ known.
    cleared_alone c.args.temp.now c.args.target.now c.args.bytes.now c.requires.differ (g.H.Host.world c.args.host.now)
    (g.H.Host.world c.clear_left.new.host)
    (g.H.Host.world c.clear_left.new.host) (c.in_err-clear_left.ensures.files known)

pub returns-clause-files : goal.returns-clause-files
returns-clause-files g c = λ known.
    placed_since c.args.temp.now c.args.target.now c.args.bytes.now c.requires.differ (g.H.Host.world c.args.host.now)
    (g.H.Host.world c.clear_left.new.host)
    (g.H.Host.world c.place.new.host) (c.in_ok-clear_left.ensures.files known) (c.place.ensures.files known)

pub returns-clause-placed : goal.returns-clause-placed
returns-clause-placed g c = λ known.
    replaced c.place.result c.args.temp.now c.args.target.now c.args.bytes.now (g.H.Host.world c.args.host.now).now.directory
    (g.H.Host.world c.clear_left.new.host).now.directory
    (g.H.Host.world c.place.new.host).now.directory (c.in_ok-clear_left.ensures.gone known) (c.place.ensures.placed known)
