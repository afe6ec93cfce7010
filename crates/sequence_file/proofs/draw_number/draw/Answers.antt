use Rattle.sequence_file.proofs.DrawingLemmas.{drawing}
use Rattle.sequence_file.proofs.draw_number.draw.Goals as goal

pub returns-in_err-place-clause-files : goal.returns-in_err-place-clause-files
returns-in_err-place-clause-files g c =
    λ tells. drawing c.args.last c.temporary_name.result c.sequence_name.result c.sequence_file_text.result (g.H.Host.world c.args.host.now)
    _ c.temporary_name.ensures c.sequence_name.ensures c.sequence_file_text.ensures (c.requires.last tells) (c.place.ensures.files tells)

pub returns-clause-files : goal.returns-clause-files
returns-clause-files g c =
    λ tells. drawing c.args.last c.temporary_name.result c.sequence_name.result c.sequence_file_text.result (g.H.Host.world c.args.host.now)
    _ c.temporary_name.ensures c.sequence_name.ensures c.sequence_file_text.ensures (c.requires.last tells) (c.place.ensures.files tells)
