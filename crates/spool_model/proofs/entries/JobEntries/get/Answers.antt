use Rattle.std.proofs.Common.{◌∙◌, sym, ap}
use Rattle.std.specs.FinMap as finite
use Rattle.spool_model.proofs.EntriesLemmas.{get-from_map}
use Rattle.spool_model.proofs.entries.JobEntries.get.Goals as goal

pub returns : goal.returns
returns c = c.get.ensures.value ∙ sym (get-from_map c.self.inside.map.entries c.args.number)
    ∙ ap (λ entries. finite.get entries c.args.number) c.self.view_is
