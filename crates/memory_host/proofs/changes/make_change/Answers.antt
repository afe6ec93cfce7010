use Rattle.std.proofs.Common.{ap, ◌∙◌}
use Rattle.memory_host.specs.inside.Table.{touches}
use Rattle.memory_host.proofs.TableLemmas.{same_name-refl, touches_first, touches_second}
use Rattle.memory_host.proofs.changes.make_change.Goals as goal

pub set_now-requires : goal.set_now-requires
set_now-requires c = record {
  place = c.requires.places c.in-Made.name (ap (λ change. touches change c.in-Made.name) c.in-Made.is ∙ same_name-refl c.in-Made.name);
}

pub move_body-requires-clause-from : goal.move_body-requires-clause-from
move_body-requires-clause-from c = c.requires.places c.in-Renamed.from (ap (λ change. touches change c.in-Renamed.from) c.in-Renamed.is
    ∙ touches_first c.in-Renamed.from c.in-Renamed.to)

pub move_body-requires-clause-to : goal.move_body-requires-clause-to
move_body-requires-clause-to c = c.requires.places c.in-Renamed.to (ap (λ change. touches change c.in-Renamed.to) c.in-Renamed.is
    ∙ touches_second c.in-Renamed.from c.in-Renamed.to)

pub set_now-requires-in-Removed : goal.set_now-requires-in-Removed
set_now-requires-in-Removed c = record {
  place = c.requires.places c.in-Removed.name (ap (λ change. touches change c.in-Removed.name) c.in-Removed.is
      ∙ same_name-refl c.in-Removed.name);
}
