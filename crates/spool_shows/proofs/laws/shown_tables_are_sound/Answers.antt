use Rattle.spool_shows.proofs.SoundTables.{shown_tables_are_sound as law}
use Rattle.spool_shows.proofs.laws.shown_tables_are_sound.Goals as goal

pub returns : goal.returns
returns c = law
