-- What a trim leaves, by its end (own).
use Rattle.std.specs.Prelude.{Bool, List}
use Rattle.host_calls.specs.Session.{Session}
use Rattle.host_calls.specs.World.{World}
use Rattle.host_calls.specs.declared.turn_end.TurnEnd.{TurnEnd}
use Rattle.spool_model.specs.JobTable.{JobTable}
use Rattle.mail_notes.specs.declared.note.Note.{Note}
use Rattle.at_mail.specs.Rewriting.{IsRewriting, IsRewritten, RewriteLeaves, RewritesTo}
use Rattle.at_mail.specs.TrimmedNotes.{trimmed}

-- each image holds the notes or those of them that stay
abbrev pub IsTrimming : JobTable → List Note → World → World → Type 0
IsTrimming table notes old new = IsRewriting table notes (trimmed table notes) old new

-- the notes that stay are in each image
abbrev pub IsTrimmed : World → World → Type 0
IsTrimmed old new = (table : JobTable) × (notes : List Note) × IsRewritten table notes (trimmed table notes) old new

-- the trim was stopped in its replacement
abbrev pub IsTrimStopped : World → World → Type 0
IsTrimStopped old new = (table : JobTable) × (notes : List Note) × IsTrimming table notes old new

-- what a trim leaves, by its end
abbrev pub TrimLeaves : World → World → TurnEnd → Type 0
TrimLeaves old new end = RewriteLeaves IsTrimmed IsTrimStopped old new end

-- a trim
abbrev pub TrimsTo : Bool → Bool → Session → Session → World → World → TurnEnd → Type 0
TrimsTo tells alone before after old new end = RewritesTo IsTrimmed IsTrimStopped tells alone before after old new end
