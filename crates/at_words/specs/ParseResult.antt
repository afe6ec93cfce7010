-- What a parse of the words answers.
use Rattle.std.specs.Prelude.{◌≡◌, [], List, Result, Ok, Err}
use Rattle.clap.specs.Faults.{fault_of}
use Rattle.clap.specs.Matches.{found_of}
use Rattle.clap.specs.Simple.{App, matches_of}
use Rattle.clap.specs.Walk.{Text, rows_of}
use Rattle.clap.specs.declared.parser.matches.ArgMatches.{ArgMatches}
use Rattle.at_words.specs.declared.fault.WordsFault.{WordsFault}
use Rattle.at_words.specs.declared.fault.WordsFault.TheVariants.{Usage, BadQueue, Memory}

-- the matches where `clap` finds no fault with the words
abbrev pub Parses : App → List Text → Result ArgMatches WordsFault → Type 0
Parses app words (Ok matches) = (fault_of app words ≡ []) × (rows_of (found_of matches) ≡ matches_of app words)
Parses app words (Err Usage) = ¬ (fault_of app words ≡ [])
Parses app words (Err BadQueue) = ⊥
Parses app words (Err Memory) = Unit {0}
