-- What inputs in memory report.
use Rattle.std.specs.Prelude.{Bool, ◌||◌, not, is_some}
use Rattle.host_calls.specs.Inputs.{Contents, Sources}
use Rattle.memory_host.specs.Inputs.{given_contents, inputs_spelling}
use Rattle.memory_host.specs.declared.inputs.MemoryInputs.{MemoryInputs}

-- the content that was given
abbrev pub contents_given : MemoryInputs → Contents
contents_given inputs = given_contents inputs.standard inputs.file

-- what the inputs were made as, how often they were read, and how often they failed
abbrev pub sources_so_far : MemoryInputs → Sources
sources_so_far inputs = record {
  made_as = inputs_spelling inputs.standard inputs.file inputs.fails;
  reads = inputs.reads;
  input_faults = inputs.input_faults;
}

-- they were made to fail at each call
abbrev pub are_failing : MemoryInputs → Bool
are_failing inputs = inputs.fails

-- asking for the file fails
abbrev pub file_fails : MemoryInputs → Bool
file_fails inputs = inputs.fails || not (is_some inputs.file)
