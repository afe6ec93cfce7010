-- What list readings report.
use Rattle.host_calls.specs.Clock.{Answers, Readers}
use Rattle.memory_host.specs.Readings.{answers_to, readings_spelling}
use Rattle.memory_host.specs.declared.readings.ListReadings.{ListReadings}

-- the answers so far, and the rest that was requested
abbrev pub answers_so_far : ListReadings → Answers
answers_so_far readings =
    record {
      nows = answers_to readings.nows.items readings.now_count;
      loads = answers_to readings.loads.items readings.load_count;
      rested = readings.rested;
    }

-- the two lists that the readings were made as, and how often there was no load
abbrev pub readers_so_far : ListReadings → Readers
readers_so_far readings =
    record { made_as = readings_spelling readings.nows.items readings.loads.items; load_faults = readings.load_faults }
