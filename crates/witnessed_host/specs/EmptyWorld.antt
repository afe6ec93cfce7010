-- A directory without files, and inputs without content (own).
use Rattle.std.specs.Prelude.{[], false, None}
use Rattle.std.specs.FinMap as map
use Rattle.host_calls.specs.Inputs.{Contents}
use Rattle.host_calls.specs.World.{World}

-- a directory without files, before the first call
abbrev pub empty_world : World
empty_world =
    record {
      now = record {
        directory = record {
          durable = map.empty;
          pending = [];
          body = λ _. record { bytes = []; is_synced = false; is_unsynced_at = λ _. false };
        };
        handed = [];
      };
      before = [];
      asked = [];
    }

-- an empty standard input, and no file
abbrev pub no_contents : Contents
no_contents = record { standard = []; file = λ _. None }
