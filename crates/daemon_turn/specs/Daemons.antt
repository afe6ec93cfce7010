-- What a daemon keeps from turn to turn (own).
use Rattle.std.specs.Prelude.{[], ℕ, List, refl}
use Rattle.std.specs.Coded.{Coded, code_by, coded×, coded_ℕ, coded_list}
use Rattle.daemon_turn.specs.contracts.kid.Kid as kid
use Rattle.daemon_turn.specs.declared.kid.Kid.{Kid}

-- What a daemon keeps: its children, by number, the limit of the load in hundredths, and how many seconds lie between
-- two starts in batch queues.
pub record DaemonState : Type 0 where
  pub kids : List Kid
  pub limit : ℕ
  pub interval : ℕ

-- the watch of a daemon that has no children
abbrev pub new_daemon : ℕ → ℕ → DaemonState
new_daemon limit interval = record { kids = []; limit = limit; interval = interval }

-- How a proof distinguishes one daemon from another: by these three
abbrev pub daemon_code : Coded DaemonState
daemon_code =
    code_by (List Kid × (ℕ × ℕ)) (coded× (coded_list kid.the_row.coded) (coded× coded_ℕ coded_ℕ))
    (λ daemon. (daemon.kids, (daemon.limit, daemon.interval)))
    (λ parts. record { kids = parts.0; limit = parts.1.0; interval = parts.1.1 })
    (λ _. refl)
