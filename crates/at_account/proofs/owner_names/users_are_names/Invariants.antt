use Rattle.std.proofs.Common.{take}
use Rattle.std.specs.List.{All}
use Rattle.spool_model.specs.declared.row.Row.{Row}
use Rattle.spool_model.specs.Users.{IsUserName}
use Rattle.at_account.proofs.owner_names.users_are_names.Given as goal

abbrev pub invariant-loop-row : goal.invariant-loop-row
invariant-loop-row l = All (λ (row : Row). IsUserName row.user) (take l.row-index l.rows)
