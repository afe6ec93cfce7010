use Rattle.std.proofs.Common.{ℕ, List, codes, subst, ap, ◌∙◌}
use Rattle.system_calls.specs.Calls.{status_call}
use Rattle.caller_rules.specs.FileStatuses.{IsDecidedBy, is_directory_status}
use Rattle.caller_rules.specs.SpoolPaths.{path_within}
use Rattle.caller_rules.proofs.daemon_request.is_daemon_up.Goals as goal

-- the path that was looked at is the user's
pub returns : goal.returns
returns g c =
    subst (λ (path : List ℕ). IsDecidedBy (status_call path) is_directory_status (g.S.System.trace c.args.system.now)
    (g.S.System.trace c.is_directory_at.new.system) c.is_directory_at.result)
    (c.in_ok-path.ensures ∙ ap (path_within (codes "/run/coefhird/up")) c.as_str.ensures) c.is_directory_at.ensures
