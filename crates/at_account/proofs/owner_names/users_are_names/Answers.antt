use Rattle.std.proofs.Common.{subst}
use Rattle.std.specs.List.{All}
use Rattle.std.proofs.lemmas.List.{take_all}
use Rattle.std.proofs.lemmas.List.Elements.{All-contains, All-more}
use Rattle.spool_model.specs.declared.row.Row.{Row}
use Rattle.spool_model.specs.Users.{IsUserName}
use Rattle.at_account.proofs.owner_names.users_are_names.Goals as goal

pub loop-row-preserved : goal.loop-row-preserved
loop-row-preserved c =
    All-more (λ (row : Row). IsUserName row.user) c.args.rows.now c.loop-row.row-index c.row-item.result
    c.loop-row-test.true c.loop-row.invariant
    (subst (λ (row : Row). IsUserName row.user) c.row-item.is (subst IsUserName c.as_bytes.ensures.bytes c.as_bytes.ensures.name))

pub returns : goal.returns
returns c row has =
    All-contains (λ (row : Row). IsUserName row.user) c.args.rows.now row
    (subst (All (λ (row : Row). IsUserName row.user)) (take_all c.loop-row.row-index c.args.rows.now c.loop-row-test.false)
    c.loop-row.invariant) has
