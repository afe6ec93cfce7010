use Rattle.std.proofs.Common.{◌∙◌, sym, ap}
use Rattle.at_account.specs.RecordStates.{event_may_follow}
use Rattle.at_account.proofs.StandingLemmas.{may_decided}
use Rattle.at_account.proofs.ledger.LedgerKeeperAccountRecord.allows.Goals as goal

pub returns : goal.returns
returns c before stand =
    let told = may_decided before c.args.next.now c.args.self.now.record_states c.event_may_follow.result stand
    (c.event_may_follow.ensures ∙ ap (λ at. event_may_follow at c.args.next.now.event) c.get.ensures.value) in
    ((λ is. told ∙ is), (λ may. sym told ∙ may))
