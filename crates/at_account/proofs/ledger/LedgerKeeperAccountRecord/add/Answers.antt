use Rattle.std.proofs.Common.{◌∙◌, sym, ap}
use Rattle.at_account.specs.RecordStates.{record_state_after}
use Rattle.at_account.proofs.StandingLemmas.{none_more, stand_more}
use Rattle.at_account.proofs.ledger.LedgerKeeperAccountRecord.add.Goals as goal

pub returns-in_ok-insert : goal.returns-in_ok-insert
returns-in_ok-insert c before stand may =
    stand_more before c.args.next.now c.args.self.now.record_states c.insert.new.self c.in-Some.record_state stand may
    (ap (λ at. record_state_after at c.args.next.now.event) (sym c.get.ensures.value)
    ∙ sym c.record_state_after-record_state.ensures ∙ c.in-Some.is)
    c.in_ok-insert.ensures.updates.0

pub returns-in_default : goal.returns-in_default
returns-in_default c before stand may =
    absurd (none_more before c.args.next.now c.args.self.now.record_states stand may
    (ap (λ at. record_state_after at c.args.next.now.event) (sym c.get.ensures.value)
    ∙ sym c.record_state_after-record_state.ensures ∙ c.in_default.is))
