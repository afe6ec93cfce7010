use Rattle.later_day.proofs.EffectRestLemmas.{effects_leave_the_rest}
use Rattle.later_day.proofs.events_laws.effects_leave_the_rest.Goals as goal

pub returns : goal.returns
returns c = effects_leave_the_rest
