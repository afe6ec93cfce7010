use Rattle.headline.proofs.HeadlineLemmas.{shown_events_hand_once}
use Rattle.headline.proofs.ShownEffectLemmas.{effects_are_shown}
use Rattle.headline.proofs.laws.shown_events_hand_once.Goals as goal

pub returns-clause-events : goal.returns-clause-events
returns-clause-events c = shown_events_hand_once

pub returns-clause-effects : goal.returns-clause-effects
returns-clause-effects c = effects_are_shown
