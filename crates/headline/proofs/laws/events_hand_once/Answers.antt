use Rattle.headline.proofs.HeadlineLemmas.{events_hand_once}
use Rattle.headline.proofs.laws.events_hand_once.Goals as goal

pub returns : goal.returns
returns c = events_hand_once
