use Rattle.at_mail.proofs.TrimEventLemmas.{notices_are_handed_once_with_trims}
use Rattle.at_mail.proofs.TrimLemmas.{crashes_of_trims_are_events, trims_are_events}
use Rattle.at_mail.proofs.trim_laws.notices_are_handed_once_with_trims.Goals as goal

pub returns-clause-once : goal.returns-clause-once
returns-clause-once c = notices_are_handed_once_with_trims

pub returns-clause-events : goal.returns-clause-events
returns-clause-events c = trims_are_events

pub returns-clause-crashes : goal.returns-clause-crashes
returns-clause-crashes c = crashes_of_trims_are_events
