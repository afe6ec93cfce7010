use Rattle.std.proofs.Common.{◌∙◌, ap}
use Rattle.std.specs.List.{filter_map}
use Rattle.mail_notes.specs.Book.{waiting_job}
use Rattle.mail_notes.proofs.WaitingLemmas.{are_waiting}
use Rattle.mail_notes.proofs.notice_states.NoticeStates.waiting.Goals as goal

pub returns : goal.returns
returns c notes stand =
    are_waiting notes c.args.self.now.states c.in_ok-states.ensures.ordered stand c.in_ok-jobs.jobs.items
    (c.in_ok-jobs.ensures ∙ ap (filter_map waiting_job) (c.as_slice.ensures.value ∙ c.in_ok-states.ensures.items))
