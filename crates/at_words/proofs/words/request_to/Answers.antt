use Rattle.at_words.specs.Requests.{request_to}
use Rattle.at_words.proofs.words.request_to.Goals as goal

pub returns-in-At : goal.returns-in-At
unfolding request_to
returns-in-At c = rw c.in-At.is c.request.ensures

pub returns-in-Batch : goal.returns-in-Batch
unfolding request_to
returns-in-Batch c = rw c.in-Batch.is c.request-in-Batch.ensures

pub returns-in-Atq : goal.returns-in-Atq
unfolding request_to
returns-in-Atq c = rw c.in-Atq.is c.request-in-Atq.ensures

pub returns-in-Atrm : goal.returns-in-Atrm
unfolding request_to
returns-in-Atrm c = rw c.in-Atrm.is c.request-in-Atrm.ensures

pub returns-in-Atd : goal.returns-in-Atd
unfolding request_to
returns-in-Atd c = rw c.in-Atd.is c.request-in-Atd.ensures

pub returns-in-Atday : goal.returns-in-Atday
unfolding request_to
returns-in-Atday c = rw c.in-Atday.is c.request-in-Atday.ensures
