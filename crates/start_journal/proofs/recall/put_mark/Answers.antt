use Rattle.start_journal.proofs.LifecycleLemmas.{told_more}
use Rattle.start_journal.proofs.recall.put_mark.Goals as goal

pub returns-clause-lives : goal.returns-clause-lives
returns-clause-lives c = told_more c.args.marks.now.items c.push.new.self.items c.args.lives.now c.add.new.self c.args.mark
    c.in_ok-push.ensures.items c.in_ok-add.ensures
