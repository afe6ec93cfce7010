use Rattle.std.proofs.Common.{[], ◌∷◌, ◌++◌, refl}
use Rattle.start_journal.proofs.LifecycleLemmas.{told_more}
use Rattle.start_journal.proofs.TakenLemmas.{kept_lives, near_more}
use Rattle.start_journal.proofs.take_marks.keep_taken.Goals as goal

pub returns-in_ok-push-clause-near : goal.returns-in_ok-push-clause-near
returns-in_ok-push-clause-near c =
    λ all. near_more c.args.marks.now.items c.push.new.self.items c.args.place c.in-Some.mark c.in_ok-push.ensures.items c.requires.near all

pub returns-in_ok-push-clause-lives : goal.returns-in_ok-push-clause-lives
returns-in_ok-push-clause-lives c = λ before tell legal.
    kept_lives before c.args.mark c.in-Some.mark c.add.new.self c.in-Some.is
    (told_more before (before ++ c.in-Some.mark ∷ []) c.args.lives.now c.add.new.self c.in-Some.mark refl c.in_ok-add.ensures tell) legal
