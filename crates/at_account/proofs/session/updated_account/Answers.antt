use Rattle.at_account.proofs.session.updated_account.Goals as goal

pub returns-in-Ok-clause-spelled : goal.returns-in-Ok-clause-spelled
returns-in-Ok-clause-spelled g c =
    c.in-Ok.ensures.spelled c.in_ok-account.ensures.spelled c.args.store.now.table c.last.ensures.sound
    c.rows.ensures.rows c.decided.ensures
    (λ row has. (c.rows.ensures.ranges row has).named.letter)

pub returns-in-Ok-clause-counts : goal.returns-in-Ok-clause-counts
returns-in-Ok-clause-counts g c = λ known.
    let observed = c.in-Ok.ensures.observed c.args.store.now.table c.rows.ensures.rows c.decided.ensures in
    record {
      read = c.in_ok-account.account;
      new_records = observed.new_records;
      gives = c.in_ok-account.ensures.reads known;
      are = observed.are;
      all = observed.added;
      few = c.in-Ok.ensures.few;
    }
