use Rattle.cron_turn.proofs.listing_program.next_program.Goals as goal

pub returns-clause-runs : goal.returns-clause-runs
returns-clause-runs g c = rw c.of.ensures (record {
  cause = c.list_by_words-cause.result;
  lists = c.list_by_words-cause.ensures.lists;
  line = c.say_cause.ensures.said;
})
