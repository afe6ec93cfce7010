use Rattle.std.proofs.Common.{rules, inr}
use Rattle.caller_rules.proofs.machine_lists.published_list.Goals as goal

-- root publishes copies
pub returns : goal.returns
returns g c = inr (record {
  directory = c.status-directory.result;
  content = c.read_file.result;
  between = g.S.System.trace c.status-directory.new.self;
  asked = c.status-directory.ensures;
  there = search rules;
  copied = c.read_file.ensures;
  is = c.list_of_copy.ensures;
})
