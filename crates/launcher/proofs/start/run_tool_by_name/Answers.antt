use Rattle.std.proofs.Common.{inl, map, refl, string_bytes}
use Rattle.launcher.proofs.start.run_tool_by_name.Goals as goal

pub returns : goal.returns
returns g c = inl (record {
  tool = c.in-Some.tool;
  words = map string_bytes c.take_tool.new.words.items;
  own_words = map string_bytes c.run_tool.new.words.items;
  calls = _;
  how = c.in_ok-end.end.how;
  left = c.in_ok-end.end.run.system;
  exit = c.in_ok-end.end.run.exit;
  end = rw c.new-system.ensures.nothing at c.in_ok-end.ensures.end;
  code_is = refl;
})
