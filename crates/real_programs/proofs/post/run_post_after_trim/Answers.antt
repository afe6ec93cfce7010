use Rattle.real_programs.proofs.PostLemmas.{posts_by}
use Rattle.real_programs.proofs.post.run_post_after_trim.Goals as goal

pub returns-clause-run : goal.returns-clause-run
returns-clause-run g c = record {
  trimmed = c.trim_by-trimmed.result;
  between = c.trim_by-trimmed.new.system;
  trim = c.trim_by-trimmed.ensures.run;
  posts = posts_by _ _ _ _ _ _ _ _ _ _ c.is_damage.ensures c.post_unless.ensures;
}
