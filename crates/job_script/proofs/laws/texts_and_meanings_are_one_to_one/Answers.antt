use Rattle.job_script.proofs.OneMeaning.{one_meaning, one_text}
use Rattle.job_script.proofs.laws.texts_and_meanings_are_one_to_one.Goals as goal

pub returns : goal.returns
returns c = record {
  meaning = λ one two first second. one_meaning c.args.text.now one two first second;
  text = λ job form same first second. one_text c.args.text.now c.args.other.now job form same first second;
}
