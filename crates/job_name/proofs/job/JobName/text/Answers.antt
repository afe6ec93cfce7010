use Rattle.std.proofs.Common.{◌∙◌, ap, take, replicate, refl}
use Rattle.job_name.proofs.JobNameLemmas.{written_text}
use Rattle.job_name.proofs.job.JobName.text.Goals as goal

pub returns : goal.returns
returns c = written_text c.args.self.now.queue c.args.self.now.number c.args.self.now.minute c.number_digits-digits.result
    c.args.self.now.new_form (replicate 17 c.args.self.now.queue) c.write_hex.new.out c.write_hex-2.new.out _ c.number_digits-digits.ensures
    (record { letter = c.args.self.now.letter; drawn = c.args.self.now.drawn; in_calendar = c.args.self.now.in_calendar })
    refl refl c.write_hex.auto.out c.write_hex-2.auto.out c.write_hex.ensures c.write_hex-2.ensures
    (c.truncate.ensures.items ∙ ap (take _) c.from-text.ensures.0)
