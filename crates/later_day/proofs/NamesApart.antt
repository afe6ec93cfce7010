-- The names of mail and of the mark differ, and are none of the store's.
use Rattle.std.proofs.Common.{◌≡◌, ◌≢◌, ◌∙◌, ℕ, true, false, List, ap, arith, inl, inr, length, refl, sym}
use Rattle.std.specs.Str.{bytes_eq}
use Rattle.std.proofs.lemmas.Slice.Eq.{bytes_eq-Decides}
use Rattle.mail_notes.specs.Names.{IsMailName, mail_file, mail_temp}
use Rattle.mail_notes.proofs.NameLemmas.{mail_is_none_of_the_stores}
use Rattle.step_runs.specs.Current.{IsSpoolName}
use Rattle.cron_session.specs.MarkNames.{mark_file, mark_temp}
use Rattle.cron_session.specs.SessionOutcome.{IsCronName, IsSpoolOrTemp}

-- names that a test tells apart
apart : (first second : List ℕ) → bytes_eq first second ≡ false → first ≢ second
apart first second test same = let impossible : true ≡ false = sym ((bytes_eq-Decides first second).1 same) ∙ test in cc

pub mail_is_no_spool_name : ¬ (IsSpoolName mail_file)
mail_is_no_spool_name = mail_is_none_of_the_stores mail_file (inl refl)

pub mail_is_no_temp : ¬ (IsSpoolOrTemp mail_file)
mail_is_no_temp (inl spool) = mail_is_no_spool_name spool
mail_is_no_temp (inr is) = apart mail_file mark_temp refl is

pub mail_is_no_cron_name : ¬ (IsCronName mail_file)
mail_is_no_cron_name (inl spool) = mail_is_no_spool_name spool
mail_is_no_cron_name (inr (inl is)) = apart mail_file mark_temp refl is
mail_is_no_cron_name (inr (inr is)) = apart mail_file mark_file refl is

pub mark_is_no_mail_name : ¬ (IsMailName mark_file)
mark_is_no_mail_name (inl is) = apart mark_file mail_file refl is
mark_is_no_mail_name (inr (inl is)) = apart mark_file mail_temp refl is
mark_is_no_mail_name (inr (inr (number, is))) = let counted : ◌≡◌ {A = ℕ} 5 13 = ap length is in omega arith
