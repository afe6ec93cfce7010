use Rattle.std.proofs.Common.{◌++◌, ◌*◌, pos, ◌∙◌, ap, refl, subst, List, ℕ}
use Rattle.spool_model.specs.Users.{IsUserName}
use Rattle.listing_text.specs.Date.{date_text_of}
use Rattle.civil_minute.specs.Civil.{IsCivilTime}
use Rattle.at_stat.specs.Stages.{shown_minute}
use Rattle.at_stat.specs.Reports.{live_text}
use Rattle.at_stat.proofs.LineLemmas.{on_ok}
use Rattle.at_stat.proofs.PlainLemmas.{needs_no_escape}
use Rattle.at_stat.proofs.job_line.put_live.Goals as goal

pub returns : goal.returns
returns c =
    let row = c.args.row.now in
    let civil = c.in_ok-civil.civil in
    let user : IsUserName row.user = subst IsUserName c.as_bytes.ensures.bytes c.as_bytes.ensures.name in
    let at : IsCivilTime c.args.zone.now (pos (60 * shown_minute row)) civil =
    subst (λ (minute : ℕ). IsCivilTime c.args.zone.now (pos (60 * minute)) civil) c.shown_minute.ensures c.in_ok-civil.ensures.value in
    on_ok c.put_dated.result _ _ (λ put. record {
      line = live_text c.args.form row (date_text_of civil);
      shown = record {
        civil = civil;
        time = at;
        text = refl;
        plain = needs_no_escape row civil c.requires.range user c.in_ok-civil.ensures.printable;
      };
      put = put ∙ ap (λ (date : List ℕ). c.args.text.now.items ++ live_text c.args.form row date) c.date_text.ensures;
    }) c.put_dated.ensures
