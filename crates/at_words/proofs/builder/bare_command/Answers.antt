use Rattle.std.proofs.Common.{true, ap, ◌∙◌}
use Rattle.clap.specs.Simple.{App, app_of_fields}
use Rattle.at_words.specs.Commands.{bare_app}
use Rattle.at_words.proofs.builder.bare_command.Goals as goal

pub returns : goal.returns
unfolding bare_app
returns c =
    ap app_of_fields c.disable_help_flag.ensures
    ∙ ap (λ (app : App). record { top = record app.top { disable_help_flag = true }; subs = app.subs }) c.new.ensures.app
