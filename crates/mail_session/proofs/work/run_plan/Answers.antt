use Rattle.std.proofs.Common.{◌∙◌, ℕ, List, subst, sym}
use Rattle.host_calls.specs.World.{reading}
use Rattle.whole_file.specs.Removal.{AreCleared, AreFiles, IsClearing}
use Rattle.whole_file.specs.Others.{ChangesFiles}
use Rattle.mail_session.proofs.CarryLemmas.{carried, clear_stops, may_clear, no_temp_left}
use Rattle.mail_session.proofs.work.run_plan.Goals as goal

pub clear-requires-clause-held : goal.clear-requires-clause-held
clear-requires-clause-held g c = λ known.
    subst (λ (names : List (List ℕ)). AreFiles names (reading (g.H.Host.world c.args.host.now))) (sym c.as_slice.ensures.value)
    (may_clear (g.H.Host.world c.args.host.now) c.args.kids.now.items c.args.plan.now (c.requires.may known))

pub returns-in_err-clear : goal.returns-in_err-clear
returns-in_err-clear g c =
    clear_stops g.H.Host.tells (g.H.Host.session c.args.host.now) (g.H.Host.session c.clear.new.host) (g.H.Host.world c.args.host.now)
    (g.H.Host.world c.clear.new.host)
    c.args.plan.now c.args.kids.now.items c.args.sent.now.items c.requires.may
    (λ known. subst (λ (names : List (List ℕ)). ChangesFiles (IsClearing names (g.H.Host.world c.args.host.now).now.directory)
    (g.H.Host.world c.args.host.now) (g.H.Host.world c.clear.new.host))
    c.as_slice.ensures.value (c.in_err-clear.ensures.files known))
    c.args.program.now c.in_err-clear.field-0.0 c.from_residual.result c.from_residual.ensures.1 c.in_err-clear.ensures.inside

pub make_steps-requires-clause-no_temp : goal.make_steps-requires-clause-no_temp
make_steps-requires-clause-no_temp g c =
    no_temp_left g.H.Host.tells (g.H.Host.session c.args.host.now) (g.H.Host.session c.clear.new.host) (g.H.Host.world c.args.host.now)
    (g.H.Host.world c.clear.new.host)
    c.args.plan.now c.args.kids.now.items c.args.sent.now.items c.requires.may
    (λ known. subst (λ (names : List (List ℕ)). ChangesFiles (IsClearing names (g.H.Host.world c.args.host.now).now.directory)
    (g.H.Host.world c.args.host.now) (g.H.Host.world c.clear.new.host))
    c.as_slice.ensures.value (c.in_ok-clear.ensures.files known))
    c.in_ok-clear.ensures.inside
    (λ known some. subst (λ (names : List (List ℕ)).
    AreCleared names (g.H.Host.world c.args.host.now).now.directory (g.H.Host.world c.clear.new.host).now.directory)
    c.as_slice.ensures.value (c.in_ok-clear.ensures.cleared known (λ none. some (sym c.as_slice.ensures.value ∙ none))))

pub returns : goal.returns
returns g c =
    carried g.H.Host.tells (g.H.Host.session c.args.host.now) (g.H.Host.session c.clear.new.host) (g.H.Host.world c.args.host.now)
    (g.H.Host.world c.clear.new.host)
    c.args.plan.now c.args.kids.now.items c.args.sent.now.items c.requires.may
    (λ known. subst (λ (names : List (List ℕ)). ChangesFiles (IsClearing names (g.H.Host.world c.args.host.now).now.directory)
    (g.H.Host.world c.args.host.now) (g.H.Host.world c.clear.new.host))
    c.as_slice.ensures.value (c.in_ok-clear.ensures.files known))
    c.in_ok-clear.ensures.inside
    (λ known some. subst (λ (names : List (List ℕ)).
    AreCleared names (g.H.Host.world c.args.host.now).now.directory (g.H.Host.world c.clear.new.host).now.directory)
    c.as_slice.ensures.value (c.in_ok-clear.ensures.cleared known (λ none. some (sym c.as_slice.ensures.value ∙ none))))
    c.args.program.now (g.H.Host.session c.make_steps.new.host) (g.H.Host.world c.make_steps.new.host) c.make_steps.new.kids.items
    c.make_steps.new.sent.items c.make_steps.result c.make_steps.ensures
