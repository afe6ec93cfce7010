use Rattle.std.proofs.Common.{◌≡◌, ℕ, false, List, sym, ◌∙◌, refl}
use Rattle.std.specs.Prelude.{Option, Some, None, is_some}
use Rattle.host_calls.specs.World.{reading}
use Rattle.whole_file.proofs.ContentLemmas.{found_is}
use Rattle.spool_faults.proofs.scan.content_among.Goals as goal

-- no value, where none is found
none_found : (held : Option (List ℕ)) → false ≡ is_some held → None ≡ held
none_found None is = refl
none_found (Some value) is = cc

pub returns-then-not-contains-clause-content : goal.returns-then-not-contains-clause-content
returns-then-not-contains-clause-content g c = λ tells.
    none_found _ (sym c.if-not-contains.true ∙ found_is (reading (g.H.Host.world c.args.host.now)) c.args.name.now c.args.names.now
    c.contains.result (c.requires.listed tells) c.contains.ensures.value)

pub whole-requires-clause-held : goal.whole-requires-clause-held
whole-requires-clause-held g c = λ tells.
    sym (found_is (reading (g.H.Host.world c.args.host.now)) c.args.name.now c.args.names.now c.contains.result (c.requires.listed tells)
    c.contains.ensures.value) ∙ c.if-not-contains.false
