use Rattle.std.proofs.Common.{subst, ◌≡◌, true}
use Rattle.memory_host.specs.inside.Table.{has_place}
use Rattle.std.proofs.lemmas.Result.{err_from_is_err_and}
use Rattle.memory_host.proofs.TableLemmas.{same_name}
use Rattle.memory_host.proofs.PastLemmas.{known_alike, known_made, known_same}
use Rattle.memory_host.proofs.past.add_file.Goals as goal

pub change-requires-clause-places : goal.change-requires-clause-places
change-requires-clause-places c = λ name touched.
    subst (λ n. has_place c.reserve.new.self.held n ≡ true) (same_name c.args.name.now name touched) c.in_ok-reserve.ensures.place

pub returns : goal.returns
returns c = λ at handed is.
    known_made at c.reserve.new.self c.change.new.self c.args.bodies.now c.make.new.self handed
    (known_same at c.args.names.now c.reserve.new.self c.args.bodies.now c.args.bodies.now handed is c.reserve.ensures.now
    c.reserve.ensures.durable c.reserve.ensures.pending c.reserve.ensures.places)
    c.args.name.now c.args.bytes.now c.count-number.result c.count-number.ensures c.change.ensures.now
    c.change.ensures.durable c.change.ensures.places
    (λ name touched. subst (λ n. has_place c.reserve.new.self.held n ≡ true) (same_name c.args.name.now name touched)
    c.in_ok-reserve.ensures.place) c.change.ensures.pending c.in_ok-make.ensures.list c.in_ok-make.ensures.unsettled

pub returns-in_err-make : goal.returns-in_err-make
returns-in_err-make c =
    let p = err_from_is_err_and c.from_residual-in_err-make.result c.from_residual-in_err-make.ensures.1 in
    rw p.1 (λ at handed is.
    known_alike at c.reserve.new.self c.args.bodies.now c.make.new.self handed
    (known_same at c.args.names.now c.reserve.new.self c.args.bodies.now c.args.bodies.now handed is c.reserve.ensures.now
    c.reserve.ensures.durable c.reserve.ensures.pending c.reserve.ensures.places)
    c.in_err-make.ensures.list c.in_err-make.ensures.unsettled)

pub returns-in_err-reserve : goal.returns-in_err-reserve
returns-in_err-reserve c = let p = err_from_is_err_and c.from_residual.result c.from_residual.ensures.1 in rw p.1 (λ at handed is.
    known_same at c.args.names.now c.reserve.new.self c.args.bodies.now c.args.bodies.now handed is c.reserve.ensures.now
    c.reserve.ensures.durable c.reserve.ensures.pending c.reserve.ensures.places)
