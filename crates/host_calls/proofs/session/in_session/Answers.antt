use Rattle.std.proofs.Common.{rules}
use Rattle.std.specs.Fn.{CalledAtMut}
use Rattle.host_calls.specs.SessionWork.{IsSessionBegun}
use Rattle.host_calls.proofs.session.in_session.Goals as goal

pub work-answer-requires : goal.work-answer-requires
work-answer-requires g c =
    let begun : IsSessionBegun g.H.Host c.args.host.now c.enter.new.self = record {
      inside = c.in_ok-enter.ensures.enters.inside;
      children = c.in_ok-enter.ensures.enters.children;
      counts = c.in_ok-enter.ensures.enters.counts;
      quiet = record { goes_on = c.in_ok-enter.ensures.goes_on; alone = c.in_ok-enter.ensures.alone };
    } in
    search (rules, c.requires.may, begun)

pub leave-requires : goal.leave-requires
leave-requires g c =
    let begun : IsSessionBegun g.H.Host c.args.host.now c.enter.new.self = record {
      inside = c.in_ok-enter.ensures.enters.inside;
      children = c.in_ok-enter.ensures.enters.children;
      counts = c.in_ok-enter.ensures.enters.counts;
      quiet = record { goes_on = c.in_ok-enter.ensures.goes_on; alone = c.in_ok-enter.ensures.alone };
    } in
    let did : CalledAtMut g.F.FnMut c.args.work.now c.enter.new.self c.work-answer.result c.work-answer.new.self c.work-answer.new.arg2 =
    search rules in
    c.requires.stays c.enter.new.self c.work-answer.new.arg2 c.work-answer.new.self c.work-answer.result begun did

pub returns : goal.returns
returns g c =
    let did : CalledAtMut g.F.FnMut c.args.work.now c.enter.new.self c.work-answer.result c.work-answer.new.self c.work-answer.new.arg2 =
    search rules in
    record {
      ends = record {
        first = c.enter.new.self;
        last = c.work-answer.new.arg2;
        begun = record {
          inside = c.in_ok-enter.ensures.enters.inside;
          children = c.in_ok-enter.ensures.enters.children;
          counts = c.in_ok-enter.ensures.enters.counts;
          quiet = record { goes_on = c.in_ok-enter.ensures.goes_on; alone = c.in_ok-enter.ensures.alone };
        };
        did = did;
        over = c.leave.ensures.left;
        quiet = record { goes_on = c.leave.ensures.goes_on; alone = c.leave.ensures.alone };
      };
    }
