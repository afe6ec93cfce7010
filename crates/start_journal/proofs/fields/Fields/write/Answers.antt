use Rattle.std.proofs.Common.{◌≡◌, ◌∙◌, ◌<◌, ◌^◌, length, arith}
use Rattle.start_journal.proofs.WriteLemmas.{kinded, ended, statused, part_long, room, ended_long, kinded_long, statused_long, written}
use Rattle.start_journal.proofs.fields.Fields.write.Goals as goal

pub write_hex-requires-3-clause-fits : goal.write_hex-requires-3-clause-fits
write_hex-requires-3-clause-fits c =
    let fits : c.args.self.now.second < 2 ^ 64 = omega (arith, c.requires) in
    let number : length c.write_hex.new.out ≡ 8 = c.write_hex.auto.out
    ∙ part_long 2 8 (kinded c.args.self.now c.args.slot.now) (omega (arith, kinded_long c.args.self.now c.args.slot.now c.told-slot)) in
    let status : length c.write_hex-2.new.out ≡ 2 = c.write_hex-2.auto.out ∙ part_long 12 2 (ended c.args.self.now c.args.slot.now
    c.write_hex.new.out) (omega (arith, ended_long c.args.self.now c.args.slot.now c.write_hex.new.out c.told-slot number)) in
    room (statused c.args.self.now c.args.slot.now c.write_hex.new.out c.write_hex-2.new.out) c.args.self.now.second
    (statused_long c.args.self.now c.args.slot.now c.write_hex.new.out c.write_hex-2.new.out c.told-slot number status) fits

pub returns : goal.returns
returns c =
    let number : length c.write_hex.new.out ≡ 8 = c.write_hex.auto.out
    ∙ part_long 2 8 (kinded c.args.self.now c.args.slot.now) (omega (arith, kinded_long c.args.self.now c.args.slot.now c.told-slot)) in
    let status : length c.write_hex-2.new.out ≡ 2 = c.write_hex-2.auto.out ∙ part_long 12 2 (ended c.args.self.now c.args.slot.now
    c.write_hex.new.out) (omega (arith, ended_long c.args.self.now c.args.slot.now c.write_hex.new.out c.told-slot number)) in
    let second : length c.write_hex-3.new.out ≡ 16 = c.write_hex-3.auto.out
    ∙ part_long 14 16 (statused c.args.self.now c.args.slot.now c.write_hex.new.out c.write_hex-2.new.out)
    (omega (arith, statused_long c.args.self.now c.args.slot.now c.write_hex.new.out c.write_hex-2.new.out c.told-slot number status)) in
    written c.args.self.now c.args.slot.now c.write_hex.new.out c.write_hex-2.new.out c.write_hex-3.new.out c.told-slot number status second
    c.write_hex.ensures c.write_hex-2.ensures c.write_hex-3.ensures
