use Rattle.std.proofs.Common.{All, arith, ◌<◌, ◌^◌}
use Rattle.std.proofs.lemmas.List.Elements.{All-from_get_or}
use Rattle.aea_weave.specs.Woven.{Weaves}
use Rattle.aea_weave.proofs.Places.{weaves-parts}
use Rattle.aea_weave.proofs.Weaving.{sums-step, step-joined}
use Rattle.aea_weave.proofs.heads.Heads.step.Goals as goal

pub returns : goal.returns
returns c =
    let woven : Weaves c.args.self.now c.add-3.new.self c.args.payload.now =
    weaves-parts c.args.self.now c.grow.new.self c.add.new.self c.add-2.new.self c.add-3.new.self c.args.payload.now
    c.grow.ensures.grown c.grow.ensures.size c.grow.ensures.heads c.grow.ensures.all
    (record { lattice = c.add.ensures.lattice; size = c.add.ensures.size; heads = c.add.ensures.heads })
    (record { lattice = c.add-2.ensures.lattice; size = c.add-2.ensures.size; heads = c.add-2.ensures.heads })
    (record { lattice = c.add-3.ensures.lattice; size = c.add-3.ensures.size; heads = c.add-3.ensures.heads }) in
    let each : All (λ b. b < 2 ^ 8) c.args.payload.now = All-from_get_or (λ b. b < 2 ^ 8) c.args.payload.now 0 (λ i inside. omega (arith, c.type_inv.payload i)) in
    record {
      weaves = woven;
      joined = step-joined c.args.self.now.lattice c.add-3.new.self.lattice woven.grown;
      sums = λ datas sums. sums-step c.args.self.now c.add-3.new.self c.args.payload.now datas c.requires.payload each woven sums;
    }
