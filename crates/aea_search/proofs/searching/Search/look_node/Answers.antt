use Rattle.std.proofs.Common.{inl, inr}
use Rattle.std.proofs.lemmas.Result.{on_ok_weaker}
use Rattle.aea_lattice.specs.declared.blocks.Class.TheVariants.{Horiz, Right, Left}
use Rattle.aea_search.proofs.Around.{parity_classes, read_as, all_still}
use Rattle.aea_search.proofs.Going.{looks_then}
use Rattle.aea_search.proofs.searching.Search.look_node.Goals as goal

pub returns-in-Err-look_class-clause-looks : goal.returns-in-Err-look_class-clause-looks
returns-in-Err-look_class-clause-looks g c =
    looks_then g.D.Disk.reveals _ c.args.ledger.now c.args.self.now c.look_class.new.self c.look_class-2.new.self
    (g.D.Disk.state c.args.disk.now) (g.D.Disk.state c.look_class.new.disk) (g.D.Disk.state c.look_class-2.new.disk) c.in-Ok.ensures.looks c.in-Err-look_class.ensures.looks

pub returns-clause-read : goal.returns-clause-read
returns-clause-read g c =
    let l = c.args.ledger.now.lattice in
    let a = c.look_class.new.self.read in
    let b = c.look_class-2.new.self.read in
    let d = c.look_class-3.new.self.read in
    let second = c.look_class-2.ensures.looks.goes.read in
    let third = c.look_class-3.ensures.looks.goes.read in
    on_ok_weaker c.look_class-3.result
    (λ last e has node.
    elim (parity_classes e.class has.class.parity) [
      | inl horiz ↦ all_still l b d third e has (all_still l a b second e has (read_as l a c.args.node Horiz e node horiz c.in-Ok.ensures.read has))
      | inr other ↦ elim other [
        | inl right ↦ all_still l b d third e has (read_as l b c.args.node Right e node right c.in-Ok-look_class.ensures.read has)
        | inr left ↦ read_as l d c.args.node Left e node left last has
      ]
    ])
    c.look_class-3.ensures.read

pub returns-clause-looks : goal.returns-clause-looks
returns-clause-looks g c =
    looks_then g.D.Disk.reveals _ c.args.ledger.now c.args.self.now c.look_class.new.self c.look_class-3.new.self
    (g.D.Disk.state c.args.disk.now) (g.D.Disk.state c.look_class.new.disk) (g.D.Disk.state c.look_class-3.new.disk) c.in-Ok.ensures.looks
    (looks_then g.D.Disk.reveals _ c.args.ledger.now c.look_class.new.self c.look_class-2.new.self c.look_class-3.new.self
    (g.D.Disk.state c.look_class.new.disk) (g.D.Disk.state c.look_class-2.new.disk) (g.D.Disk.state c.look_class-3.new.disk) c.in-Ok-look_class.ensures.looks c.look_class-3.ensures.looks)
