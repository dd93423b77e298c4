use Rattle.std.proofs.Common.{inl, inr, arith}
use Rattle.aea_lattice.specs.declared.blocks.Class.TheVariants.{Horiz, Right, Left}
use Rattle.aea_peel.proofs.Queues.{Adds-trans, parity_classes, waits_as, still}
use Rattle.aea_peel.proofs.worklist.add_node.Goals as goal

pub returns-clause-adds : goal.returns-clause-adds
returns-clause-adds c =
    Adds-trans c.args.lattice.now 2 1 3 c.args.waiting.now.items c.add-2.new.waiting.items c.add-3.new.waiting.items (omega arith)
    (Adds-trans c.args.lattice.now 1 1 2 c.args.waiting.now.items c.add.new.waiting.items c.add-2.new.waiting.items (omega arith)
    c.in_ok-add.ensures.adds c.in_ok-add-2.ensures.adds)
    c.in_ok-add-3.ensures.adds

pub returns-clause-added : goal.returns-clause-added
returns-clause-added c = λ e has node.
    elim (parity_classes e.class has.class.parity) [
      | inl horiz ↦
          still c.args.lattice.now c.args.marks.now.marks 1 c.add-2.new.waiting.items c.add-3.new.waiting.items e c.in_ok-add-3.ensures.adds
          (still c.args.lattice.now c.args.marks.now.marks 1 c.add.new.waiting.items c.add-2.new.waiting.items e c.in_ok-add-2.ensures.adds
          (waits_as c.args.lattice.now c.args.marks.now.marks c.add.new.waiting.items c.args.node Horiz e node horiz c.in_ok-add.ensures.added has))
      | inr other ↦ elim other [
        | inl right ↦
            still c.args.lattice.now c.args.marks.now.marks 1 c.add-2.new.waiting.items c.add-3.new.waiting.items e c.in_ok-add-3.ensures.adds
            (waits_as c.args.lattice.now c.args.marks.now.marks c.add-2.new.waiting.items c.args.node Right e node right c.in_ok-add-2.ensures.added has)
        | inr left ↦ waits_as c.args.lattice.now c.args.marks.now.marks c.add-3.new.waiting.items c.args.node Left e node left c.in_ok-add-3.ensures.added has
      ]
    ]
