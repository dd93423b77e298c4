use Rattle.std.proofs.Common.{◌≡◌, None, Some, inl, inr, refl}
use Rattle.aea_peel.proofs.Queues.{parity_in, waits_as, still, next_inside}
use Rattle.aea_peel.proofs.worklist.add_parity.Goals as goal

pub add-requires-in-Some-clause-node : goal.add-requires-in-Some-clause-node
add-requires-in-Some-clause-node c =
    let next = (c.in-Some.ensures.next c.in-Some.next).0 refl in
    next_inside c.args.lattice.now c.args.class c.args.node c.in-Some.next next.0 next.1

pub returns-in-None-clause-added : goal.returns-in-None-clause-added
returns-in-None-clause-added c = λ e has contains.
    elim (parity_in c.args.lattice.now e c.args.node c.args.class c.requires.class.parity contains) [
      | inl own ↦ waits_as c.args.lattice.now c.args.marks.now.marks c.add.new.waiting.items c.args.node c.args.class e own.0 own.1 c.in_ok-add.ensures.added has
      | inr after ↦ let none : None ≡ Some e.node = (c.in-None.ensures.next e.node).1 (has.node.last, after.1) in absurd (cc)
    ]

pub returns-in_ok-add-in-Some-clause-added : goal.returns-in_ok-add-in-Some-clause-added
returns-in_ok-add-in-Some-clause-added c = λ e has contains.
    elim (parity_in c.args.lattice.now e c.args.node c.args.class c.requires.class.parity contains) [
      | inl own ↦
          still c.args.lattice.now c.args.marks.now.marks 1 c.add.new.waiting.items c.add-in-Some.new.waiting.items e c.in_ok-add-in-Some.ensures.adds
          (waits_as c.args.lattice.now c.args.marks.now.marks c.add.new.waiting.items c.args.node c.args.class e own.0 own.1 c.in_ok-add.ensures.added has)
      | inr after ↦
          let next : Some c.in-Some.next ≡ Some e.node = (c.in-Some.ensures.next e.node).1 (has.node.last, after.1) in
          let node : e.node ≡ c.in-Some.next = cc in
          waits_as c.args.lattice.now c.args.marks.now.marks c.add-in-Some.new.waiting.items c.in-Some.next c.args.class e node after.0 c.in_ok-add-in-Some.ensures.added has
    ]
