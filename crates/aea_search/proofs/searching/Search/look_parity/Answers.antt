use Rattle.std.proofs.Common.{◌≡◌, None, Some, inl, inr, subst}
use Rattle.std.proofs.lemmas.Result.{on_ok_weaker}
use Rattle.aea_lattice.specs.declared.grid.Lattice.{Lattice}
use Rattle.aea_lattice.specs.Strands.{IsNext}
use Rattle.aea_search.proofs.Around.{parity_in, read_as, all_still, same_next, no_next}
use Rattle.aea_search.proofs.Going.{looks_then}
use Rattle.aea_search.proofs.searching.Search.look_parity.Goals as goal

pub returns-in-Some-clause-around : goal.returns-in-Some-clause-around
returns-in-Some-clause-around g c =
    let l = c.args.ledger.now.lattice in
    let a = c.look_class.new.self.read in
    let b = c.look_class-in-Some.new.self.read in
    let is_next : IsNext l c.args.class c.args.node (Some c.in-Some.next) =
    subst (λ (x : Lattice). IsNext x c.args.class c.args.node (Some c.in-Some.next)) c.lattice.ensures.value c.in-Some.ensures.next in
    on_ok_weaker c.look_class-in-Some.result
    (λ last e has stands.
    elim (parity_in l e c.args.node c.args.class c.requires.class.parity stands) [
      | inl own ↦
          all_still l a b c.look_class-in-Some.ensures.looks.goes.read e has (read_as l a c.args.node c.args.class e own.0 own.1 c.in-Ok.ensures.read has)
      | inr after ↦
          let next : Some c.in-Some.next ≡ Some e.node = (is_next e.node).1 (has.node.last, after.1) in
          read_as l b c.in-Some.next c.args.class e (same_next c.in-Some.next e.node next) after.0 last has
    ])
    c.look_class-in-Some.ensures.read

pub returns-in-Some-clause-looks : goal.returns-in-Some-clause-looks
returns-in-Some-clause-looks g c =
    looks_then g.D.Disk.reveals _ c.args.ledger.now c.args.self.now c.look_class.new.self c.look_class-in-Some.new.self
    (g.D.Disk.state c.args.disk.now) (g.D.Disk.state c.look_class.new.disk) (g.D.Disk.state c.look_class-in-Some.new.disk) c.in-Ok.ensures.looks c.look_class-in-Some.ensures.looks

pub returns-in-None-clause-around : goal.returns-in-None-clause-around
returns-in-None-clause-around g c e has stands =
    let l = c.args.ledger.now.lattice in
    elim (parity_in l e c.args.node c.args.class c.requires.class.parity stands) [
      | inl own ↦ read_as l c.look_class.new.self.read c.args.node c.args.class e own.0 own.1 c.in-Ok.ensures.read has
      | inr after ↦
          let next : IsNext l c.args.class c.args.node None = subst (λ (x : Lattice). IsNext x c.args.class c.args.node None) c.lattice.ensures.value c.in-None.ensures.next in
          absurd (no_next e.node ((next e.node).1 (has.node.last, after.1)))
    ]
