use Rattle.std.proofs.Common.{◌∙◌, ap, subst, option_map}
use Rattle.std.proofs.lemmas.Result.{on_ok_weaker}
use Rattle.aea_lattice.specs.declared.grid.Lattice.{Lattice}
use Rattle.aea_lattice.specs.Blocks.{block_of}
use Rattle.aea_lattice.specs.Strands.{previous}
use Rattle.aea_lattice.specs.Equations.{LiesInside}
use Rattle.aea_search.proofs.Around.{blocks_read}
use Rattle.aea_search.proofs.Going.{looks_then}
use Rattle.aea_search.proofs.searching.Search.look_blocks.Goals as goal

pub returns-in-Err-look-clause-looks : goal.returns-in-Err-look-clause-looks
returns-in-Err-look-clause-looks g c =
    looks_then g.D.Disk.reveals _ c.args.ledger.now c.args.self.now c.look.new.self c.look-2.new.self
    (g.D.Disk.state c.args.disk.now) (g.D.Disk.state c.look.new.disk) (g.D.Disk.state c.look-2.new.disk) c.in-Ok.ensures.looks c.in-Err-look.ensures.looks

pub returns-clause-read : goal.returns-clause-read
returns-clause-read g c =
    let l = c.args.ledger.now.lattice in
    let q = c.equation-q.result in
    let same = c.lattice.ensures.value in
    let inside : LiesInside l q = subst (λ (x : Lattice). LiesInside x q) same c.equation-q.ensures.inside in
    let second = c.look-2.ensures.looks.goes in
    let third = c.look_input.ensures.looks.goes in
    on_ok_weaker c.look_input.result
    (λ input.
    blocks_read l c.look_input.new.self.read c.args.e q c.equation-q.ensures.datum c.equation-q.ensures.output
    (c.equation-q.ensures.input ∙ ap (λ (x : Lattice). option_map (λ g. block_of g c.args.e.class) (previous x c.args.e.class c.args.e.node)) same)
    (third.read q.datum inside.datum (second.read q.datum inside.datum c.in-Ok.ensures.read))
    (third.read q.output inside.output c.in-Ok-look.ensures.read)
    input)
    c.look_input.ensures.read

pub returns-clause-looks : goal.returns-clause-looks
returns-clause-looks g c =
    looks_then g.D.Disk.reveals _ c.args.ledger.now c.args.self.now c.look.new.self c.look_input.new.self
    (g.D.Disk.state c.args.disk.now) (g.D.Disk.state c.look.new.disk) (g.D.Disk.state c.look_input.new.disk) c.in-Ok.ensures.looks
    (looks_then g.D.Disk.reveals _ c.args.ledger.now c.look.new.self c.look-2.new.self c.look_input.new.self
    (g.D.Disk.state c.look.new.disk) (g.D.Disk.state c.look-2.new.disk) (g.D.Disk.state c.look_input.new.disk) c.in-Ok-look.ensures.looks c.look_input.ensures.looks)
