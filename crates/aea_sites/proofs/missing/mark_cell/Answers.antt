use Rattle.std.proofs.Common.{◌≡◌, sym, ◌∙◌, ap, subst, arith}
use Rattle.aea_lattice.specs.declared.grid.Lattice.{Lattice}
use Rattle.aea_lattice.specs.Blocks.{HasBlock, number_of, blocks_count}
use Rattle.aea_place.specs.declared.homes.Spot.{Spot}
use Rattle.aea_sites.proofs.Rows.{cell_marked, cell_outside}
use Rattle.aea_sites.proofs.missing.mark_cell.Goals as goal

pub returns-then-k-from-clause-marks : goal.returns-then-k-from-clause-marks
returns-then-k-from-clause-marks c =
    let m = c.args.marks.now in
    let spot : Spot = record { site = c.args.site; cell = c.args.cell } in
    cell_marked m c.set.new.self c.args.sites c.at-k.result spot c.block.result
    (record {
      block = subst (λ (l : Lattice). HasBlock l c.block.result) c.lattice.ensures.lattice c.block.ensures.block;
      whole = c.set.ensures.whole;
      same = c.set.ensures.lattice;
      marks = c.set.ensures.marks;
    })
    (ap (λ (l : Lattice). number_of l c.block.result) (sym c.lattice.ensures.lattice) ∙ c.block.ensures.number)
    c.at-k.ensures.home c.at-k.ensures.only

pub returns-else-k-from-clause-marks : goal.returns-else-k-from-clause-marks
returns-else-k-from-clause-marks c =
    let m = c.args.marks.now in
    let spot : Spot = record { site = c.args.site; cell = c.args.cell } in
    let count : c.from.result ≡ blocks_count m.lattice = c.from.ensures ∙ c.blocks-2.ensures.count ∙ ap blocks_count c.lattice.ensures.lattice in
    cell_outside m c.args.sites c.at-k.result spot (omega (arith, c.if-k-from.false, count)) c.at-k.ensures.only
