use Rattle.std.proofs.Common.{◌≡◌, ◌≢◌, List, ℕ, refl, sym, ◌∙◌, ap, subst, arith}
use Rattle.aea_disk.proofs.Moments.{passes_none}
use Rattle.aea_lattice.specs.declared.grid.Lattice.{Lattice}
use Rattle.aea_lattice.specs.Blocks.{HasBlock, number_of}
use Rattle.aea_shelf.specs.Places.{HasAtHome}
use Rattle.aea_archive.proofs.Cells.{changes_cell}
use Rattle.aea_rehearse.proofs.Homes.{block_in_shape}
use Rattle.aea_rehearse.proofs.Going.{struck_cell, spared_cell, go_on, homes_stay}
use Rattle.aea_rehearse.proofs.altering.alter_next.Goals as goal

pub returns-then-strike-clause-goes : goal.returns-then-strike-clause-goes
returns-then-strike-clause-goes g c x payload recorded was going =
    let v = c.args.ledger.now in
    let b = c.block-b.result in
    let same = c.lattice-lattice.ensures.value in
    let alpha = ap (λ (l : Lattice). l.alpha) (sym same) ∙ c.lattice-lattice.ensures.of_shape.alpha in
    let has : HasBlock v.lattice b = subst (λ (l : Lattice). HasBlock l b) same c.block-b.ensures.block in
    let number : number_of v.lattice b ≡ c.args.k = subst (λ (l : Lattice). number_of l b ≡ c.args.k) same c.block-b.ensures.number in
    let old = (g.D.Disk.state c.args.disk.now).files in
    let new = (g.D.Disk.state c.alter_block.new.disk).files in
    let change = changes_cell c.cells_are_apart.ensures c.homes_are_in_rows.ensures v.shape v.lattice.n b old new (block_in_shape v.shape v.lattice b alpha has) has.last c.alter_block.ensures.step in
    let is = struck_cell v.lattice x c.args.k c.args.permille c.args.generator.now.state c.strike.new.self.state payload b number was c.strike.ensures.state (sym c.strike.ensures.strikes ∙ c.if-strike.true) in
    go_on c.cells_have_lengths.ensures c.numbers_reveal_blocks.ensures v x c.args.permille c.args.k payload b old new alpha has number recorded change.homes
    (subst (λ (cell : List ℕ). HasAtHome v.shape b cell new) (sym is)
    (c.alter_block.ensures.flipped (payload b) (recorded.wide b has) (recorded.digests b has) (going.rest b has (omega (arith, number)))))
    going

pub returns-else-strike-clause-goes : goal.returns-else-strike-clause-goes
returns-else-strike-clause-goes g c x payload recorded was going =
    let v = c.args.ledger.now in
    let b = c.block-b.result in
    let same = c.lattice-lattice.ensures.value in
    let alpha = ap (λ (l : Lattice). l.alpha) (sym same) ∙ c.lattice-lattice.ensures.of_shape.alpha in
    let has : HasBlock v.lattice b = subst (λ (l : Lattice). HasBlock l b) same c.block-b.ensures.block in
    let number : number_of v.lattice b ≡ c.args.k = subst (λ (l : Lattice). number_of l b ≡ c.args.k) same c.block-b.ensures.number in
    let old = (g.D.Disk.state c.args.disk.now).files in
    let is = spared_cell v.lattice x c.args.k c.args.permille c.args.generator.now.state c.strike.new.self.state payload b number was c.strike.ensures.state (sym c.strike.ensures.strikes ∙ c.if-strike.false) in
    go_on c.cells_have_lengths.ensures c.numbers_reveal_blocks.ensures v x c.args.permille c.args.k payload b old old alpha has number recorded (homes_stay v.shape (λ a. a ≢ b) old old refl)
    (subst (λ (cell : List ℕ). HasAtHome v.shape b cell old) (sym is) (going.rest b has (omega (arith, number))))
    going

pub returns-else-strike-clause-time : goal.returns-else-strike-clause-time
returns-else-strike-clause-time g c = passes_none (g.D.Disk.state c.args.disk.now)
