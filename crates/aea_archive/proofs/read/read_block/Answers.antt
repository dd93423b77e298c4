use Rattle.std.proofs.Common.{◌≡◌, ◌↔◌, ℕ, List, subst}
use Rattle.std.specs.Prelude.{IfOk}
use Rattle.aea_lattice.specs.declared.shape.Shape.{Shape}
use Rattle.aea_shelf.specs.declared.shelf.Cell.TheVariants.{Intact, Bad}
use Rattle.aea_shelf.specs.Intact.{IsIntact}
use Rattle.aea_archive.proofs.read.read_block.Goals as goal

pub returns-clause-intact : goal.returns-clause-intact
returns-clause-intact g c =
    subst (λ (want : List ℕ). IfOk c.read_cell.result (λ r. g.D.Disk.reveals → (r ≡ Intact) ↔ IsIntact c.args.ledger.now.shape c.args.b want (g.D.Disk.state c.args.disk.now).files)) c.recorded-want.ensures
    (subst (λ (shape : Shape). IfOk c.read_cell.result (λ r. g.D.Disk.reveals → (r ≡ Intact) ↔ IsIntact shape c.args.b c.recorded-want.result (g.D.Disk.state c.args.disk.now).files)) c.shape.ensures.value c.read_cell.ensures.intact)

pub returns-clause-bad : goal.returns-clause-bad
returns-clause-bad g c =
    subst (λ (want : List ℕ). IfOk c.read_cell.result (λ r. g.D.Disk.reveals → (r ≡ Bad) ↔ (IsIntact c.args.ledger.now.shape c.args.b want (g.D.Disk.state c.args.disk.now).files → ⊥))) c.recorded-want.ensures
    (subst (λ (shape : Shape). IfOk c.read_cell.result (λ r. g.D.Disk.reveals → (r ≡ Bad) ↔ (IsIntact shape c.args.b c.recorded-want.result (g.D.Disk.state c.args.disk.now).files → ⊥))) c.shape.ensures.value c.read_cell.ensures.bad)
