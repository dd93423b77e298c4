use Rattle.std.proofs.Common.{subst}
use Rattle.aea_ledger.specs.Recorded.{IsLatticeOf}
use Rattle.aea_ledger.specs.Values.{Opened}
use Rattle.aea_ledger.proofs.Lying.{lattice_of}
use Rattle.aea_ledger.proofs.ledger.Ledger.lattice.Goals as goal

pub returns-clause-of_shape : goal.returns-clause-of_shape
returns-clause-of_shape c =
    subst (λ (v : Opened). IsLatticeOf v.shape c.self.inside.lattice.n c.self.inside.lattice.fences c.self.inside.lattice) c.self.view_is
    (lattice_of (record { shape = c.self.inside.shape; lattice = c.self.inside.lattice; objects = c.self.inside.catalog.objects; raised = c.self.inside.raised; digests = c.self.inside.digests.items; hasher = c.self.inside.hasher; seal = c.self.inside.seal; end = c.self.inside.end; live = c.self.inside.live }) c.self.invariant)
