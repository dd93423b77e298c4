use Rattle.std.proofs.Common.{subst}
use Rattle.aea_ledger.specs.Values.{Opened}
use Rattle.aea_ledger.specs.Lying.{LieWithin}
use Rattle.aea_ledger.proofs.Appends.{few_objects}
use Rattle.aea_ledger.proofs.Lying.{objects_lie}
use Rattle.aea_ledger.proofs.ledger.Ledger.catalog.Goals as goal

pub returns-clause-few : goal.returns-clause-few
returns-clause-few c = few_objects (record { shape = c.self.inside.shape; lattice = c.self.inside.lattice; objects = c.self.inside.catalog.objects; raised = c.self.inside.raised; digests = c.self.inside.digests.items; hasher = c.self.inside.hasher; seal = c.self.inside.seal; end = c.self.inside.end; live = c.self.inside.live }) c.objects_are_counted.ensures c.records_are_few.ensures c.self.invariant

pub returns-clause-within : goal.returns-clause-within
returns-clause-within c =
    subst (λ (v : Opened). LieWithin v.shape v.lattice.n c.self.inside.catalog.objects) c.self.view_is
    (objects_lie (record { shape = c.self.inside.shape; lattice = c.self.inside.lattice; objects = c.self.inside.catalog.objects; raised = c.self.inside.raised; digests = c.self.inside.digests.items; hasher = c.self.inside.hasher; seal = c.self.inside.seal; end = c.self.inside.end; live = c.self.inside.live }) c.objects_are_of_records.ensures c.self.invariant)
