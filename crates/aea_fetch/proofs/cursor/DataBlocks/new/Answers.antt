use Rattle.std.proofs.Common.{◌∙◌, ap}
use Rattle.std.specs.FinMap.{get}
use Rattle.aea_catalog.specs.Catalogs.{Objects}
use Rattle.aea_archive.specs.Objects.{parts_under}
use Rattle.aea_fetch.proofs.Blocks.{under_inside, parts_classes}
use Rattle.aea_fetch.proofs.cursor.DataBlocks.new.Goals as goal

pub returns-clause-inside : goal.returns-clause-inside
returns-clause-inside c =
    let v = c.args.ledger.now in
    under_inside v.lattice (get v.objects c.args.name.now)
    (λ p is. (c.catalog-catalog.ensures.within c.args.name.now p (ap (λ (m : Objects). get m c.args.name.now) c.catalog-catalog.ensures.objects ∙ is)).apart)

pub returns-clause-data : goal.returns-clause-data
returns-clause-data c = parts_classes (parts_under (get c.args.ledger.now.objects c.args.name.now))
