use Rattle.aea_catalog.proofs.Catalogues.{objects_of-nil}
use Rattle.aea_catalog.proofs.catalog.Catalog.new.Goals as goal

pub returns-clause-objects : goal.returns-clause-objects
returns-clause-objects c = rw (c.new.ensures.items, c.new-2.ensures.pieces) objects_of-nil
